-- The digits and carries of a number are the only whole numbers that make it up.
use Rattle.std.proofs.Common.{◌≡◌, ◌≢◌, ℕ, zero, suc, ◌+◌, ◌<◌, ◌≤◌, ℤ, pos, negsuc, ◌+ℤ◌, ◌-ℤ◌, ◌*ℤ◌, List, [], ◌∷◌, drop, length, get_or, add-one, refl, ap, sym, ◌∙◌, inl, inr, ⊎_elim, arith}
use Rattle.std.specs.Prelude.{min, unsigned_abs}
use Rattle.std.specs.Int.{int_signum}
use Rattle.std.specs.Ordering.{int_eq}
use Rattle.std.proofs.Math.Seq.{drop-cons, drop-length}
use Rattle.std.proofs.lemmas.Bool.{cases_Bool}
use Rattle.std.proofs.lemmas.Bool.Decides.{Decides-int_eq}
use Rattle.std.proofs.lemmas.Int.{ints}
use Rattle.apl_scalar.specs.Arithmetic.{residue}
use Rattle.apl_reduce.specs.Encoding.{carried, carry_past}
use Rattle.apl_reduce.specs.Digits.{IsDigitBy, AreDigitsOf, exact_digit, exact_carry}
use Rattle.apl_reduce.proofs.Residues.{IsWithin}
use Rattle.apl_reduce.proofs.Digits.{carry_and_digit, digit_within}
use Rattle.apl_reduce.proofs.Values.{times_difference}

-- ---- a digit is within its radix

within_radix : (a d : ℤ) → a ≢ pos 0 → IsDigitBy a d → IsWithin a d
within_radix (pos zero) d some is = absurd (some refl)
within_radix (pos (suc n)) d some is = ⊎_elim (λ none. (omega (arith, ints, none), omega (arith, ints, none))) (λ more. by d (more.0 ∙ ap pos one) more.1) is where
  one : min (suc n) 1 ≡ 1
  one = omega arith

  by : (d : ℤ) → int_signum d ≡ pos 1 → unsigned_abs d < suc n → IsWithin (pos (suc n)) d
  by (pos m) sign less = (omega (arith, ints), omega (arith, ints, less))
  by (negsuc m) sign less = absurd (cc)
within_radix (negsuc n) d some is = ⊎_elim (λ none. (omega (arith, ints, none), omega (arith, ints, none))) (λ more. by d more.0 more.1) is where
  by : (d : ℤ) → int_signum d ≡ negsuc 0 → unsigned_abs d < suc n → IsWithin (negsuc n) d
  by (pos m) sign less = absurd (cc)
  by (negsuc m) sign less = (omega (arith, ints, less), omega (arith, ints))

digit_by : (a d : ℤ) → IsWithin a d → IsDigitBy a d
digit_by a (pos zero) within = inl refl
digit_by (pos zero) (pos (suc m)) within = absurd (omega (arith, ints, within.1))
digit_by (pos (suc n)) (pos (suc m)) within = inr (ap pos (omega arith), omega (arith, ints, within.1))
digit_by (negsuc n) (pos (suc m)) within = absurd (omega (arith, ints, within.1))
digit_by (pos n) (negsuc m) within = absurd (omega (arith, ints, within.0))
digit_by (negsuc n) (negsuc m) within = inr (refl, omega (arith, ints, within.0))

-- ---- a quotient and a digit are the only ones

-- a product with a radix that is nearer to 0 than the radix is of 0
small_product : (t a d e : ℤ) → IsWithin a d → IsWithin a e → t *ℤ a ≡ e -ℤ d → t ≡ pos 0
small_product (pos zero) a d e first second same = refl
small_product (pos (suc m)) (pos n) d e first second same = absurd (omega (arith, ints, first.0, first.1, second.0, second.1, same))
small_product (pos (suc m)) (negsuc n) d e first second same = absurd (omega (arith, ints, first.0, first.1, second.0, second.1, same))
small_product (negsuc m) (pos n) d e first second same = absurd (omega (arith, ints, first.0, first.1, second.0, second.1, same))
small_product (negsuc m) (negsuc n) d e first second same = absurd (omega (arith, ints, first.0, first.1, second.0, second.1, same))

only_parts : (a q r d e : ℤ) → IsWithin a d → IsWithin a e → q *ℤ a +ℤ d ≡ r *ℤ a +ℤ e → (q ≡ r) × (d ≡ e)
only_parts a q r d e first second same =
    let difference = times_difference q r a in
    let none : q -ℤ r ≡ pos 0 = small_product (q -ℤ r) a d e first second (omega (arith, ints, difference, same)) in
    let quotient : q ≡ r = omega (arith, ints, none) in
    let product : q *ℤ a ≡ r *ℤ a = ap (λ z. z *ℤ a) quotient in
    (quotient, omega (arith, ints, product, same))

carried_none : (a c : ℤ) → a ≡ pos 0 → carried a c ≡ pos 0
carried_none a c none = rw none refl

residue_none : (a c : ℤ) → a ≡ pos 0 → residue a c ≡ c
residue_none a c none = rw none refl

-- what is carried and the digit at one radix
taken_apart : (a c q d : ℤ) → c ≡ q *ℤ a +ℤ d → (a ≢ pos 0 → IsDigitBy a d) → (a ≡ pos 0 → q ≡ pos 0) → (q ≡ carried a c) × (d ≡ residue a c)
taken_apart a c q d parts small none =
    ⊎_elim
    (λ zero_is.
    let is : a ≡ pos 0 = (Decides-int_eq a (pos 0)).0 zero_is in
    let quotient : q ≡ pos 0 = none is in
    let rest : c ≡ pos 0 *ℤ pos 0 +ℤ d = parts ∙ ap (λ z. z *ℤ a +ℤ d) quotient ∙ ap (λ z. pos 0 *ℤ z +ℤ d) is in
    (quotient ∙ sym (carried_none a c is), omega (arith, ints, rest) ∙ sym (residue_none a c is)))
    (λ some_is.
    let some : a ≢ pos 0 = λ is. absurd (let e = sym some_is ∙ (Decides-int_eq a (pos 0)).1 is in cc) in
    only_parts a q (carried a c) d (residue a c) (within_radix a d some (small some)) (digit_within a c some) (sym parts ∙ sym (carry_and_digit a c)))
    (cases_Bool (int_eq a (pos 0)))

-- ---- along the radices

pub rest_of : (a b : ℤ) (radices : List ℤ) (digit carry : ℕ → ℤ) → AreDigitsOf b (a ∷ radices) digit carry → AreDigitsOf b radices (λ k. digit (suc k)) (λ k. carry (suc k))
rest_of a b radices digit carry are = record {
  last = are.last;
  step = λ k inside. ap carry (omega arith) ∙ are.step (suc k) (omega (arith, inside));
  small = λ k inside some. are.small (suc k) (omega (arith, inside)) some;
  none = λ k inside zero_is. are.none (suc k) (omega (arith, inside)) zero_is;
}

first_parts : (a b : ℤ) (radices : List ℤ) (digit carry : ℕ → ℤ) → AreDigitsOf b (a ∷ radices) digit carry → carry 1 ≡ carry_past radices b
    → (carry 0 ≡ carried a (carry_past radices b)) × (digit 0 ≡ residue a (carry_past radices b))
first_parts a b radices digit carry are next =
    taken_apart a (carry_past radices b) (carry 0) (digit 0) (sym next ∙ are.step 0 (omega arith)) (are.small 0 (omega arith)) (are.none 0 (omega arith))

pub carries_are : (radices : List ℤ) (b : ℤ) (digit carry : ℕ → ℤ) → AreDigitsOf b radices digit carry → (k : ℕ) → k ≤ length radices → carry k ≡ exact_carry radices b k
carries_are [] b digit carry are zero inside = are.last
carries_are [] b digit carry are (suc k) inside = absurd (omega arith)
carries_are (a ∷ radices) b digit carry are zero inside =
    (first_parts a b radices digit carry are (carries_are radices b (λ k. digit (suc k)) (λ k. carry (suc k)) (rest_of a b radices digit carry are) 0 (omega arith))).0
carries_are (a ∷ radices) b digit carry are (suc k) inside =
    carries_are radices b (λ k. digit (suc k)) (λ k. carry (suc k)) (rest_of a b radices digit carry are) k (omega (arith, inside))

later_digit : (a b : ℤ) (radices : List ℤ) (k : ℕ) → exact_digit radices b k ≡ exact_digit (a ∷ radices) b (suc k)
later_digit a b radices k = ap (λ j. residue (get_or radices k (pos 0)) (carry_past (drop j (a ∷ radices)) b)) (let e : suc (k + 1) ≡ suc k + 1 = omega arith in e)

pub digits_are : (radices : List ℤ) (b : ℤ) (digit carry : ℕ → ℤ) → AreDigitsOf b radices digit carry → (k : ℕ) → k < length radices → digit k ≡ exact_digit radices b k
digits_are [] b digit carry are k inside = absurd (omega arith)
digits_are (a ∷ radices) b digit carry are zero inside =
    (first_parts a b radices digit carry are (carries_are radices b (λ k. digit (suc k)) (λ k. carry (suc k)) (rest_of a b radices digit carry are) 0 (omega arith))).1
digits_are (a ∷ radices) b digit carry are (suc k) inside =
    digits_are radices b (λ k. digit (suc k)) (λ k. carry (suc k)) (rest_of a b radices digit carry are) k (omega (arith, inside)) ∙ later_digit a b radices k

-- ---- and they do make it up

carry_at : (radices : List ℤ) (b : ℤ) (k : ℕ) → k < length radices → exact_carry radices b k ≡ carried (get_or radices k (pos 0)) (exact_carry radices b (k + 1))
carry_at radices b k inside =
    ap (λ (l : List ℤ). carry_past l b) (drop-cons radices k (pos 0) inside) ∙ ap (λ j. carried (get_or radices k (pos 0)) (exact_carry radices b j)) (sym (add-one k))

pub digits_hold : (radices : List ℤ) (b : ℤ) → AreDigitsOf b radices (exact_digit radices b) (exact_carry radices b)
digits_hold radices b = record {
  last = ap (λ (l : List ℤ). carry_past l b) (drop-length radices);
  step = λ k inside.
      let a = get_or radices k (pos 0) in
      let c = exact_carry radices b (k + 1) in
      sym (carry_and_digit a c) ∙ ap (λ q. q *ℤ a +ℤ residue a c) (sym (carry_at radices b k inside));
  small = λ k inside some. digit_by (get_or radices k (pos 0)) (exact_digit radices b k) (digit_within (get_or radices k (pos 0)) (exact_carry radices b (k + 1)) some);
  none = λ k inside is. carry_at radices b k inside ∙ carried_none (get_or radices k (pos 0)) (exact_carry radices b (k + 1)) is;
}

-- Folds of neighbours that are 1 or ¯1, one number more on the right, and of both halves.
use Rattle.std.proofs.Common.{◌≡◌, ◌↔◌, inl, inr, ℕ, zero, suc, ℤ, pos, negsuc, ◌+◌, ◌*◌, ◌%◌, ◌^◌, ◌<◌, ◌≤◌, ◌-ℤ◌, ◌*ℤ◌, FitsSigned, to_z, of_z, w64, bit_or, true, List, map, Ok, refl, sym, ap, subst, ◌∙◌, ⊎_elim, arith}
use Rattle.std.specs.Prelude.{unsigned_abs, slice_index_or}
use Rattle.std.specs.Int.{bit_at}
use Rattle.std.specs.Int.Bits.{bit_xor}
use Rattle.std.proofs.Math.IntN.{*ℤ-one, *ℤ_comm}
use Rattle.std.proofs.Math.ListN.{get_or-map}
use Rattle.std.proofs.lemmas.Bool.{cases_lt}
use Rattle.std.proofs.lemmas.Int.{ints, fits_signed_from_abs}
use Rattle.std.proofs.lemmas.Int.{ints, to_z-of_z, unsigned_abs-mul}
use Rattle.std.proofs.lemmas.Nat.{le_or_l, le_or_r}
use Rattle.std.proofs.lemmas.Nat.Bits.{bit_at_or, bit_at_xor}
use Rattle.apl_array.specs.declared.array.Elem.{Elem}
use Rattle.apl_array.specs.declared.array.Elem.TheVariants.{Int}
use Rattle.apl_array.specs.declared.function.ScalarFunction.TheVariants.{Times}
use Rattle.apl_array.specs.Range.{IsInRange, in_range}
use Rattle.apl_reduce.specs.Folded.{number_step, folded_onto}
use Rattle.apl_reduce.specs.Items.{item_in}
use Rattle.apl_reduce.specs.SignFolds.{sign_by, sign_of, AreUnits, AreRunSigns}
use Rattle.apl_reduce.proofs.Folds.{two_runs, two_halves}
use Rattle.apl_reduce.proofs.Multiplying.{mul_assoc_ℤ}
use Rattle.apl_reduce.proofs.NearFolds.{near_exact}

-- ---- signs

sign_of_both : (p q : ℕ) → p < 2 → q < 2 → sign_by ((p + q) % 2) ≡ sign_by p *ℤ sign_by q
sign_of_both zero zero low least = refl
sign_of_both zero (suc zero) low least = refl
sign_of_both (suc zero) zero low least = refl
sign_of_both (suc zero) (suc zero) low least = refl
sign_of_both (suc (suc p)) q low least = absurd (omega (arith, low))
sign_of_both p (suc (suc q)) low least = absurd (omega (arith, least))

sign_of_xor : (a b : ℕ) → sign_of (bit_xor a b) ≡ sign_of a *ℤ sign_of b
sign_of_xor a b = ap sign_by (bit_at_xor a b 63) ∙ sign_of_both (bit_at a 63) (bit_at b 63) (omega arith) (omega arith)

sign_is_near : (bits : ℕ) → unsigned_abs (sign_of bits) ≡ 1
sign_is_near bits = near (bit_at bits 63)
  where
    near : (n : ℕ) → unsigned_abs (sign_by n) ≡ 1
    near zero = refl
    near (suc n) = refl

as_near : (bits : ℕ) (t : ℤ) → unsigned_abs t < 2 ^ 63 → unsigned_abs (sign_of bits *ℤ t) < 2 ^ 63
as_near bits t near = let both = unsigned_abs-mul (sign_of bits) t in let one = ap (λ n. n * unsigned_abs t) (sign_is_near bits) in omega (arith, both, one, near)

-- ---- the numbers that are signs

both_units : (a b : ℕ) → AreUnits (bit_or a b) → AreUnits a × AreUnits b
both_units a b units =
    let least = bit_at_or a b 0 in
    elim units [
      | inl none ↦ (inl (omega (arith, none, le_or_l a b)), inl (omega (arith, none, le_or_r a b)))
      | inr two ↦ (unit a (omega (arith, two, le_or_l a b)) (omega (arith, two, least)), unit b (omega (arith, two, le_or_r a b)) (omega (arith, two, least)))
    ]
  where
    unit : (n : ℕ) → n < 3 → n % 2 ≡ 0 → AreUnits n
    unit zero few even = inl refl
    unit (suc zero) few even = absurd (omega (arith, even))
    unit (suc (suc n)) few even = inr (omega (arith, few))

own_sign : (x : ℤ) → FitsSigned w64 x → AreUnits ((of_z w64 x + 1) % 2 ^ 64) → x ≡ sign_of (of_z w64 x)
own_sign (pos zero) fits units = absurd (omega (arith, units))
own_sign (pos (suc zero)) fits units = refl
own_sign (pos (suc (suc n))) fits units = absurd (omega (arith, ints, fits, units))
own_sign (negsuc zero) fits units = refl
own_sign (negsuc (suc n)) fits units = absurd (omega (arith, ints, fits, units))

pub no_signs : (numbers : List ℤ) (first : ℕ) → AreRunSigns numbers first 0 0 0
unfolding lib.IntN.one
no_signs numbers first units t near = ap Ok (sym (*ℤ_comm (pos 1) t ∙ *ℤ-one t))

module _ (decided : (z : ℤ) → (in_range z ≡ true) ↔ IsInRange z) (in_bits : (z : ℤ) → IsInRange z ↔ FitsSigned w64 z) (numbers : List ℤ) (first : ℕ) where
  abbrev item : ℕ → Elem
  item = item_in (map Int numbers)

  module _ (k signs sums : ℕ) where
    abbrev number : ℤ
    number = slice_index_or numbers (first + k) (pos 0)

    abbrev bits : ℕ
    bits = of_z w64 number

    pub one_sign_more : FitsSigned w64 number → AreRunSigns numbers first k signs sums → AreRunSigns numbers first (k + 1) (bit_xor signs bits) (bit_or sums ((bits + 1) % 2 ^ 64))
    one_sign_more fits before = λ units t near.
        let both = both_units sums ((bits + 1) % 2 ^ 64) units in
        let sign : number ≡ sign_of bits = own_sign number fits both.1 in
        let next_near : unsigned_abs (number *ℤ t) < 2 ^ 63 = subst (λ x. unsigned_abs (x *ℤ t) < 2 ^ 63) (sym sign) (as_near bits t near) in
        let more : k + 1 ≡ k + suc zero = omega arith in
        ap (λ n. folded_onto Times item first n (Ok t)) more ∙ two_runs Times item first k (suc zero) (Ok t)
        ∙ ap (folded_onto Times item first k) (ap (λ x. number_step Times x (Ok t)) (get_or-map Int numbers (first + k) (pos 0)) ∙ near_exact decided in_bits (number *ℤ t) next_near)
        ∙ before both.0 (number *ℤ t) next_near
        ∙ ap Ok (sym (mul_assoc_ℤ (sign_of signs) number t) ∙ ap (λ z. z *ℤ t) (ap (λ z. sign_of signs *ℤ z) sign ∙ sym (sign_of_xor signs bits)))

pub joined_signs : (numbers : List ℤ) (first half signs sums signs_beyond sums_beyond : ℕ) → AreRunSigns numbers first half signs sums → AreRunSigns numbers (first + half) half signs_beyond sums_beyond
    → AreRunSigns numbers first (2 * half) (bit_xor signs signs_beyond) (bit_or sums sums_beyond)
joined_signs numbers first half signs sums signs_beyond sums_beyond low high = λ units t near.
    let both = both_units sums sums_beyond units in
    two_halves Times (item_in (map Int numbers)) first half (Ok t)
    ∙ ap (folded_onto Times (item_in (map Int numbers)) first half) (high both.1 t near)
    ∙ low both.0 (sign_of signs_beyond *ℤ t) (as_near signs_beyond t near)
    ∙ ap Ok (sym (mul_assoc_ℤ (sign_of signs) (sign_of signs_beyond) t) ∙ ap (λ z. z *ℤ t) (sym (sign_of_xor signs signs_beyond)))

-- ---- a fold onto a total

-- a number of 64 bits that is not the least of them
pub near_from_bits : (z : ℤ) → FitsSigned w64 z → (of_z w64 z ≡ 9223372036854775808 → ⊥) → unsigned_abs z < 2 ^ 63
near_from_bits (pos n) fits more = omega (arith, ints, fits)
near_from_bits (negsuc n) fits more =
    ⊎_elim
    (λ below. omega (arith, below))
    (λ least. let same : n ≡ 9223372036854775807 = omega (arith, ints, fits, least) in absurd (more (ap (λ m. of_z w64 (negsuc m)) same)))
    (cases_lt n 9223372036854775807)

pub negative_sign : (bits : ℕ) → 2 ^ 63 ≤ bits → bits < 2 ^ 64 → sign_of bits ≡ negsuc 0
negative_sign bits high within = let one : bit_at bits 63 ≡ 1 = omega (arith, high, within) in ap sign_by one

opposite : (t : ℤ) → pos 0 -ℤ t ≡ negsuc 0 *ℤ t
opposite t = omega (arith, ints)

-- a number of 64 bits that is not the least of them, negated
pub negated : (t : ℤ) → unsigned_abs t < 2 ^ 63 → to_z w64 (of_z w64 (pos 0 -ℤ t)) ≡ negsuc 0 *ℤ t
negated t near =
    let as_far = unsigned_abs-mul (negsuc 0) t in
    let small : unsigned_abs (negsuc 0 *ℤ t) < 2 ^ 63 = omega (arith, as_far, near) in
    ap (λ z. to_z w64 (of_z w64 z)) (opposite t) ∙ to_z-of_z w64 (negsuc 0 *ℤ t) (fits_signed_from_abs w64 (negsuc 0 *ℤ t) small)

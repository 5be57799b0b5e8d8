-- The value of digits as a sum over their places.
use Rattle.std.proofs.Common.{◌≡◌, ℕ, zero, suc, ◌+◌, ◌<◌, ◌≤◌, ℤ, pos, ◌+ℤ◌, ◌*ℤ◌, Bool, true, false, List, [], ◌∷◌, map, take, drop, length, get_or, add-one, refl, ap, sym, ◌∙◌, subst, inl, inr, ⊎_elim, arith}
use Rattle.std.specs.Prelude.{Ok}
use Rattle.std.specs.List.{list_all, range_with_len}
use Rattle.std.proofs.Math.IntN.{*ℤ-one}
use Rattle.std.proofs.lemmas.Bool.{cases_Bool, cases_lt}
use Rattle.std.proofs.lemmas.Int.{ints}
use Rattle.std.proofs.lemmas.List.{length-take}
use Rattle.apl_array.specs.declared.array.Elem.TheVariants.{Int}
use Rattle.apl_array.specs.Range.{in_range}
use Rattle.apl_pool.specs.declared.kernel.Fault.TheVariants.{Limit}
use Rattle.apl_summary.specs.ConsecutiveSums.{total}
use Rattle.apl_reduce.specs.Decoding.{product, value_of, decoded}
use Rattle.apl_reduce.specs.Refusals.{IsRefusedOr}
use Rattle.apl_reduce.specs.Digits.{AreDigitsOf, place_values}
use Rattle.apl_reduce.proofs.OnlyDigits.{rest_of}
use Rattle.apl_reduce.proofs.Values.{times_sum, times_grouped}

-- the numbers from a + 1 on are those from a on, each with one more
map_shifted : (f g : ℕ → ℤ) → ((k : ℕ) → f (k + 1) ≡ g k) → (a n : ℕ) → map f (range_with_len (a + 1) n) ≡ map g (range_with_len a n)
map_shifted f g same a zero = refl
map_shifted f g same a (suc n) = ap (λ (x : ℤ). x ∷ map f (range_with_len (a + 1 + 1) n)) (same a) ∙ ap (λ (l : List ℤ). g a ∷ l) (map_shifted f g same (a + 1) n)

pub value_is : (radices digits : List ℤ) → length radices ≡ length digits → value_of radices digits ≡ total (place_values radices digits)
value_is [] [] same = refl
value_is [] (d ∷ digits) same = absurd (omega (arith, same))
value_is (a ∷ radices) [] same = absurd (omega (arith, same))
value_is (a ∷ radices) (d ∷ digits) same =
    let more = value_is radices digits (omega (arith, same)) in
    let f = λ (k : ℕ). get_or (d ∷ digits) k (pos 0) *ℤ product (drop (k + 1) (a ∷ radices)) in
    let g = λ (k : ℕ). get_or digits k (pos 0) *ℤ product (drop (k + 1) radices) in
    let next = λ (k : ℕ). ap f (add-one k) ∙ ap (λ j. get_or digits k (pos 0) *ℤ product (drop j (a ∷ radices))) (let e : suc k + 1 ≡ suc (k + 1) = omega arith in e) in
    ap (λ v. (d *ℤ product radices) +ℤ v) (more ∙ ap total (sym (map_shifted f g next 0 (length digits))))

-- ---- where it is refused

module _ (p : ℕ → Bool) where
  -- some number of n from a on does not pass
  found : (a n : ℕ) → list_all p (range_with_len a n) ≡ false → (k : ℕ) × (a ≤ k) × (k < a + n) × (p k ≡ false)
  found a zero none = absurd (cc)
  found a (suc n) none =
      ⊎_elim
      (λ here. let more = found (a + 1) n (rw here at none) in (more.0, omega (arith, more.1), omega (arith, more.2), more.3))
      (λ here. (a, omega arith, omega arith, here))
      (cases_Bool (p a))

  each : (a n k : ℕ) → list_all p (range_with_len a n) ≡ true → a ≤ k → k < a + n → p k ≡ true
  each a zero k all from below = absurd (omega (arith, from, below))
  each a (suc n) k all from below =
      ⊎_elim
      (λ here.
      ⊎_elim
      (λ after. each (a + 1) n k (rw here at all) (omega (arith, after)) (omega (arith, below)))
      (λ first. let same : a ≡ k = omega (arith, from, first) in subst (λ j. p j ≡ true) same here)
      (cases_lt a k))
      (λ here. absurd (let e = rw here at all in cc))
      (cases_Bool (p a))

front_is : (n k : ℕ) (radices digits : List ℤ) → length radices ≡ n → length digits ≡ n → value_of (take k radices) (take k digits) ≡ total (place_values (take k radices) (take k digits))
front_is n k radices digits first second = value_is (take k radices) (take k digits) (omega (arith, length-take k radices, length-take k digits, first, second))

pub decoded_told : (n : ℕ) (radices digits : List ℤ) → length radices ≡ n → length digits ≡ n
    → IsRefusedOr Limit ((k : ℕ) × (k ≤ n) × (in_range (total (place_values (take k radices) (take k digits))) ≡ false)) (Int (total (place_values radices digits))) (decoded n radices digits)
decoded_told n radices digits first second =
    let p = λ (k : ℕ). in_range (value_of (take k radices) (take k digits)) in
    let same = λ (k : ℕ). ap in_range (front_is n k radices digits first second) in
    ⊎_elim
    (λ all. inr (
      λ w. let yes = each p 0 (n + 1) w.0 all (omega arith) (omega (arith, w.1)) in absurd (let e = sym yes ∙ same w.0 ∙ w.2 in cc),
      rw all (ap (λ z. Ok (Int z)) (value_is radices digits (first ∙ sym second))),
    ))
    (λ some. let w = found p 0 (n + 1) some in inl ((w.0, omega (arith, w.2), sym (same w.0) ∙ w.3), rw some refl))
    (cases_Bool (list_all p (range_with_len 0 (n + 1))))

-- ---- the number whose digits these are

one_back : (c a d p v : ℤ) → (c *ℤ a +ℤ d) *ℤ p +ℤ v ≡ c *ℤ (a *ℤ p) +ℤ ((d *ℤ p) +ℤ v)
one_back c a d p v = let sums = times_sum (c *ℤ a) d p in let groups = times_grouped c a p in omega (arith, ints, sums, groups)

number_by : (radices digits : List ℤ) (b : ℤ) (digit carry : ℕ → ℤ) → length radices ≡ length digits → ((k : ℕ) → digit k ≡ get_or digits k (pos 0)) → AreDigitsOf b radices digit carry
    → b ≡ carry 0 *ℤ product radices +ℤ value_of radices digits
number_by [] [] b digit carry same is are = sym are.last ∙ omega (arith, ints, *ℤ-one (carry 0))
number_by [] (d ∷ digits) b digit carry same is are = absurd (omega (arith, same))
number_by (a ∷ radices) [] b digit carry same is are = absurd (omega (arith, same))
number_by (a ∷ radices) (d ∷ digits) b digit carry same is are =
    let more = number_by radices digits b (λ k. digit (suc k)) (λ k. carry (suc k)) (omega (arith, same)) (λ k. is (suc k)) (rest_of a b radices digit carry are) in
    let step : carry 1 ≡ carry 0 *ℤ a +ℤ d = are.step 0 (omega arith) ∙ ap (λ z. carry 0 *ℤ a +ℤ z) (is 0) in
    more ∙ ap (λ c. c *ℤ product radices +ℤ value_of radices digits) step ∙ one_back (carry 0) a d (product radices) (value_of radices digits)

pub number_is : (radices digits : List ℤ) (b : ℤ) (carry : ℕ → ℤ) → length radices ≡ length digits → AreDigitsOf b radices (λ k. get_or digits k (pos 0)) carry
    → b ≡ carry 0 *ℤ product radices +ℤ total (place_values radices digits)
number_is radices digits b carry same are =
    number_by radices digits b (λ k. get_or digits k (pos 0)) carry same (λ k. refl) are ∙ ap (λ v. carry 0 *ℤ product radices +ℤ v) (value_is radices digits same)

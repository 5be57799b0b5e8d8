-- Sums of stretches of rows, and of the rows.
use Rattle.std.proofs.Common.{◌≡◌, ◌↔◌, ℕ, zero, suc, ℤ, pos, negsuc, ◌+◌, ◌-◌, ◌*◌, ◌/◌, ◌^◌, ◌%◌, ◌<◌, ◌≤◌, ◌+ℤ◌, FitsSigned, w64, to_z, of_z, Bool, true, false, nat_lt, List, map, Ok, Err, slice_index_or, refl, sym, ap, subst, ◌∙◌, ⊎_elim, arith}
use Rattle.std.specs.Prelude.{unsigned_abs, min, if◌then◌else◌}
use Rattle.std.proofs.lemmas.Int.{ints, to_z-of_z, fits_signed_from_abs}
use Rattle.std.proofs.Math.ListN.{get_or-map}
use Rattle.std.proofs.lemmas.Bool.{cases_lt}
use Rattle.std.proofs.lemmas.Nat.{div-mul-add, mod-mul-add}
use Rattle.std.proofs.Math.Nat.{le_refl, mul-le-mul, div-one, mod-one}
use borrow.Author.Tests.{ltb-true}
use Rattle.apl_array.specs.declared.array.Elem.TheVariants.{Int}
use Rattle.apl_array.specs.declared.function.ScalarFunction.TheVariants.{Plus}
use Rattle.apl_array.specs.Range.{IsInRange, in_range}
use Rattle.apl_pool.specs.declared.kernel.Fault.{Fault}
use Rattle.apl_pool.specs.declared.kernel.Fault.TheVariants.{Limit}
use Rattle.apl_reduce.specs.Folded.{folded, element_along, fold_at}
use Rattle.apl_reduce.specs.Magnitudes.{sum_of, IsSumNear, held_bits, above}
use Rattle.apl_reduce.specs.StretchSums.{joined_bits, number_from, stretch_sum, sum_of_stretch, sum_at}
use Rattle.apl_reduce.proofs.Adding.{elements_sum}
use Rattle.apl_reduce.proofs.Distances.{sum_near}
use Rattle.apl_reduce.proofs.NearSums.{both_low, sum_is_near, both_runs}

-- ---- numbers that are near 0 by their bits

low_above : (near : ℕ) (z sum : ℤ) → near ≤ 2 ^ 46 → sum ≡ z +ℤ pos near → held_bits sum < 2 * near → unsigned_abs z ≤ near
low_above near z (pos n) most is low = omega (arith, ints, low, is)
low_above near z (negsuc n) most is low = absurd (omega (arith, low, most))

each_near : (near : ℕ) (number : ℕ → ℤ) (n : ℕ) → near ≤ 2 ^ 46 → joined_bits near number n < 2 * near → (k : ℕ) → k < n → unsigned_abs (number k) ≤ near
each_near near number zero most low k below = absurd (omega (arith, below))
each_near near number (suc n) most low k below =
    let both = both_low (2 * near) (joined_bits near number n) (above near (number n)) low in
    ⊎_elim
    (λ earlier. each_near near number n most both.0 k earlier)
    (λ later. let same : n ≡ k = omega (arith, later, below) in subst (λ i. unsigned_abs (number i) ≤ near) same (low_above near (number n) _ most refl both.1))
    (cases_lt k n)

value_if : (b : Bool) (fault : Fault) (sum z : ℤ) → (if b then Ok sum else Err fault) ≡ Ok z → (b ≡ true) × (z ≡ sum)
value_if true fault sum z is = (refl, cc)
value_if false fault sum z is = absurd cc

module _ (numbers : List ℤ) (near : ℕ) (most : near ≤ 2 ^ 46) where
  near_stretch : (first count : ℕ) (z : ℤ) → stretch_sum numbers near first count ≡ Ok z → IsSumNear (number_from numbers first) near count z
  near_stretch first count z is =
      let number = number_from numbers first in
      let sure = value_if (nat_lt (joined_bits near number count) (2 * near)) Limit (sum_of number count) z is in
      record { near = each_near near number count most (ltb-true _ _ sure.0); is = sure.1 }

  -- the stretch at a place of all rows
  pub stretch_of_row : (items block stretches row k : ℕ) (z : ℤ) → k < stretches → sum_at numbers near items block stretches (row * stretches + k) ≡ Ok z
      → IsSumNear (number_from numbers (row * block + k * 16384)) near (min 16384 (items - k * 16384)) z
  stretch_of_row items block stretches row k z below is =
      near_stretch (row * block + k * 16384) (min 16384 (items - k * 16384)) z
      (ap (λ i. sum_of_stretch numbers near items (i * block) k) (sym (div-mul-add row stretches k below))
      ∙ ap (λ i. sum_of_stretch numbers near items ((row * stretches + k) / stretches * block) i) (sym (mod-mul-add row stretches k below)) ∙ is)

-- ---- the sum of a row

pub inside_rows : (row rows stretches k : ℕ) → row < rows → k < stretches → row * stretches + k < rows * stretches
inside_rows row rows stretches k inside below =
    let next : row + 1 ≤ rows = omega arith in
    omega (arith, mul-le-mul next (le_refl stretches), below)

stored_onto : (x y result : ℤ) → FitsSigned w64 y → (unsigned_abs (x +ℤ to_z w64 (of_z w64 y)) < 2 ^ 63 → result ≡ x +ℤ to_z w64 (of_z w64 y))
    → unsigned_abs (x +ℤ y) < 2 ^ 63 → to_z w64 (of_z w64 result) ≡ x +ℤ y
stored_onto x y result fits is inside =
    let sum = subst (λ b. unsigned_abs (x +ℤ b) < 2 ^ 63 → result ≡ x +ℤ b) (to_z-of_z w64 y fits) is inside in
    to_z-of_z w64 result (subst (FitsSigned w64) (sym sum) (fits_signed_from_abs w64 (x +ℤ y) inside)) ∙ sum

module _ (numbers : List ℤ) (near items stretches first k : ℕ) (needed : (stretches - 1) * 16384 < items) (below : k < stretches) where
  done : min (k * 16384) items ≡ k * 16384
  done = omega arith

  pub next_stretch : (total sum result : ℤ) → FitsSigned w64 sum → near * items < 2 ^ 63
      → (unsigned_abs (total +ℤ to_z w64 (of_z w64 sum)) < 2 ^ 63 → result ≡ total +ℤ to_z w64 (of_z w64 sum))
      → IsSumNear (number_from numbers first) near (min (k * 16384) items) total
      → IsSumNear (number_from numbers (first + k * 16384)) near (min 16384 (items - k * 16384)) sum
      → IsSumNear (number_from numbers first) near (min ((k + 1) * 16384) items) (to_z w64 (of_z w64 result))
  next_stretch total sum result fits small is before own =
      let m = min (k * 16384) items in
      let n = min 16384 (items - k * 16384) in
      let all : m + n ≡ min ((k + 1) * 16384) items = omega arith in
      let number = number_from numbers first in
      let later = number_from numbers (first + k * 16384) in
      let after : (j : ℕ) → later j ≡ number (m + j) = λ j. let place : first + k * 16384 + j ≡ first + (m + j) = omega (arith, done) in ap (λ i. slice_index_or numbers i (pos 0)) place in
      let few_all : m + n ≤ items = omega arith in
      let few : near * (m + n) ≤ near * items = mul-le-mul (le_refl near) few_all in
      let inside : unsigned_abs (total +ℤ sum) < 2 ^ 63 = omega (arith, sum_near total sum, sum_is_near number near m total before, sum_is_near later near n sum own, small, few) in
      subst (λ i. IsSumNear number near i (to_z w64 (of_z w64 result))) all
      (both_runs number near later m n total sum _ after before own (stored_onto total sum result fits is inside))

-- ---- the fold that it is

module _ (decided : (z : ℤ) → (in_range z ≡ true) ↔ IsInRange z) (bits : (z : ℤ) → IsInRange z ↔ FitsSigned w64 z) (numbers : List ℤ) (near items : ℕ) (two : 2 ≤ items) (small : near * items < 2 ^ 63) where
  row_fold : (first : ℕ) (sum : ℤ) → IsSumNear (number_from numbers first) near items sum → folded Plus (element_along (map Int numbers) first 1) 0 (items - 2) ≡ Ok sum
  row_fold first sum is =
      let all : items ≡ suc (suc (items - 2)) = omega arith in
      let number = number_from numbers first in
      let element_is : (k : ℕ) → k < items → element_along (map Int numbers) first 1 k ≡ Int (number k) = λ k below.
      let place : first + k * 1 ≡ first + k = omega arith in
      get_or-map Int numbers (first + k * 1) (pos 0) ∙ ap (λ i. Int (slice_index_or numbers i (pos 0))) place in
      elements_sum number near items is.near decided bits small (element_along (map Int numbers) first 1) element_is (items - 2) (omega (arith, two))
      ∙ ap (λ n. Ok (sum_of number n)) (sym all) ∙ ap Ok (sym is.is)

  pub row_outcome : (block row : ℕ) (sum : ℤ) → IsSumNear (number_from numbers (row * block)) near items sum → fold_at Plus (map Int numbers) items block 1 row ≡ Ok sum
  row_outcome block row sum is =
      let start : row / 1 * block + row % 1 ≡ row * block = ap (λ q. q * block + row % 1) (div-one row) ∙ ap (λ r. row * block + r) (mod-one row) ∙ omega arith in
      ap (λ i. folded Plus (element_along (map Int numbers) i 1) 0 (items - 2)) start ∙ row_fold (row * block) sum is

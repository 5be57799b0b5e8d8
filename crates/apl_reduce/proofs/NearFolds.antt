-- Folds of numbers so near 0 that no partial result leaves the range.
use Rattle.std.proofs.Common.{◌≡◌, ◌↔◌, ℕ, zero, suc, ℤ, pos, ◌+◌, ◌*◌, ◌^◌, ◌<◌, ◌≤◌, ◌+ℤ◌, ◌-ℤ◌, FitsSigned, w64, true, List, map, Ok, sym, ap, ◌∙◌, arith}
use Rattle.std.specs.Prelude.{unsigned_abs, slice_index_or}
use Rattle.std.proofs.Math.ListN.{get_or-map}
use Rattle.std.proofs.lemmas.Int.{ints, fits_signed_from_abs}
use Rattle.apl_array.specs.declared.array.Elem.{Elem}
use Rattle.apl_array.specs.declared.array.Elem.TheVariants.{Int}
use Rattle.apl_array.specs.declared.function.ScalarFunction.TheVariants.{Plus, Minus}
use Rattle.apl_array.specs.Range.{IsInRange, in_range}
use Rattle.apl_scalar.specs.Scalar.{exact}
use Rattle.apl_reduce.specs.Folded.{number_step, folded_onto}
use Rattle.apl_reduce.specs.Items.{item_in}
use Rattle.apl_reduce.specs.Magnitudes.{sum_of, IsSumNear, spaced_number}
use Rattle.apl_reduce.proofs.Adding.{exact_fits}
use Rattle.apl_reduce.proofs.Distances.{sum_near}
use Rattle.apl_reduce.proofs.Folds.{two_runs}

pub difference_near : (x y : ℤ) → unsigned_abs (x -ℤ y) ≤ unsigned_abs x + unsigned_abs y
difference_near x y = omega (arith, ints)

-- ---- folds

module _ (decided : (z : ℤ) → (in_range z ≡ true) ↔ IsInRange z) (bits : (z : ℤ) → IsInRange z ↔ FitsSigned w64 z) where
  pub near_exact : (z : ℤ) → unsigned_abs z < 2 ^ 63 → exact z ≡ Ok z
  near_exact z near = sym (exact_fits z decided bits (fits_signed_from_abs w64 z near))

  module _ (numbers : List ℤ) where
    abbrev number : ℕ → ℤ
    number place = slice_index_or numbers place (pos 0)

    abbrev item : ℕ → Elem
    item = item_in (map Int numbers)

    is_number : (place : ℕ) → item place ≡ Int (number place)
    is_number place = get_or-map Int numbers place (pos 0)

    -- one number onto a total, and one pair
    plus_one : (place : ℕ) (t : ℤ) → unsigned_abs (number place) + unsigned_abs t < 2 ^ 63 → folded_onto Plus item place (suc zero) (Ok t) ≡ Ok (number place +ℤ t)
    plus_one place t small = ap (λ x. number_step Plus x (Ok t)) (is_number place) ∙ near_exact (number place +ℤ t) (omega (arith, small, sum_near (number place) t))

    minus_pair : (place next : ℕ) (t : ℤ) → next ≡ suc place → unsigned_abs (number place) + unsigned_abs (number next) + unsigned_abs t < 2 ^ 63
        → folded_onto Minus item place (suc (suc zero)) (Ok t) ≡ Ok (number place -ℤ (number next -ℤ t))
    minus_pair place next t after small =
        let own = difference_near (number next) t in
        ap (λ x. number_step Minus x (number_step Minus (item (suc place)) (Ok t))) (is_number place)
        ∙ ap (number_step Minus (Int (number place)))
        (ap (λ i. number_step Minus (item i) (Ok t)) (sym after) ∙ ap (λ x. number_step Minus x (Ok t)) (is_number next) ∙ near_exact (number next -ℤ t) (omega (arith, own)))
        ∙ near_exact (number place -ℤ (number next -ℤ t)) (omega (arith, own, difference_near (number place) (number next -ℤ t)))

    module _ (first : ℕ) where
      abbrev sum : (start step n : ℕ) → ℤ
      sum start step n = sum_of (λ k. number (start + k * step)) n

      abbrev AreNear : (start step n : ℕ) → Type 0
      AreNear start step n = (k : ℕ) → k < n → unsigned_abs (number (start + k * step)) ≤ 2 ^ 46

      plus_run : (n : ℕ) (t : ℤ) → AreNear first 1 n → unsigned_abs t + n * 2 ^ 46 < 2 ^ 63 → folded_onto Plus item first n (Ok t) ≡ Ok (t +ℤ sum first 1 n)
      plus_run zero t near small = let same : t ≡ t +ℤ pos 0 = omega (arith, ints) in ap Ok same
      plus_run (suc n) t near small =
          let x = number (first + n * 1) in
          let all : suc n ≡ n + suc zero = omega arith in
          let place : first + n ≡ first + n * 1 = omega arith in
          let own = near n (omega arith) in
          let grouped : (x +ℤ t) +ℤ sum first 1 n ≡ t +ℤ (sum first 1 n +ℤ x) = omega (arith, ints) in
          ap (λ m. folded_onto Plus item first m (Ok t)) all ∙ two_runs Plus item first n (suc zero) (Ok t)
          ∙ ap (λ i. folded_onto Plus item first n (folded_onto Plus item i (suc zero) (Ok t))) place
          ∙ ap (folded_onto Plus item first n) (plus_one (first + n * 1) t (omega (arith, own, small)))
          ∙ plus_run n (x +ℤ t) (λ k below. near k (omega arith)) (omega (arith, own, sum_near x t, small))
          ∙ ap Ok grouped

      minus_pairs : (n : ℕ) (t : ℤ) → AreNear first 2 n → AreNear (first + 1) 2 n → unsigned_abs t + n * 2 ^ 47 < 2 ^ 63
          → folded_onto Minus item first (2 * n) (Ok t) ≡ Ok (t +ℤ (sum first 2 n -ℤ sum (first + 1) 2 n))
      minus_pairs zero t firsts_near seconds_near small = let same : t ≡ t +ℤ (pos 0 -ℤ pos 0) = omega (arith, ints) in ap Ok same
      minus_pairs (suc n) t firsts_near seconds_near small =
          let x = number (first + n * 2) in
          let y = number (first + 1 + n * 2) in
          let all : 2 * suc n ≡ 2 * n + suc (suc zero) = omega arith in
          let place : first + 2 * n ≡ first + n * 2 = omega arith in
          let left = firsts_near n (omega arith) in
          let right = seconds_near n (omega arith) in
          let own = difference_near y t in
          let both = difference_near x (y -ℤ t) in
          let grouped : (x -ℤ (y -ℤ t)) +ℤ (sum first 2 n -ℤ sum (first + 1) 2 n) ≡ t +ℤ ((sum first 2 n +ℤ x) -ℤ (sum (first + 1) 2 n +ℤ y)) = omega (arith, ints) in
          ap (λ m. folded_onto Minus item first m (Ok t)) all ∙ two_runs Minus item first (2 * n) (suc (suc zero)) (Ok t)
          ∙ ap (λ i. folded_onto Minus item first (2 * n) (folded_onto Minus item i (suc (suc zero)) (Ok t))) place
          ∙ ap (folded_onto Minus item first (2 * n)) (minus_pair (first + n * 2) (first + 1 + n * 2) t (omega arith) (omega (arith, left, right, small)))
          ∙ minus_pairs n (x -ℤ (y -ℤ t)) (λ k below. firsts_near k (omega arith)) (λ k below. seconds_near k (omega arith)) (omega (arith, left, right, own, both, small))
          ∙ ap Ok grouped

      -- ---- by sums

      pub near_plus : (count : ℕ) (added total : ℤ) → count ≤ 65536 → IsSumNear (spaced_number numbers first 1) (2 ^ 46) count added → unsigned_abs total < 2 ^ 62
          → folded_onto Plus item first count (Ok total) ≡ Ok (total +ℤ added)
      near_plus count added total few near small = plus_run count total near.near (omega arith) ∙ ap (λ z. Ok (total +ℤ z)) (sym near.is)

      pub near_minus : (pairs : ℕ) (firsts seconds total : ℤ) → pairs ≤ 32768 → IsSumNear (spaced_number numbers first 2) (2 ^ 46) pairs firsts → IsSumNear (spaced_number numbers (first + 1) 2) (2 ^ 46) pairs seconds → unsigned_abs total < 2 ^ 62
          → folded_onto Minus item first (2 * pairs) (Ok total) ≡ Ok (total +ℤ (firsts -ℤ seconds))
      near_minus pairs firsts seconds total few left right small =
          minus_pairs pairs total left.near right.near (omega arith)
          ∙ ap (λ z. Ok (total +ℤ (z -ℤ sum (first + 1) 2 pairs))) (sym left.is)
          ∙ ap (λ z. Ok (total +ℤ (firsts -ℤ z))) (sym right.is)

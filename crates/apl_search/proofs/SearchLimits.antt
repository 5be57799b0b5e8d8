-- The results of searches and grades are within all limits.
use Rattle.std.proofs.Common.{◌≡◌, ◌==◌, count_by, ℕ, zero, suc, ℤ, ◌+◌, ◌≤◌, pos, Bool, true, false, if◌then◌else◌, List, [], ◌∷◌, length, map, slice_index, Ok, IfOk, arith}
use Rattle.std.specs.List.{list_any, position_or_len, range_with_len}
use Rattle.std.proofs.lemmas.Int.{ints}
use Rattle.std.proofs.lemmas.List.{length-map}
use Rattle.std.proofs.lemmas.List.FromFn.{length-range_with_len}
use Rattle.std.proofs.lemmas.List.Sums.{prefix_len-le-length}
use Rattle.apl_array.specs.declared.array.Elem.{Elem}
use Rattle.apl_array.specs.declared.axis.Origin.{Origin}
use Rattle.apl_array.specs.declared.axis.Origin.TheVariants.{Zero, One}
use Rattle.apl_array.specs.Axes.{origin_number}
use Rattle.apl_array.specs.Shape.{IsShape, IsIndexOf, most_elements}
use Rattle.apl_array.specs.Array.{ArrayValue, element_at}
use Rattle.apl_array.specs.Range.{IsInRange, IsElementInRange}
use Rattle.apl_array.specs.Limits.{IsWithinLimits}
use Rattle.apl_answer.specs.Arguments.{number_of, numbers_of}
use Rattle.apl_answer.specs.Rows.{Row, HavePassed, result_of}
use Rattle.apl_search.specs.Searching.{is_same_element, index_of_row, member_row}
use Rattle.apl_search.specs.Ordering.{upwards, downwards, grade_of, stands_before, grade_row, grade_up_row, grade_down_row}

-- a lawful shape and elements in the range, where the checks have passed, make a result within all limits
abbrev pub RowLaw : Type 0
RowLaw = (row : Row) (a : ArrayValue) → (HavePassed row.checks → IsShape row.shape)
    → (HavePassed row.checks → (index : List ℕ) → IsIndexOf row.shape index → IfOk (row.outcome index) IsElementInRange)
    → result_of row ≡ Ok a → IsWithinLimits a

-- a count or a length, and one more
natural_in : (n : ℕ) → n ≤ most_elements + 1 → IsInRange (pos n)
natural_in n most = record { least = omega (arith, ints); greatest = omega (arith, ints, most) }

bit_in : (b : Bool) → IsInRange (pos (if b then 1 else 0))
bit_in true = natural_in 1 (omega arith)
bit_in false = natural_in 0 (omega arith)

origin_most : (origin : Origin) → origin_number origin ≤ 1
origin_most Zero = omega arith
origin_most One = omega arith

-- the values of a list of numbers, and 0 beside it
values_most : {X : Type 0} (f : X → ℕ) (m : ℕ) → ((x : X) → f x ≤ m) → (xs : List X) (i : ℕ) → slice_index (map f xs) i ≤ m
values_most f m most [] i = omega arith
values_most f m most (x ∷ xs) zero = most x
values_most f m most (x ∷ xs) (suc i) = values_most f m most xs i

position_most : {X : Type 0} (p : X → Bool) (xs : List X) → position_or_len p xs ≤ length xs
position_most p xs = prefix_len-le-length _ xs

-- a place of a grade, and 0 beside it
graded_most : (precedes : ℤ → ℤ → Bool) (values : List ℤ) (i : ℕ) → slice_index (grade_of precedes values) i ≤ length values
graded_most precedes values i =
    let all = range_with_len 0 (length values) in
    let has_before : ℕ → ℕ → Bool = λ k q. count_by (λ p. stands_before precedes values p q) all == k in
    values_most (λ k. position_or_len (has_before k) all) (length values)
    (λ k. omega (arith, position_most (has_before k) all, length-range_with_len 0 (length values))) all i

module _ (law : RowLaw) where
  pub index_of_within : (origin : Origin) (a b r : ArrayValue) → IsWithinLimits a → IsWithinLimits b → result_of (index_of_row a b origin) ≡ Ok r → IsWithinLimits r
  index_of_within origin a b r g h =
      law (index_of_row a b origin) r (λ passed. h.shape)
      (λ passed index inside.
      let p : Elem → Bool = λ x. is_same_element x (element_at b index) in
      natural_in (origin_number origin + position_or_len p a.ravel) (omega (arith, origin_most origin, position_most p a.ravel, g.len, g.shape.count)))

  pub member_within : (a b r : ArrayValue) → IsWithinLimits a → IsWithinLimits b → result_of (member_row a b) ≡ Ok r → IsWithinLimits r
  member_within a b r g h =
      law (member_row a b) r (λ passed. g.shape) (λ passed index inside. bit_in (list_any (λ x. is_same_element x (element_at a index)) b.ravel))

  grade_within : (precedes : ℤ → ℤ → Bool) (origin : Origin) (v r : ArrayValue) → IsWithinLimits v → result_of (grade_row precedes v origin) ≡ Ok r → IsWithinLimits r
  grade_within precedes origin v r h =
      law (grade_row precedes v origin) r (λ passed. h.shape)
      (λ passed index inside.
      let place = slice_index index 0 in
      natural_in (origin_number origin + slice_index (grade_of precedes (numbers_of v)) place)
      (omega (arith, origin_most origin, graded_most precedes (numbers_of v) place, length-map v.ravel number_of, h.len, h.shape.count)))

  pub grade_up_within : (origin : Origin) (v r : ArrayValue) → IsWithinLimits v → result_of (grade_up_row v origin) ≡ Ok r → IsWithinLimits r
  grade_up_within origin v r h = grade_within upwards origin v r h

  pub grade_down_within : (origin : Origin) (v r : ArrayValue) → IsWithinLimits v → result_of (grade_down_row v origin) ≡ Ok r → IsWithinLimits r
  grade_down_within origin v r h = grade_within downwards origin v r h

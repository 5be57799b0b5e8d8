-- Reductions and inner products of numbers by + - and ×, in exact numbers.
use Rattle.std.specs.Prelude.{◌≡◌, ◌⊎◌, ℕ, ◌<◌, ℤ, List, [], ◌∷◌, ◌++◌, map, drop, remove, Ok, Err, Some, false}
use Rattle.std.specs.List.{range_with_len}
use Rattle.apl_array.specs.declared.array.Elem.TheVariants.{Int}
use Rattle.apl_array.specs.declared.function.ScalarFunction.{ScalarFunction}
use Rattle.apl_array.specs.declared.axis.Axis.{Axis}
use Rattle.apl_array.specs.Shape.{IsIndexOf}
use Rattle.apl_array.specs.Array.{ArrayValue, number_array}
use Rattle.apl_array.specs.Axes.{axis_of}
use Rattle.apl_array.specs.Range.{in_range, AreInRange}
use Rattle.apl_answer.specs.Arguments.{number_of, rank_of}
use Rattle.apl_pool.specs.declared.kernel.Fault.TheVariants.{Limit}
use Rattle.apl_answer.specs.Pointwise.{Outcomes, index_lists}
use Rattle.apl_answer.specs.Rows.{HavePassed, result_of}
use Rattle.apl_scalar.specs.Scalar.{identity_of}
use Rattle.apl_reduce.specs.Folding.{reduction}
use Rattle.apl_reduce.specs.Partial.{exact_function}
use Rattle.apl_reduce.specs.Refusals.{IsRefusedOr, IsLimitOr}
use Rattle.apl_reduce.specs.Reducing.{items_along, reduce_row}
use Rattle.apl_reduce.specs.Products.{left_shape, right_shape, left_element, right_element, common_length, inner_row}

-- one of + - ×: the function of exact numbers that it is, and its identity
pub record IsExactly (f : ScalarFunction) (exact : ℤ → ℤ → ℤ) (identity : ℤ) : Type 0 where
  pub function : exact_function f ≡ Some exact
  pub none : identity_of f ≡ Some identity

module _ (exact : ℤ → ℤ → ℤ) (identity : ℤ) where
  -- the right fold of a list, and the identity of none
  abbrev pub exact_fold_of : List ℤ → ℤ
  exact_fold_of [] = identity
  exact_fold_of (x ∷ rest) = exact x (exact_fold_of rest)

  -- the fold of some end of the list is outside the range. That of the empty end, the identity, never is
  abbrev pub HasEndOutside : List ℤ → Type 0
  HasEndOutside numbers = (from : ℕ) × (in_range (exact_fold_of (drop from numbers)) ≡ false)

-- the reduction of the numbers is their exact fold, or `Limit` exactly if that of some end is outside the range
abbrev pub FoldsExactly : ScalarFunction → (ℤ → ℤ → ℤ) → ℤ → List ℤ → Type 0
FoldsExactly f exact identity numbers =
    IsRefusedOr Limit (HasEndOutside exact identity numbers) (Int (exact_fold_of exact identity numbers)) (reduction f (map Int numbers))

-- ---- outcomes of exact numbers

-- the array of the numbers at all index lists
abbrev pub numbers_at : List ℕ → (List ℕ → ℤ) → ArrayValue
numbers_at shape value = number_array shape (map value (index_lists shape))

-- the outcome at each index list is `Limit`, or this number
abbrev pub AreLimitOr : List ℕ → (List ℕ → ℤ) → Outcomes → Type 0
AreLimitOr shape value outcome = (index : List ℕ) → IsIndexOf shape index → (outcome index ≡ Err Limit) ⊎ (outcome index ≡ Ok (Int (value index)))

-- some outcome is `Limit`
abbrev pub HasLimit : List ℕ → Outcomes → Type 0
HasLimit shape outcome = (index : List ℕ) × IsIndexOf shape index × (outcome index ≡ Err Limit)

-- ---- f/B

-- the numbers along axis k at an index list without that axis; a scalar is its only one
abbrev pub line_at : ArrayValue → ℕ → List ℕ → List ℤ
line_at b k index = map number_of (items_along b k index)

-- some line along axis k has such an end
abbrev pub HasLineOutside : (ℤ → ℤ → ℤ) → ℤ → ArrayValue → ℕ → Type 0
HasLineOutside exact identity b k = (index : List ℕ) × IsIndexOf (remove b.shape k) index × HasEndOutside exact identity (line_at b k index)

-- the folds of all lines along axis k
abbrev pub exact_reduction : (ℤ → ℤ → ℤ) → ℤ → ArrayValue → ℕ → ArrayValue
exact_reduction exact identity b k =
    numbers_at (remove b.shape k) (λ index. exact_fold_of exact identity (line_at b k index))

-- each reduction of numbers is the folds of the lines, or `Limit` exactly if the fold of a line's end is outside the range
abbrev pub ReducesExactly : ScalarFunction → (ℤ → ℤ → ℤ) → ℤ → Type 0
ReducesExactly f exact identity = (shape : List ℕ) (numbers : List ℤ) (axis : Axis) →
    let b = number_array shape numbers in let k = axis_of axis (rank_of b) in
    AreInRange numbers → HavePassed (reduce_row f b axis).checks
    → IsLimitOr (HasLineOutside exact identity b k) (exact_reduction exact identity b k) (result_of (reduce_row f b axis))

-- ---- A f.g B

-- item i at an index list
abbrev pub exact_item : (ℤ → ℤ → ℤ) → ArrayValue → ArrayValue → List ℕ → ℕ → ℤ
exact_item g a b index i = g (number_of (left_element a index i)) (number_of (right_element a b index i))

abbrev pub exact_items : (ℤ → ℤ → ℤ) → ArrayValue → ArrayValue → List ℕ → List ℤ
exact_items g a b index = map (exact_item g a b index) (range_with_len 0 (common_length a b))

-- some item is outside the range
abbrev pub HasItemOutside : (ℤ → ℤ → ℤ) → ArrayValue → ArrayValue → List ℕ → Type 0
HasItemOutside g a b index = (i : ℕ) × (i < common_length a b) × (in_range (exact_item g a b index i) ≡ false)

-- at some index list an item is outside the range, or the fold of some end of the items
abbrev pub HasProductOutside : (ℤ → ℤ → ℤ) → ℤ → (ℤ → ℤ → ℤ) → ArrayValue → ArrayValue → Type 0
HasProductOutside exact identity g a b =
    (index : List ℕ) × IsIndexOf (left_shape a ++ right_shape b) index × (HasItemOutside g a b index ⊎ HasEndOutside exact identity (exact_items g a b index))

-- the folds of the items at all index lists
abbrev pub exact_inner_product : (ℤ → ℤ → ℤ) → ℤ → (ℤ → ℤ → ℤ) → ArrayValue → ArrayValue → ArrayValue
exact_inner_product exact identity g a b =
    numbers_at (left_shape a ++ right_shape b) (λ index. exact_fold_of exact identity (exact_items g a b index))

-- each inner product of numbers is the folds of items, or `Limit` exactly if an item or an end's fold is outside the range
abbrev pub MultipliesExactly : ScalarFunction → ScalarFunction → (ℤ → ℤ → ℤ) → ℤ → (ℤ → ℤ → ℤ) → Type 0
MultipliesExactly f g exact identity product = (left right : List ℕ) (ns ms : List ℤ) →
    let a = number_array left ns in let b = number_array right ms in
    AreInRange ns → AreInRange ms → HavePassed (inner_row f g a b).checks
    → IsLimitOr (HasProductOutside exact identity product a b) (exact_inner_product exact identity product a b) (result_of (inner_row f g a b))

-- A line of numbers times the rows of a matrix, in neighbouring columns. No contract of a public function cites this file.
use Rattle.std.specs.Prelude.{◌≡◌, ℕ, ℤ, pos, ◌+◌, ◌*◌, ◌<◌, ◌*ℤ◌, List, length, Result, Ok, slice_index_or}
use Rattle.apl_array.specs.declared.function.ScalarFunction.TheVariants.{Plus, Times}
use Rattle.apl_pool.specs.declared.kernel.Fault.{Fault}
use Rattle.apl_scalar.specs.Scalar.{dyadic_numbers}
use Rattle.apl_reduce.specs.declared.layouts.Layout.{Layout}
use Rattle.apl_reduce.specs.Items.{folded_from}
use Rattle.apl_reduce.specs.Magnitudes.{IsSumNear}

-- the items of each line are neighbours, and the numbers of each row
pub record IsByRows (layout : Layout) : Type 0 where
  pub left_item : layout.left.item ≡ 1
  pub right_line : layout.right.line ≡ 1
  pub right_item : layout.right.item ≡ layout.columns
  pub some : 0 < layout.items

module _ (line right : List ℤ) (stride : ℕ) where
  -- the product of number k of a line and that of row k in a column
  abbrev pub row_product : (column k : ℕ) → ℤ
  row_product column k = slice_index_or line k (pos 0) *ℤ slice_index_or right (column + k * stride) (pos 0)

  -- the same, or a fault if it is outside the range
  abbrev pub row_item : (column k : ℕ) → Result ℤ Fault
  row_item column k = dyadic_numbers Times (slice_index_or line k (pos 0)) (slice_index_or right (column + k * stride) (pos 0))

  -- the sum of the products of the first `count` rows, each of them at most `most` from 0
  abbrev pub IsRowSum : (most column count : ℕ) → ℤ → Type 0
  IsRowSum most column count sum = IsSumNear (row_product column) most count sum

  -- the same in neighbouring columns
  abbrev pub AreRowSums : (most column count : ℕ) → List ℤ → Type 0
  AreRowSums most column count totals = (j : ℕ) → j < length totals → IsRowSum most (column + j) count (slice_index_or totals j (pos 0))

  -- the folds by `+` of product k and the `more` products after it, in neighbouring columns
  abbrev pub AreRowFolds : (column k more : ℕ) → List ℤ → Type 0
  AreRowFolds column k more totals = (j : ℕ) → j < length totals → folded_from (row_item (column + j)) Plus k more ≡ Ok (slice_index_or totals j (pos 0))

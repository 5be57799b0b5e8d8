-- Where the items of an inner product are in its arguments. No contract of a public function cites this file.
use Rattle.std.specs.Prelude.{ℕ, ℤ, pos, ◌+◌, ◌*◌, ◌*ℤ◌, ◌/◌, ◌%◌, ◌<◌, ◌≤◌, ◌≡◌, ◌⊎◌, List, length, Result, slice_index_or}
use Rattle.apl_array.specs.declared.array.Elem.{Elem}
use Rattle.apl_array.specs.declared.function.ScalarFunction.{ScalarFunction}
use Rattle.apl_pool.specs.declared.kernel.Fault.{Fault}
use Rattle.apl_pool.specs.declared.kernel.TheConstants.{MOST_PLACES}
use Rattle.apl_scalar.specs.Scalar.{dyadic_of}
use Rattle.apl_reduce.specs.declared.layouts.Layout.{Layout}
use Rattle.apl_reduce.specs.declared.layouts.TheConstants.{SEVERAL_ITEMS, SEVERAL_LINES}
use Rattle.apl_reduce.specs.Items.{item_in, as_number, judged_items}
use Rattle.apl_reduce.specs.Magnitudes.{sum_of}

-- the places of item k in the arguments, at a place of the result
abbrev pub left_place : Layout → ℕ → ℕ → ℕ
left_place layout place k = place / layout.columns * layout.left.line + k * layout.left.item

abbrev pub right_place : Layout → ℕ → ℕ → ℕ
right_place layout place k = place % layout.columns * layout.right.line + k * layout.right.item

-- all of them are within arguments of `left` and `right` elements
pub record IsWithin (layout : Layout) (left right : ℕ) : Type 0 where
  pub left_start : (place : ℕ) → place < layout.count → place / layout.columns * layout.left.line ≤ MOST_PLACES
  pub right_start : (place : ℕ) → place < layout.count → place % layout.columns * layout.right.line ≤ MOST_PLACES
  pub left_item : (place k : ℕ) → place < layout.count → k < layout.items → left_place layout place k < left
  pub right_item : (place k : ℕ) → place < layout.count → k < layout.items → right_place layout place k < right

module _ (layout : Layout) (left right : List Elem) where
  abbrev pub inner_item : ScalarFunction → ℕ → ℕ → Result ℤ Fault
  inner_item g place k = dyadic_of g (item_in left (left_place layout place k)) (item_in right (right_place layout place k))

  -- what the inner product has at a place
  abbrev pub inner_number : ScalarFunction → ScalarFunction → ℕ → Result ℤ Fault
  inner_number f g place = as_number (judged_items (inner_item g place) f layout.items)

-- the product of the numbers that meet as item k, in a line and a column
abbrev pub product_in : Layout → List ℤ → List ℤ → (line column k : ℕ) → ℤ
product_in layout left right line column k = slice_index_or left (line * layout.left.line + k * layout.left.item) (pos 0) *ℤ slice_index_or right (column * layout.right.line + k * layout.right.item) (pos 0)

-- their sum
abbrev pub sum_in : Layout → List ℤ → List ℤ → (line column : ℕ) → ℤ
sum_in layout left right line column = sum_of (product_in layout left right line column) layout.items

-- the same at a place
abbrev pub product_at : Layout → List ℤ → List ℤ → ℕ → ℕ → ℤ
product_at layout left right place = product_in layout left right (place / layout.columns) (place % layout.columns)

-- ---- the right argument in the order of its columns

-- the place of item k of a column in the right argument
abbrev pub column_place : Layout → ℕ → ℕ → ℕ
column_place layout column k = column * layout.right.line + k * layout.right.item

-- The right argument is one by rows, of several columns with items, and a line or more meets them. The lines or the items are several, and the
-- order of columns has room
abbrev pub RepaysAnOrder : Layout → Type 0
RepaysAnOrder layout = (layout.right.line ≡ 1) × (layout.right.item ≡ layout.columns) × (0 < layout.items) × (1 < layout.columns) × (layout.columns ≤ layout.count)
    × ((SEVERAL_ITEMS ≤ layout.items) ⊎ (SEVERAL_LINES * layout.columns ≤ layout.count)) × (layout.columns * layout.items ≤ MOST_PLACES)

-- as `layout`, but those of a column of the right argument are neighbours
pub record IsByColumns (layout ordered : Layout) : Type 0 where
  pub left : ordered.left ≡ layout.left
  pub right_line : ordered.right.line ≡ layout.items
  pub right_item : ordered.right.item ≡ 1
  pub items : ordered.items ≡ layout.items
  pub columns : ordered.columns ≡ layout.columns
  pub count : ordered.count ≡ layout.count

-- all items of all columns are within a right argument of `right` elements
abbrev pub HasColumns : Layout → ℕ → Type 0
HasColumns layout right = (column k : ℕ) → column < layout.columns → k < layout.items → column_place layout column k < right

-- these are the numbers of a right argument, one column after the other
pub record AreByColumns (layout : Layout) (numbers ordered : List ℤ) : Type 0 where
  pub len : length ordered ≡ layout.columns * layout.items
  pub each : (column k : ℕ) → column < layout.columns → k < layout.items → slice_index_or ordered (column * layout.items + k) (pos 0) ≡ slice_index_or numbers (column_place layout column k) (pos 0)

-- The places of an inner product by the rows of its right argument.
use Rattle.std.proofs.Common.{◌≡◌, ◌↔◌, ℕ, suc, ℤ, pos, ◌+◌, ◌-◌, ◌*◌, ◌/◌, ◌%◌, ◌^◌, ◌<◌, ◌≤◌, FitsSigned, w64, true, List, length, map, slice_index_or, Ok, refl, sym, ap, subst, ◌∙◌, arith}
use Rattle.std.proofs.Math.ListN.{get_or-map}
use Rattle.std.proofs.Math.Nat.{le_refl, mul-le-mul, zero-add}
use Rattle.std.proofs.lemmas.Int.{fits_signed_from_abs}
use Rattle.std.proofs.lemmas.List.{get_or_default}
use Rattle.apl_array.specs.declared.array.Elem.TheVariants.{Int}
use Rattle.apl_array.specs.declared.function.ScalarFunction.TheVariants.{Plus, Times}
use Rattle.apl_array.specs.Range.{IsInRange, in_range}
use Rattle.apl_pool.specs.Runs.{AreWritten}
use Rattle.apl_scalar.specs.Scalar.{dyadic_of, dyadic_numbers}
use Rattle.apl_reduce.specs.declared.layouts.Layout.{Layout}
use Rattle.apl_reduce.specs.Items.{as_number, number_step, folded_from, judged_items, item_in}
use Rattle.apl_reduce.specs.Layouts.{IsWithin, left_place, right_place, inner_item, inner_number}
use Rattle.apl_reduce.specs.ProductRows.{IsByRows, row_product, row_item, IsRowSum, AreRowSums, AreRowFolds}
use Rattle.apl_reduce.proofs.Adding.{exact_fits, judged_sum}
use Rattle.apl_reduce.proofs.JudgedItems.{judged_value}
use Rattle.apl_reduce.proofs.OuterRows.{same_row}
use Rattle.apl_reduce.proofs.Reordered.{judged_same}

-- the products of fewer rows are as small
pub fewer_rows : (most n m : ℕ) → n ≤ m → most * m < 2 ^ 63 → most * n < 2 ^ 63
fewer_rows most n m few small = let less = mul-le-mul (le_refl most) few in omega (arith, less, small)

-- ---- folds in neighbouring columns, one row more on the left

module _ (line right : List ℤ) (stride column : ℕ) where
  pub last_folds : (row : ℕ) (totals : List ℤ) → AreWritten (λ j. row_item line right stride (column + j) row) 0 (length totals) totals → AreRowFolds line right stride column row 0 totals
  last_folds row totals written j inside = ap (λ k. row_item line right stride (column + k) row) (sym (zero-add j)) ∙ written.each j (pos 0) (omega (arith, inside))

  pub more_folds : (row next more done : ℕ) (old new : List ℤ) → next ≡ row + 1 → done ≡ suc more → length new ≡ length old → AreRowFolds line right stride column next more old
      → AreWritten (λ j. number_step Plus (row_item line right stride (column + j) row) (Ok (slice_index_or old j (pos 0)))) 0 (length old) new
      → AreRowFolds line right stride column row done new
  more_folds row next more done old new after count len before written j inside =
      let there : j < length old = omega (arith, len, inside) in
      let item = row_item line right stride (column + j) in
      ap (folded_from item Plus row) count
      ∙ ap (λ k. number_step Plus (item row) (folded_from item Plus k more)) (sym after)
      ∙ ap (number_step Plus (item row)) (before j there)
      ∙ ap (λ k. number_step Plus (row_item line right stride (column + k) row) (Ok (slice_index_or old k (pos 0)))) (sym (zero-add j))
      ∙ written.each j (pos 0) (omega (arith, there))

-- ---- the rows within the right argument

pub rows_within : (layout : Layout) (left right from n : ℕ) → IsWithin layout left right → IsByRows layout → 0 < n → from + n ≤ layout.count → from % layout.columns + n ≤ layout.columns
    → (k : ℕ) → k < layout.items → from % layout.columns + k * layout.columns + n ≤ right
rows_within layout left right from n within rows some below inside k item =
    let last = from + (n - 1) in
    let same = same_row layout.columns from (n - 1) (omega (arith, some, inside)) in
    let there = within.right_item last k (omega (arith, some, below)) item in
    let place : right_place layout last k ≡ from % layout.columns + (n - 1) + k * layout.columns =
    ap (λ r. r * layout.right.line + k * layout.right.item) same.1
    ∙ ap (λ m. (from % layout.columns + (n - 1)) * m + k * layout.right.item) rows.right_line
    ∙ ap (λ m. (from % layout.columns + (n - 1)) * 1 + k * m) rows.right_item
    ∙ omega arith in
    omega (arith, there, place, some)

-- ---- the places of a line

module _ (layout : Layout) (left right line : List ℤ) (from n : ℕ) (rows : IsByRows layout)
    (line_is : (k : ℕ) → k < layout.items → slice_index_or line k (pos 0) ≡ slice_index_or left (from / layout.columns * layout.left.line + k) (pos 0)) (inside : from % layout.columns + n ≤ layout.columns) where
  item_is : (j k : ℕ) → j < n → k < layout.items → row_item line right layout.columns (from % layout.columns + j) k ≡ inner_item layout (map Int left) (map Int right) Times (from + j) k
  item_is j k here below =
      let same = same_row layout.columns from j (omega (arith, inside, here)) in
      let i = from / layout.columns * layout.left.line + k in
      let p = from % layout.columns + j + k * layout.columns in
      let y = slice_index_or right p (pos 0) in
      let left_is : left_place layout (from + j) k ≡ i =
      ap (λ q. q * layout.left.line + k * layout.left.item) same.0 ∙ ap (λ m. from / layout.columns * layout.left.line + k * m) rows.left_item ∙ omega arith in
      let right_is : right_place layout (from + j) k ≡ p =
      ap (λ r. r * layout.right.line + k * layout.right.item) same.1
      ∙ ap (λ m. (from % layout.columns + j) * m + k * layout.right.item) rows.right_line
      ∙ ap (λ m. (from % layout.columns + j) * 1 + k * m) rows.right_item
      ∙ omega arith in
      sym (ap (λ m. dyadic_of Times (item_in (map Int left) m) (item_in (map Int right) (right_place layout (from + j) k))) left_is
      ∙ ap (λ m. dyadic_of Times (item_in (map Int left) i) (item_in (map Int right) m)) right_is
      ∙ ap (λ e. dyadic_of Times e (item_in (map Int right) p)) (get_or-map Int left i (pos 0))
      ∙ ap (dyadic_of Times (Int (slice_index_or left i (pos 0)))) (get_or-map Int right p (pos 0))
      ∙ ap (λ (x : ℤ). dyadic_numbers Times x y) (sym (line_is k below)))

  written_all : (totals : List ℤ) → length totals ≡ n
      → ((j : ℕ) → j < n → as_number (judged_items (row_item line right layout.columns (from % layout.columns + j)) Plus layout.items) ≡ Ok (slice_index_or totals j (pos 0)))
      → AreWritten (inner_number layout (map Int left) (map Int right) Plus Times) from (from + n) totals
  written_all totals len all = record {
    room = omega (arith, len);
    each = λ j d h.
        let here : j < n = omega (arith, h) in
        sym (ap as_number (judged_same (row_item line right layout.columns (from % layout.columns + j)) (inner_item layout (map Int left) (map Int right) Times (from + j)) Plus layout.items (λ k below. item_is j k here below)))
        ∙ all j here
        ∙ ap (λ (z : ℤ). Ok z) (get_or_default totals j (pos 0) d (omega (arith, here, len)));
  }

  pub written_folds : (totals : List ℤ) → length totals ≡ n → length line ≡ layout.items → AreRowFolds line right layout.columns (from % layout.columns) 0 (length line - 1) totals
      → AreWritten (inner_number layout (map Int left) (map Int right) Plus Times) from (from + n) totals
  written_folds totals len long folds = written_all totals len (λ j here.
      let item = row_item line right layout.columns (from % layout.columns + j) in
      let total = slice_index_or totals j (pos 0) in
      let all : suc (length line - 1) ≡ layout.items = omega (arith, long, rows.some) in
      subst (λ m. as_number (judged_items item Plus m) ≡ Ok total) all (sym (judged_value item Plus (length line - 1) (Ok total) (sym (folds j (omega (arith, here, len)))) refl)))

  pub written_sums : (decided : (z : ℤ) → (in_range z ≡ true) ↔ IsInRange z) (bits : (z : ℤ) → IsInRange z ↔ FitsSigned w64 z) (most : ℕ) → most * layout.items < 2 ^ 63 → (totals : List ℤ) → length totals ≡ n
      → length line ≡ layout.items → AreRowSums line right layout.columns most (from % layout.columns) (length line) totals
      → AreWritten (inner_number layout (map Int left) (map Int right) Plus Times) from (from + n) totals
  written_sums decided bits most small totals len long sums = written_all totals len (λ j here.
      let number = row_product line right layout.columns (from % layout.columns + j) in
      let item = row_item line right layout.columns (from % layout.columns + j) in
      let is = subst (λ m. IsRowSum line right layout.columns most (from % layout.columns + j) m (slice_index_or totals j (pos 0))) long (sums j (omega (arith, here, len))) in
      let fits : (k : ℕ) → k < layout.items → FitsSigned w64 (number k) = λ k below.
      let one = fewer_rows most 1 layout.items (omega (arith, below)) small in
      fits_signed_from_abs w64 (number k) (omega (arith, one, is.near k below)) in
      sym (judged_sum number most layout.items is.near decided bits small item (λ k below. sym (exact_fits (number k) decided bits (fits k below))) layout.items (le_refl layout.items))
      ∙ ap (λ (z : ℤ). Ok z) (sym is.is))

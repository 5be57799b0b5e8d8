-- The items of a line and a column within the arguments, and the sums of their products.
use Rattle.std.proofs.Common.{◌≡◌, ℕ, suc, ℤ, pos, ◌+◌, ◌*◌, ◌/◌, ◌%◌, ◌^◌, ◌<◌, ◌≤◌, ◌+ℤ◌, ◌*ℤ◌, List, get_or, sym, ap, subst, ◌∙◌, arith}
use Rattle.std.specs.Prelude.{unsigned_abs}
use Rattle.std.proofs.Math.Nat.{mul-le-mul_right}
use Rattle.std.proofs.lemmas.Nat.{div-mul-add, mod-mul-add}
use Rattle.apl_pool.specs.declared.kernel.TheConstants.{MOST_PLACES}
use Rattle.apl_reduce.specs.declared.layouts.Layout.{Layout}
use Rattle.apl_reduce.specs.Layouts.{IsWithin, product_in}
use Rattle.apl_reduce.specs.Magnitudes.{magnitude, sum_of}
use Rattle.apl_reduce.proofs.Distances.{product_near, sum_of_near}

-- neighbours are one apart
pub next_to : (start k item : ℕ) → item ≡ 1 → start + k ≡ start + k * item
next_to start k item near =
    let one : start + k ≡ start + k * 1 = omega arith in
    one ∙ ap (λ n. start + k * n) (sym near)

module _ (layout : Layout) (left right line column : ℕ) (within : IsWithin layout left right) (narrow : column < layout.columns) (inside : line * layout.columns + column < layout.count) where
  line_is : (line * layout.columns + column) / layout.columns ≡ line
  line_is = div-mul-add line layout.columns column narrow

  column_is : (line * layout.columns + column) % layout.columns ≡ column
  column_is = mod-mul-add line layout.columns column narrow

  pub left_start : line * layout.left.line ≤ MOST_PLACES
  left_start = subst (λ q. q * layout.left.line ≤ MOST_PLACES) line_is (within.left_start (line * layout.columns + column) inside)

  pub right_start : column * layout.right.line ≤ MOST_PLACES
  right_start = subst (λ r. r * layout.right.line ≤ MOST_PLACES) column_is (within.right_start (line * layout.columns + column) inside)

  pub left_item : (k : ℕ) → k < layout.items → line * layout.left.line + k * layout.left.item < left
  left_item k below = subst (λ q. q * layout.left.line + k * layout.left.item < left) line_is (within.left_item (line * layout.columns + column) k inside below)

  pub right_item : (k : ℕ) → k < layout.items → column * layout.right.line + k * layout.right.item < right
  right_item k below = subst (λ r. r * layout.right.line + k * layout.right.item < right) column_is (within.right_item (line * layout.columns + column) k inside below)

-- one product more
pub product_more : (layout : Layout) (left right : List ℤ) (line column k i j : ℕ) (sum read result stored : ℤ) → magnitude left * magnitude right * layout.items < 2 ^ 63 → k < layout.items
    → i ≡ line * layout.left.line + k * layout.left.item → j ≡ column * layout.right.line + k * layout.right.item → read ≡ sum → sum ≡ sum_of (product_in layout left right line column) k → stored ≡ result
    → (unsigned_abs (read +ℤ get_or left i (pos 0) *ℤ get_or right j (pos 0)) < 2 ^ 63 → result ≡ read +ℤ get_or left i (pos 0) *ℤ get_or right j (pos 0))
    → stored ≡ sum_of (product_in layout left right line column) (k + 1)
product_more layout left right line column k i j sum read result stored small inside here there is so_far kept added =
    let number = product_in layout left right line column in
    let most = magnitude left * magnitude right in
    let next : suc k ≡ k + 1 = omega arith in
    let all : read +ℤ get_or left i (pos 0) *ℤ get_or right j (pos 0) ≡ sum_of number (k + 1) =
    ap (λ z. z +ℤ get_or left i (pos 0) *ℤ get_or right j (pos 0)) (is ∙ so_far)
    ∙ ap (λ n. sum_of number k +ℤ get_or left n (pos 0) *ℤ get_or right j (pos 0)) here
    ∙ ap (λ n. sum_of number k +ℤ get_or left (line * layout.left.line + k * layout.left.item) (pos 0) *ℤ get_or right n (pos 0)) there
    ∙ ap (sum_of number) next in
    let near = sum_of_near number most (λ m. product_near left right (line * layout.left.line + m * layout.left.item) (column * layout.right.line + m * layout.right.item)) (k + 1) in
    let few : k + 1 ≤ layout.items = omega (arith, inside) in
    let less = mul-le-mul_right most few in
    let low : unsigned_abs (sum_of number (k + 1)) < 2 ^ 63 = omega (arith, near, less, small) in
    kept ∙ added (subst (λ z. unsigned_abs z < 2 ^ 63) (sym all) low) ∙ all

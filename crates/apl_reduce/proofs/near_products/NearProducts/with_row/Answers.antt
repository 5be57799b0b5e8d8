use Rattle.std.proofs.Common.{◌≡◌, ◌+◌, ◌*◌, ◌^◌, ◌<◌, ◌≤◌, ℤ, pos, ◌+ℤ◌, ◌*ℤ◌, FitsSigned, length, slice_index_or, to_z, of_z, w64, sym, ap, subst, ◌∙◌, arith, rules, map}
use Rattle.std.specs.Prelude.{unsigned_abs}
use Rattle.std.proofs.lemmas.Int.{to_z-of_z}
use Rattle.apl_reduce.specs.ProductRows.{row_product}
use Rattle.apl_reduce.proofs.Distances.{near_of}
use Rattle.apl_reduce.proofs.NearSums.{near_from_above, stored, one_more}
use Rattle.apl_reduce.proofs.ProductSums.{near_product, next_fits}
use Rattle.apl_reduce.proofs.ProductRows.{fewer_rows}
use Rattle.apl_reduce.proofs.near_products.NearProducts.with_row.Goals as goal

pub returns : goal.returns
returns g c = λ low before.
    let s = c.args.self.now in
    let most = s.near.left * s.near.right in
    let row = c.args.row in
    let sum = c.args.sum in
    let number = row_product s.line.now (map g.U.Numeric.number_in s.right.now) s.stride c.args.column in
    let x = slice_index_or s.line.now row (pos 0) in
    let y = slice_index_or (map g.U.Numeric.number_in s.right.now) (c.args.column + row * s.stride) (pos 0) in
    let product = c.narrow_product-product.result in
    let above = c.above_least-above.result in
    let fits_x : FitsSigned w64 x = search rules in
    let factor = c.held_factor.result in
    let fits_factor : FitsSigned w64 factor = search rules in
    let held_y : to_z w64 (of_z w64 c.number_at-number.result) ≡ c.number_at-number.result = search rules in
    let read_x : to_z w64 (of_z w64 x) ≡ x = to_z-of_z w64 x fits_x in
    let read_y : to_z w64 (of_z w64 c.number_at-number.result) ≡ y = held_y ∙ c.number_at-number.ensures in
    let near_x : unsigned_abs x ≤ s.near.left = omega (arith, near_of s.line.now row, s.line_near) in
    let near_y = near_from_above s.near.right above y (λ own. subst (λ z. pos above ≡ z +ℤ pos s.near.right) read_y (c.above_least-above.ensures.near own)) low in
    let narrow_x : unsigned_abs x < 2 ^ 31 = omega (arith, near_x, s.near_most.0) in
    let narrow_y : unsigned_abs y < 2 ^ 31 = omega (arith, near_y, s.near_most.1) in
    let none : above < 2 ^ 32 = omega (arith, low, s.near_most.1) in
    let read_factor : to_z w64 (of_z w64 factor) ≡ x = to_z-of_z w64 factor fits_factor ∙ c.held_factor.ensures none ∙ read_x in
    let Is : ℤ → ℤ → Type 0 = λ a b. unsigned_abs a < 2 ^ 31 → unsigned_abs b < 2 ^ 31 → product ≡ a *ℤ b in
    let same : product ≡ number row = subst (λ a. Is a y) read_factor (subst (λ b. Is (to_z w64 (of_z w64 factor)) b) read_y c.narrow_product-product.ensures) narrow_x narrow_y in
    let number_near : unsigned_abs (number row) ≤ most = near_product s.near.left s.near.right x y near_x near_y in
    let fits_sum : FitsSigned w64 sum = search rules in
    let fits_product : FitsSigned w64 product = search rules in
    let small = fewer_rows most (row + 1) (length s.line.now) (omega (arith, c.requires.row)) s.small in
    let inside : unsigned_abs (sum +ℤ product) < 2 ^ 63 =
    subst (λ z. unsigned_abs (sum +ℤ z) < 2 ^ 63) (sym same) (next_fits number most row sum before number_near small) in
    one_more number most row sum _ before number_near (stored (λ a b. a +ℤ b) sum product _ fits_sum fits_product c.wrapped_sum.ensures inside ∙ ap (λ z. sum +ℤ z) same)

use Rattle.std.proofs.Common.{◌≡◌, ◌*◌, ◌^◌, ◌<◌, ◌≤◌, ℤ, pos, map, ◌+ℤ◌, ◌*ℤ◌, FitsSigned, slice_index_or, to_z, of_z, w64, sym, ap, subst, ◌∙◌, arith, rules}
use Rattle.std.specs.Prelude.{unsigned_abs}
use Rattle.apl_reduce.specs.Magnitudes.{meeting_product}
use Rattle.apl_reduce.proofs.NearSums.{both_low, near_from_above, stored, one_more}
use Rattle.apl_reduce.proofs.ProductSums.{near_product, next_fits}
use Rattle.apl_reduce.proofs.product_sums.ProductSum.with_next.Goals as goal

pub returns : goal.returns
returns g c = λ first count there before small low_left low_right.
    let left = map g.T.Numeric.number_in c.args.left.now in
    let right = map g.U.Numeric.number_in c.args.right.now in
    let near = c.args.near in
    let most = near.left * near.right in
    let place = c.args.place in
    let total = c.args.self.now.sum in
    let number = meeting_product left right first in
    let x = slice_index_or left place (pos 0) in
    let y = slice_index_or right place (pos 0) in
    let above_x = c.above_least.result in
    let above_y = c.above_least-2.result in
    let lefts = both_low (2 * near.left) c.args.self.now.left above_x low_left in
    let rights = both_low (2 * near.right) c.args.self.now.right above_y low_right in
    let held_x : to_z w64 (of_z w64 c.number_at-x.result) ≡ c.number_at-x.result = search rules in
    let held_y : to_z w64 (of_z w64 c.number_at-y.result) ≡ c.number_at-y.result = search rules in
    let read_x : to_z w64 (of_z w64 c.number_at-x.result) ≡ x = held_x ∙ c.number_at-x.ensures in
    let read_y : to_z w64 (of_z w64 c.number_at-y.result) ≡ y = held_y ∙ c.number_at-y.ensures in
    let near_x = near_from_above near.left above_x x (λ own. subst (λ z. pos above_x ≡ z +ℤ pos near.left) read_x (c.above_least.ensures.near own)) lefts.1 in
    let near_y = near_from_above near.right above_y y (λ own. subst (λ z. pos above_y ≡ z +ℤ pos near.right) read_y (c.above_least-2.ensures.near own)) rights.1 in
    let narrow_x : unsigned_abs x < 2 ^ 31 = omega (arith, near_x, c.requires.near.0) in
    let narrow_y : unsigned_abs y < 2 ^ 31 = omega (arith, near_y, c.requires.near.1) in
    let Is : ℤ → ℤ → Type 0 = λ a b. unsigned_abs a < 2 ^ 31 → unsigned_abs b < 2 ^ 31 → c.narrow_product.result ≡ a *ℤ b in
    let product : c.narrow_product.result ≡ x *ℤ y = subst (λ a. Is a y) read_x (subst (λ b. Is (to_z w64 (of_z w64 c.number_at-x.result)) b) read_y c.narrow_product.ensures) narrow_x narrow_y in
    let here : number count ≡ x *ℤ y = ap (λ n. slice_index_or left n (pos 0) *ℤ slice_index_or right n (pos 0)) there in
    let so_far = before (omega (arith, small)) lefts.0 rights.0 in
    let number_near : unsigned_abs (number count) ≤ most = subst (λ z. unsigned_abs z ≤ most) (sym here) (near_product near.left near.right x y near_x near_y) in
    let same : c.narrow_product.result ≡ number count = product ∙ sym here in
    let fits_total : FitsSigned w64 total = search rules in
    let fits_product : FitsSigned w64 c.narrow_product.result = search rules in
    let inside : unsigned_abs (total +ℤ c.narrow_product.result) < 2 ^ 63 =
    subst (λ z. unsigned_abs (total +ℤ z) < 2 ^ 63) (sym same) (next_fits number most count total so_far number_near small) in
    one_more number most count total _ so_far number_near
    (stored (λ y z. y +ℤ z) total c.narrow_product.result _ fits_total fits_product c.wrapped_sum.ensures inside ∙ ap (λ z. total +ℤ z) same)

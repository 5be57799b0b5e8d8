use Rattle.std.proofs.Common.{◌≡◌, ◌^◌, ◌*ℤ◌, FitsSigned, to_z, of_z, w32, w64, sym, ap, ◌∙◌, arith, rules}
use Rattle.std.proofs.lemmas.Int.{fits_signed_mul, to_z-of_z}
use Rattle.apl_scalar.specs.Scalar.{exact}
use Rattle.apl_scalar.proofs.Exact.{RangeLaw, exact_fits}
use Rattle.apl_scalar.proofs.arithmetic.half_product.Goals as goal

pub returns : goal.returns
returns c = λ x_fits y_fits.
    let left = c.lower_half.result in
    let right = c.lower_half-2.result in
    let x_is = to_z-of_z w64 c.args.x c.ranges.x in
    let y_is = to_z-of_z w64 c.args.y c.ranges.y in
    let x_narrow : FitsSigned w32 (to_z w64 (of_z w64 c.args.x)) = rw x_is x_fits in
    let y_narrow : FitsSigned w32 (to_z w64 (of_z w64 c.args.y)) = rw y_is y_fits in
    let left_is : left ≡ c.args.x = c.lower_half.ensures.value x_narrow ∙ x_is in
    let right_is : right ≡ c.args.y = c.lower_half-2.ensures.value y_narrow ∙ y_is in
    let same : left *ℤ right ≡ c.args.x *ℤ c.args.y = cc in
    let left_fits : FitsSigned w64 left = search rules in
    let right_fits : FitsSigned w64 right = search rules in
    let fits : FitsSigned w64 (left *ℤ right) = fits_signed_mul w64 left right (2 ^ 31) (2 ^ 31) c.lower_half.ensures.small c.lower_half-2.ensures.small (omega arith) in
    let range : RangeLaw = record { decided = c.range_is_decided.ensures.decided; bits = c.range_is_decided.ensures.bits } in
    simp to_z-of_z (ap exact (sym same) ∙ exact_fits range (left *ℤ right) fits)

use Rattle.std.proofs.Common.{◌≡◌, ◌^◌, ◌*ℤ◌, ◌<◌, FitsSigned, to_z, of_z, w64, ◌∙◌, arith, rules}
use Rattle.std.specs.Prelude.{unsigned_abs}
use Rattle.std.proofs.lemmas.Int.{fits_signed_mul, to_z-of_z}
use Rattle.apl_reduce.proofs.sums.narrow_product.Goals as goal

pub overflow_mul-result : goal.overflow_mul-result
overflow_mul-result c =
    let left_fits : FitsSigned w64 c.lower_half.result = search rules in
    let right_fits : FitsSigned w64 c.lower_half-2.result = search rules in
    let fits : FitsSigned w64 (c.lower_half.result *ℤ c.lower_half-2.result) = fits_signed_mul w64 c.lower_half.result c.lower_half-2.result (2 ^ 31) (2 ^ 31) c.lower_half.ensures.small c.lower_half-2.ensures.small (omega arith) in
    rw (to_z-of_z w64 c.lower_half.result left_fits, to_z-of_z w64 c.lower_half-2.result right_fits) fits

pub returns : goal.returns
returns c = λ x_near y_near.
    let left = c.lower_half.result in
    let right = c.lower_half-2.result in
    let x_is = to_z-of_z w64 c.args.x c.ranges.x in
    let y_is = to_z-of_z w64 c.args.y c.ranges.y in
    let x_narrow : unsigned_abs (to_z w64 (of_z w64 c.args.x)) < 2 ^ 31 = rw x_is x_near in
    let y_narrow : unsigned_abs (to_z w64 (of_z w64 c.args.y)) < 2 ^ 31 = rw y_is y_near in
    let left_is : left ≡ c.args.x = c.lower_half.ensures.value x_narrow ∙ x_is in
    let right_is : right ≡ c.args.y = c.lower_half-2.ensures.value y_narrow ∙ y_is in
    let left_fits : FitsSigned w64 left = search rules in
    let right_fits : FitsSigned w64 right = search rules in
    let fits : FitsSigned w64 (left *ℤ right) = fits_signed_mul w64 left right (2 ^ 31) (2 ^ 31) c.lower_half.ensures.small c.lower_half-2.ensures.small (omega arith) in
    let same : left *ℤ right ≡ c.args.x *ℤ c.args.y = cc in
    simp to_z-of_z same

use Rattle.std.proofs.Common.{◌≡◌, ◌^◌, ◌<◌, ◌-ℤ◌, FitsSigned, to_z, of_z, w64, refl, sym, ap, ◌∙◌, arith, rules}
use Rattle.apl_scalar.specs.Scalar.{exact}
use Rattle.apl_scalar.proofs.Exact.{RangeLaw, exact_fits}
use Rattle.apl_scalar.proofs.Signs.{signed_argument, difference_signs}
use Rattle.apl_scalar.proofs.arithmetic.likely_difference.Goals as goal

pub returns : goal.returns
returns c = λ none.
    let x = c.args.x in
    let y = c.args.y in
    let left = c.cast_unsigned-left.result in
    let right = c.cast_unsigned-right.result in
    let left_is = signed_argument x left c.ranges.x c.cast_unsigned-left.ensures in
    let right_is = signed_argument y right c.ranges.y c.cast_unsigned-right.ensures in
    let left_fits : left < 2 ^ 64 = search rules in
    let right_fits : right < 2 ^ 64 = search rules in
    let stored : to_z w64 (of_z w64 c.cast_signed.result) ≡ c.cast_signed.result = search rules in
    let same : c.cast_signed.result ≡ x -ℤ y = c.cast_signed.ensures ∙ difference_signs left right _ left_fits right_fits refl (omega (arith, none)) ∙ ap (λ z. z -ℤ to_z w64 right) left_is ∙ ap (λ z. x -ℤ z) right_is in
    let fits : FitsSigned w64 c.cast_signed.result = search rules in
    let range : RangeLaw = record { decided = c.range_is_decided.ensures.decided; bits = c.range_is_decided.ensures.bits } in
    rw stored (ap exact (sym same) ∙ exact_fits range c.cast_signed.result fits)

use Rattle.std.proofs.Common.{◌≡◌, ◌*ℤ◌, Ok, FitsSigned, to_z, of_z, w32, w64, sym, ap, ◌∙◌, rules}
use Rattle.std.specs.Int.{int_pow}
use Rattle.std.proofs.lemmas.Int.{to_z-of_z}
use Rattle.apl_scalar.specs.Scalar.{exact}
use Rattle.apl_scalar.proofs.PowerBits.{narrow_power}
use Rattle.apl_scalar.proofs.arithmetic.times_power_of_bit.Goals as goal

pub returns : goal.returns
returns c = λ x_fits root_fits.
    let x = c.args.x in
    let bit = c.args.bit in
    let root = c.args.root in
    let factor = c.power_of_bit.result in
    let product = c.half_product.result in
    let factor_stored : to_z w64 (of_z w64 factor) ≡ factor = search rules in
    let product_stored : to_z w64 (of_z w64 product) ≡ product = search rules in
    let root_stored = to_z-of_z w64 root c.ranges.root in
    let factor_is : to_z w64 (of_z w64 factor) ≡ int_pow x bit = factor_stored ∙ c.power_of_bit.ensures ∙ ap (λ z. int_pow z bit) (to_z-of_z w64 x c.ranges.x) in
    let root_narrow : FitsSigned w32 (to_z w64 (of_z w64 root)) = rw root_stored root_fits in
    let factor_narrow : FitsSigned w32 (to_z w64 (of_z w64 factor)) = rw factor_is (narrow_power x bit c.requires x_fits) in
    ap (λ z. exact (z *ℤ int_pow x bit)) (sym root_stored) ∙ ap (λ z. exact (to_z w64 (of_z w64 root) *ℤ z)) (sym factor_is)
    ∙ c.half_product.ensures root_narrow factor_narrow ∙ ap Ok (sym product_stored)

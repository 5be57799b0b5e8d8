use Rattle.std.proofs.Common.{◌≡◌, ◌*ℤ◌, Ok, FitsSigned, to_z, of_z, w32, w64, sym, ap, ◌∙◌, arith, rules}
use Rattle.std.specs.Int.{int_pow}
use Rattle.std.proofs.Math.IntN.{*ℤ-one}
use Rattle.std.proofs.lemmas.Int.{to_z-of_z}
use Rattle.apl_scalar.specs.Scalar.{exact}
use Rattle.apl_scalar.proofs.Exact.{RangeLaw, exact_fits}
use Rattle.apl_scalar.proofs.PowerBits.{no_power, first_power}
use Rattle.apl_scalar.proofs.arithmetic.chosen_product.Goals as goal

pub returns-then-bit-eq0 : goal.returns-then-bit-eq0
unfolding lib.IntN.one
returns-then-bit-eq0 c = λ x_fits root_fits.
    let x = c.args.x in
    let root = c.args.root in
    let none : c.args.bit ≡ 0 = omega (arith, c.if-bit-eq0.true) in
    let one : root *ℤ int_pow x c.args.bit ≡ root = ap (λ n. root *ℤ int_pow x n) none ∙ ap (λ z. root *ℤ z) (no_power x) ∙ *ℤ-one root in
    let range : RangeLaw = record { decided = c.range_is_decided.ensures.decided; bits = c.range_is_decided.ensures.bits } in
    ap exact one ∙ exact_fits range root c.ranges.root ∙ ap Ok (sym (to_z-of_z w64 root c.ranges.root))

pub returns-else-bit-eq0 : goal.returns-else-bit-eq0
returns-else-bit-eq0 c = λ x_fits root_fits.
    let x = c.args.x in
    let root = c.args.root in
    let product = c.half_product-product.result in
    let product_stored : to_z w64 (of_z w64 product) ≡ product = search rules in
    let root_stored = to_z-of_z w64 root c.ranges.root in
    let x_stored = to_z-of_z w64 x c.ranges.x in
    let root_narrow : FitsSigned w32 (to_z w64 (of_z w64 root)) = rw root_stored root_fits in
    let x_narrow : FitsSigned w32 (to_z w64 (of_z w64 x)) = rw x_stored x_fits in
    let single : c.args.bit ≡ 1 = omega (arith, c.requires, c.if-bit-eq0.false) in
    let factor : int_pow x c.args.bit ≡ to_z w64 (of_z w64 x) = ap (int_pow x) single ∙ first_power x ∙ sym x_stored in
    ap (λ z. exact (z *ℤ int_pow x c.args.bit)) (sym root_stored) ∙ ap (λ z. exact (to_z w64 (of_z w64 root) *ℤ z)) factor
    ∙ c.half_product-product.ensures root_narrow x_narrow ∙ ap Ok (sym product_stored)

use Rattle.std.proofs.Common.{◌≡◌, w64, sym, ap, ◌∙◌, arith}
use Rattle.std.specs.Int.{int_pow}
use Rattle.std.proofs.lemmas.Int.{to_z-of_z}
use Rattle.apl_scalar.proofs.PowerBits.{first_power}
use Rattle.apl_scalar.proofs.arithmetic.power_of_bit.Goals as goal

pub returns-else-bit-eq0 : goal.returns-else-bit-eq0
returns-else-bit-eq0 c =
    let one : c.args.bit ≡ 1 = omega (arith, c.requires, c.if-bit-eq0.false) in
    to_z-of_z w64 c.args.x c.ranges.x ∙ sym (first_power c.args.x) ∙ ap (int_pow c.args.x) (sym one)

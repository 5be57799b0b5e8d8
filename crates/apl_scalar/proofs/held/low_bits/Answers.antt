use Rattle.std.proofs.Common.{◌∙◌, FitsSigned, of_z, w32, w64, ap, rules}
use Rattle.std.proofs.lemmas.Int.{to_z-of_z}
use Rattle.apl_scalar.proofs.Narrow.{masked}
use Rattle.apl_scalar.proofs.held.low_bits.Goals as goal

pub returns : goal.returns
returns c =
    let bits = c.cast_unsigned.ensures ∙ ap (of_z w64) (to_z-of_z w64 c.args.number c.ranges.number) in
    let stored : FitsSigned w32 c.cast_signed.result = search rules in
    to_z-of_z w32 c.cast_signed.result stored ∙ c.cast_signed.ensures ∙ masked c.args.number c.ranges.number c.cast_unsigned.result bits

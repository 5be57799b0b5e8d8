use Rattle.std.proofs.Common.{FitsSigned, w64}
use Rattle.std.proofs.lemmas.Int.{to_z-of_z}
use Rattle.apl_scalar.proofs.Bits.{low_bits}
use Rattle.apl_scalar.proofs.truth.higher_bits.Goals as goal

pub returns : goal.returns
returns c =
    let left : FitsSigned w64 c.args.x = c.ranges.x in
    let right : FitsSigned w64 c.args.y = c.ranges.y in
    let first = simp to_z-of_z at c.cast_unsigned.ensures in
    let second = simp to_z-of_z at c.cast_unsigned-2.ensures in
    low_bits c.args.x c.args.y left right _ _ first second

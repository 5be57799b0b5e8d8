use Rattle.std.proofs.Common.{◌+◌, ◌*◌, ◌^◌, arith}
use Rattle.std.proofs.lemmas.Nat.{mul-le}
use Rattle.apl_walk.proofs.rotated_lines.RotatedColumns.at_column.Goals as goal

pub overflow_mul-taken-2 : goal.overflow_mul-taken-2
overflow_mul-taken-2 g c =
    let r = c.args.self.now in
    omega (arith, mul-le (c.args.outer * r.rotations.length + c.index.result) r.inner (2 ^ 31) (2 ^ 30) (omega (arith, c.index.ensures.below, c.requires.outer, r.rotations.most)) r.most)

pub overflow_add-taken-2 : goal.overflow_add-taken-2
overflow_add-taken-2 g c =
    let r = c.args.self.now in
    omega (arith, mul-le (c.args.outer * r.rotations.length + c.index.result) r.inner (2 ^ 31) (2 ^ 30) (omega (arith, c.index.ensures.below, c.requires.outer, r.rotations.most)) r.most, c.requires.column)

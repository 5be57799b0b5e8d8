use Rattle.std.proofs.Common.{◌+◌, arith}
use Rattle.std.proofs.lemmas.List.{take_rest}
use Rattle.apl_array.proofs.Shapes.{count_of-drop_le}
use Rattle.apl_array.proofs.shape.Shape.inner.Goals as goal

pub returns-clause-inner : goal.returns-clause-inner
returns-clause-inner c =
    let low = count_of-drop_le c.args.self.now (c.args.k + 1) c.requires.some in
    rw (c.capped_count.ensures, c.lengths.ensures.lengths, take_rest) (omega (arith, low, c.lengths.ensures.lawful.count))

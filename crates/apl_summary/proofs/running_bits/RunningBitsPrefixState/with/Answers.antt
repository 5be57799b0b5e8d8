use Rattle.std.proofs.Common.{◌≡◌, to_z, of_z, w64, arith, rules}
use Rattle.std.proofs.lemmas.Int.{ints}
use Rattle.apl_summary.proofs.running_bits.RunningBitsPrefixState.with.Goals as goal

pub returns-clause-front : goal.returns-clause-front
returns-clause-front g c =
    let stored : to_z w64 (of_z w64 c.number.result) ≡ c.number.result = search rules in
    let same : c.args.item ≡ c.number.result = grind (arith, ints, c.number.ensures, c.if-item-lt0.false, c.if-item-gt1.false) in
    rw same (rw stored at c.with_bit.ensures.front)

use Rattle.std.proofs.Common.{length, arith}
use Rattle.apl_walk.proofs.Bits.{ones_none, ones_few}
use Rattle.apl_walk.proofs.counted.CountedBits.index_after.Goals as goal

pub overflow_cast-ones : goal.overflow_cast-ones
overflow_cast-ones c =
    let s = c.args.self.now in
    omega (arith, s.all, s.most, c.requires, ones_few s.bits.now (length s.bits.now))

pub block_of-block-requires-clause-first : goal.block_of-block-requires-clause-first
block_of-block-requires-clause-first c =
    let s = c.args.self.now in
    omega (arith, s.blocks.each 0 s.blocks.some, ones_none s.bits.now)

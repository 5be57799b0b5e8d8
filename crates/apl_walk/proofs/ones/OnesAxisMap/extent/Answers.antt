use Rattle.std.proofs.Common.{length, arith}
use Rattle.apl_walk.proofs.Bits.{ones_few}
use Rattle.apl_walk.proofs.ones.OnesAxisMap.extent.Goals as goal

pub returns-clause-most : goal.returns-clause-most
returns-clause-most c =
    let s = c.args.self.now.counted in
    omega (arith, s.all, s.most, ones_few s.bits.now (length s.bits.now))

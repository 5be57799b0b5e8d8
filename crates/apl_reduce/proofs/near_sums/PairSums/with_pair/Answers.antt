use Rattle.std.proofs.Common.{◌<◌, arith}
use Rattle.apl_reduce.proofs.near_sums.PairSums.with_pair.Goals as goal

pub returns : goal.returns
returns g c = λ few sums.
    let below : c.args.count < 65536 = omega (arith, few) in
    record {
      firsts = c.with_next.ensures below sums.firsts;
      seconds = c.with_next-2.ensures below sums.seconds;
    }

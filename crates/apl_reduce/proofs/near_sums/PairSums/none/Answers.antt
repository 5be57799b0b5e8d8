use Rattle.std.proofs.Common.{◌+◌}
use Rattle.apl_reduce.proofs.near_sums.PairSums.none.Goals as goal

pub returns : goal.returns
returns c = λ numbers first. record {
  firsts = c.none.ensures numbers first 2;
  seconds = c.none-2.ensures numbers (first + 1) 2;
}

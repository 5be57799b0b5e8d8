use Rattle.std.proofs.Common.{map}
use Rattle.apl_reduce.proofs.near_sums.runs_turned.Goals as goal

pub returns : goal.returns
returns g c =
    let numbers = map g.T.Numeric.number_in c.args.numbers.now in
    let few = c.requires.few in
    let sums = c.pair_sums-sums.ensures in
    record {
      first = c.turned.ensures numbers _ _ few sums.first;
      second = c.turned-2.ensures numbers _ _ few sums.second;
      third = c.turned-3.ensures numbers _ _ few sums.third;
      fourth = c.turned-4.ensures numbers _ _ few sums.fourth;
    }

use Rattle.std.proofs.Common.{map}
use Rattle.apl_reduce.specs.Magnitudes.{IsSum}
use Rattle.apl_reduce.proofs.near_sums.four_sums.Given as goal

abbrev pub invariant-loop-k : goal.invariant-loop-k
invariant-loop-k g l = record {
  first : IsSum (map g.T.Numeric.number_in l.numbers) l.starts.first 1 l.k l.one;
  second : IsSum (map g.T.Numeric.number_in l.numbers) l.starts.second 1 l.k l.two;
  third : IsSum (map g.T.Numeric.number_in l.numbers) l.starts.third 1 l.k l.three;
  fourth : IsSum (map g.T.Numeric.number_in l.numbers) l.starts.fourth 1 l.k l.four;
}

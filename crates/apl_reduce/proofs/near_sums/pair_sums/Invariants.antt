use Rattle.std.proofs.Common.{map}
use Rattle.apl_reduce.specs.FourFolds.{ArePairSums}
use Rattle.apl_reduce.proofs.near_sums.pair_sums.Given as goal

abbrev pub invariant-loop-k : goal.invariant-loop-k
invariant-loop-k g l = record {
  first : ArePairSums (map g.T.Numeric.number_in l.numbers) l.starts.first l.k l.one;
  second : ArePairSums (map g.T.Numeric.number_in l.numbers) l.starts.second l.k l.two;
  third : ArePairSums (map g.T.Numeric.number_in l.numbers) l.starts.third l.k l.three;
  fourth : ArePairSums (map g.T.Numeric.number_in l.numbers) l.starts.fourth l.k l.four;
}

use Rattle.std.proofs.Common.{map}
use Rattle.apl_reduce.specs.Magnitudes.{IsProductSum}
use Rattle.apl_reduce.proofs.product_sums.product_sum.Given as goal

abbrev pub invariant-loop-k : goal.invariant-loop-k
invariant-loop-k g l = record {
  low : IsProductSum (map g.T.Numeric.number_in l.left) (map g.U.Numeric.number_in l.right) l.near 0 l.k l.low;
  high : IsProductSum (map g.T.Numeric.number_in l.left) (map g.U.Numeric.number_in l.right) l.near l.half l.k l.high;
}

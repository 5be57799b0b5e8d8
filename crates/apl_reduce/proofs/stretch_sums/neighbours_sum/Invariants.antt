use Rattle.std.proofs.Common.{map}
use Rattle.apl_reduce.specs.StretchSums.{IsStretchSum}
use Rattle.apl_reduce.proofs.stretch_sums.neighbours_sum.Given as goal

abbrev pub invariant-loop-k : goal.invariant-loop-k
invariant-loop-k g l = IsStretchSum (map g.T.Numeric.number_in l.numbers) l.near l.first l.k l.sum

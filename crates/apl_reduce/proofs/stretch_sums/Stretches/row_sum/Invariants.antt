use Rattle.std.proofs.Common.{◌*◌, map}
use Rattle.std.specs.Prelude.{min}
use Rattle.apl_reduce.specs.declared.stretch_sums.TheConstants.{STRETCH}
use Rattle.apl_reduce.specs.Magnitudes.{IsSumNear}
use Rattle.apl_reduce.specs.StretchSums.{number_from}
use Rattle.apl_reduce.proofs.stretch_sums.Stretches.row_sum.Given as goal

abbrev pub invariant-loop-k : goal.invariant-loop-k
invariant-loop-k g l = IsSumNear (number_from (map g.T.Numeric.number_in l.self.numbers.now) (l.row * l.self.block)) l.self.near (min (l.k * STRETCH) l.self.items) l.total

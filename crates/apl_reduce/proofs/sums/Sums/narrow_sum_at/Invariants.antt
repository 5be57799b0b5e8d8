use Rattle.std.proofs.Common.{◌≡◌}
use Rattle.apl_reduce.specs.Layouts.{product_in}
use Rattle.apl_reduce.specs.Magnitudes.{sum_of}
use Rattle.apl_reduce.proofs.sums.Sums.narrow_sum_at.Given as goal

abbrev pub invariant-loop-k : goal.invariant-loop-k
invariant-loop-k l = l.sum ≡ sum_of (product_in l.self.layout.now l.self.left.now l.self.right.now l.line l.column) l.k

use Rattle.std.proofs.Common.{◌≡◌, ◌+◌}
use Rattle.apl_reduce.specs.Layouts.{product_in}
use Rattle.apl_reduce.specs.Magnitudes.{sum_of}
use Rattle.apl_reduce.proofs.sums.Sums.narrow_sums_at.Given as goal

abbrev pub invariant-loop-k : goal.invariant-loop-k
invariant-loop-k l = let number = product_in l.self.layout.now l.self.left.now l.self.right.now l.line in record {
  first : l.sums.first ≡ sum_of (number l.column) l.k;
  second : l.sums.second ≡ sum_of (number (l.column + 1)) l.k;
  third : l.sums.third ≡ sum_of (number (l.column + 2)) l.k;
  fourth : l.sums.fourth ≡ sum_of (number (l.column + 3)) l.k;
}

use Rattle.std.proofs.Common.{◌≡◌, ◌+◌, ◌≤◌}
use Rattle.apl_walk.specs.Ones.{ones_before}
use Rattle.apl_walk.proofs.counted.few_ones.Given as goal

abbrev pub invariant-loop-k : goal.invariant-loop-k
invariant-loop-k l = record {
  sum : ones_before l.bits l.first + l.sum ≡ ones_before l.bits (l.first + l.k);
  few : l.sum ≤ l.k;
}

use Rattle.std.proofs.Common.{◌≡◌, ◌+◌, ◌≤◌}
use Rattle.apl_walk.specs.Ones.{ones_before, HasOnes}
use Rattle.apl_walk.proofs.ones.write_few.Given as goal

abbrev pub invariant-loop-k : goal.invariant-loop-k
invariant-loop-k g l = record {
  written : HasOnes l.bits l.line l.stride (l.first + l.k) l.written l.room;
  count : l.written + ones_before l.bits l.first ≡ l.done + ones_before l.bits (l.first + l.k);
  most : l.written ≤ l.done + l.k;
}

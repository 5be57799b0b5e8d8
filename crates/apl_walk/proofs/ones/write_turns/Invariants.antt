use Rattle.std.proofs.Common.{◌≡◌, ◌+◌, ◌-◌, ◌≤◌, length}
use Rattle.apl_walk.specs.Ones.{ones_before, HasOnes}
use Rattle.apl_walk.proofs.ones.write_turns.Given as goal

abbrev pub invariant-loop-room : goal.invariant-loop-room
invariant-loop-room g l = record {
  written : HasOnes l.bits l.line l.stride l.i l.done l.room;
  count : l.done + ones_before l.bits l.fn.begin.0 ≡ l.fn.begin.1 + ones_before l.bits l.i;
  few : l.done ≤ length l.room;
}

abbrev pub decreases-loop-room : goal.decreases-loop-room
decreases-loop-room g l = length l.bits - l.i

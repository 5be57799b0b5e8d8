use Rattle.std.proofs.Common.{◌≡◌, ◌-◌, length}
use Rattle.apl_walk.specs.Ones.{ones_before}
use Rattle.apl_walk.proofs.counted.next_one.Given as goal

abbrev pub invariant-loop-i : goal.invariant-loop-i
invariant-loop-i l = ones_before l.bits l.i ≡ ones_before l.bits l.first

abbrev pub decreases-loop-i : goal.decreases-loop-i
decreases-loop-i l = length l.bits - l.i

use Rattle.std.proofs.Common.{◌≡◌, ◌+◌, ◌-◌, length}
use Rattle.apl_walk.specs.Ones.{ones_before}
use Rattle.apl_walk.proofs.counted.skip_ones.Given as goal

abbrev pub invariant-loop-left : goal.invariant-loop-left
invariant-loop-left l = ones_before l.bits l.i + l.left ≡ ones_before l.bits l.first + l.ones

abbrev pub decreases-loop-left : goal.decreases-loop-left
decreases-loop-left l = length l.bits - l.i

use Rattle.std.proofs.Common.{◌^◌, ◌≤◌}
use Rattle.apl_reduce.proofs.stretch_sums.near_bound.Given as goal

abbrev pub invariant-loop-near : goal.invariant-loop-near
invariant-loop-near l = l.near ≤ 2 ^ 46

abbrev pub decreases-loop-near : goal.decreases-loop-near
decreases-loop-near l = l.near

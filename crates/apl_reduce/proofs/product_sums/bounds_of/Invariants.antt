use Rattle.std.proofs.Common.{◌+◌, ◌^◌, ◌≤◌}
use Rattle.apl_reduce.proofs.product_sums.bounds_of.Given as goal

abbrev pub invariant-loop-near : goal.invariant-loop-near
invariant-loop-near g l = (l.near.left ≤ 2 ^ 30) × (l.near.right ≤ 2 ^ 30)

abbrev pub decreases-loop-near : goal.decreases-loop-near
decreases-loop-near g l = l.near.left + l.near.right

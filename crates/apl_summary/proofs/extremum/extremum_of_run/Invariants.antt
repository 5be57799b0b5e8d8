use Rattle.std.proofs.Common.{◌-◌, ◌<◌, ◌≤◌}
use Rattle.apl_summary.specs.ExtremeRuns.{IsExtremumFrom}
use Rattle.apl_summary.proofs.extremum.extremum_of_run.Given as goal

abbrev pub invariant-loop-place : goal.invariant-loop-place
invariant-loop-place g l =
    IsExtremumFrom l.is_least (g.K.Kernel.outcome l.kernel) l.place l.to l.item
    × (l.start ≤ l.place)
    × (l.place < l.to)

abbrev pub decreases-loop-place : goal.decreases-loop-place
decreases-loop-place g l = l.place - l.start

use Rattle.std.proofs.Common.{◌+◌, ◌*◌, ◌≤◌}
use Rattle.apl_summary.specs.ExtremeRuns.{IsBehindExtremum}
use Rattle.apl_summary.proofs.extremum.with_fours.Given as goal

abbrev pub invariant-loop-left : goal.invariant-loop-left
invariant-loop-left g l =
    IsBehindExtremum l.is_least (g.K.Kernel.outcome l.kernel) (l.from + l.left * 4) (l.from + l.fours * 4) l.behind l.item
    × (l.left ≤ l.fours)

abbrev pub decreases-loop-left : goal.decreases-loop-left
decreases-loop-left g l = l.left

use Rattle.std.proofs.Common.{◌-◌, ◌≤◌}
use Rattle.apl_pool.specs.Folds.{IsFolded}
use Rattle.apl_pool.proofs.folds.fold_places.Given as goal

abbrev pub invariant-loop-end : goal.invariant-loop-end
invariant-loop-end g l =
    IsFolded g.S.Summary.step g.S.Summary.item_count g.S.Summary.outcome (g.K.Kernel.outcome l.kernel) l.end l.to l.folded
    × (l.from ≤ l.end)
    × (l.end ≤ l.to)

abbrev pub decreases-loop-end : goal.decreases-loop-end
decreases-loop-end g l = l.end - l.from

use Rattle.std.proofs.Common.{◌≡◌, ◌-◌, ◌≤◌, length, map}
use Rattle.apl_reduce.specs.Folded.{AreFolds}
use Rattle.apl_reduce.proofs.folded_rows.fold_rows.Given as goal

abbrev pub invariant-loop-row : goal.invariant-loop-row
invariant-loop-row g l =
    (l.row ≤ l.more)
    × AreFolds g.F.Function.FUNCTION (map g.T.ElementType.elem_of l.elements) l.first l.stride l.row (l.more - l.row) l.totals
    × (length l.totals ≡ length l.initial.totals)

abbrev pub decreases-loop-row : goal.decreases-loop-row
decreases-loop-row g l = l.row

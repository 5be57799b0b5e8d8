use Rattle.std.proofs.Common.{◌+◌, ◌-◌, ◌≤◌, vec_len}
use Rattle.apl_pool.specs.Parts.{AreBounds}
use Rattle.apl_pool.proofs.pieces.Pieces.new.Given as goal

abbrev pub invariant-loop-start : goal.invariant-loop-start
invariant-loop-start g l =
    AreBounds (vec_len l.starts - 1) l.start l.starts.items
    × (2 ≤ vec_len l.starts)
    × (vec_len l.starts ≤ l.start + 1)
    × (l.start ≤ l.places)

abbrev pub decreases-loop-start : goal.decreases-loop-start
decreases-loop-start g l = l.places - l.start

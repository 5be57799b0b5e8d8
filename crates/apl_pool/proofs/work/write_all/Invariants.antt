use Rattle.std.proofs.Common.{◌-◌, ◌<◌, ◌≤◌, max, vec_len}
use Rattle.apl_pool.specs.Parts.{AreValuesAt}
use Rattle.apl_pool.proofs.work.write_all.Given as goal

abbrev pub invariant-loop-piece : goal.invariant-loop-piece
invariant-loop-piece g l =
    AreValuesAt (g.K.Kernel.outcome l.kernel) 0 (max l.piece.from l.done) l.values.items
    × (0 < vec_len l.values)
    × (max l.piece.from l.done ≤ vec_len l.values)
    × (vec_len l.values ≤ l.count)
    × (l.done ≤ l.piece.to)
    × (l.piece.number ≤ l.piece.from)
    × (l.piece.from < l.count → l.piece.from < l.piece.to)
    × (l.piece.from ≤ l.piece.to)
    × (l.piece.to ≤ l.count)

abbrev pub decreases-loop-piece : goal.decreases-loop-piece
decreases-loop-piece g l = l.count - l.piece.from

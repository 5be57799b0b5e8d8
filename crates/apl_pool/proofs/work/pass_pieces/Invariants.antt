use Rattle.std.proofs.Common.{◌-◌, ◌<◌, ◌≤◌}
use Rattle.apl_pool.proofs.work.pass_pieces.Given as goal

abbrev pub invariant-loop-next : goal.invariant-loop-next
invariant-loop-next g l =
    (l.piece.to ≤ l.next.from)
    × (l.next.number ≤ l.next.from)
    × (l.next.from < l.count → l.next.from < l.next.to)
    × (l.next.from ≤ l.next.to)
    × (l.next.to ≤ l.count)

abbrev pub decreases-loop-next : goal.decreases-loop-next
decreases-loop-next g l = l.count - l.next.from

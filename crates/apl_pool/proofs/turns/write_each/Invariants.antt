use Rattle.std.proofs.Common.{ℕ, ◌*◌, ◌<◌, slice_index_or}
use Rattle.apl_pool.proofs.turns.write_each.Given as goal

abbrev pub invariant-loop-turn : goal.invariant-loop-turn
invariant-loop-turn g l =
    (k : ℕ) (d : g.row.T.Denot) → k < l.turn * 4 → goal.F-post g l.value k (slice_index_or l.room k d)

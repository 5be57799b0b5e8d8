use Rattle.std.proofs.Common.{ℕ, ◌<◌, slice_index_or}
use Rattle.apl_pool.proofs.turns.write_up_to.Given as goal

abbrev pub invariant-loop-k : goal.invariant-loop-k
invariant-loop-k g l =
    (k : ℕ) (d : g.row.T.Denot) → k < l.k → goal.F-post g l.value k (slice_index_or l.room k d)

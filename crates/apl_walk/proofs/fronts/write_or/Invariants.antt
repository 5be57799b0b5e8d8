use Rattle.std.proofs.Common.{◌≡◌, ℕ, ◌+◌, ◌<◌, slice_index_or}
use Rattle.apl_walk.proofs.fronts.write_or.Given as goal

abbrev pub invariant-loop-k : goal.invariant-loop-k
invariant-loop-k g l =
    (k : ℕ) (d : g.row.T.Denot) → k < l.k → slice_index_or l.elements (l.first + k) l.past ≡ slice_index_or l.room k d

use Rattle.std.proofs.Common.{◌≡◌, ℕ, ◌*◌, ◌/◌, ◌<◌, slice_index_or}
use Rattle.apl_walk.proofs.fronts.write_pairs.Given as goal

abbrev pub invariant-loop-turn : goal.invariant-loop-turn
invariant-loop-turn g l =
    (k : ℕ) (d : g.row.T.Denot) → k < 2 * (4 * l.turn) → slice_index_or l.room k d ≡ slice_index_or l.elements (k / 2) d

use Rattle.std.proofs.Common.{◌≡◌, ℕ, ◌*◌, ◌/◌, ◌<◌, slice_index_or}
use Rattle.apl_walk.proofs.fronts.write_last_pairs.Given as goal

abbrev pub invariant-loop-pair : goal.invariant-loop-pair
invariant-loop-pair g l =
    (k : ℕ) (d : g.row.T.Denot) → k < 2 * l.pair → slice_index_or l.room k d ≡ slice_index_or l.elements (k / 2) d

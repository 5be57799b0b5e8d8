use Rattle.std.proofs.Common.{◌≡◌, ◌+◌, ◌*◌, ℕ, ◌<◌, ◌≤◌, None, length, slice_index, slice_index_or}
use Rattle.apl_pool.specs.Folds.{IsFolded}
use Rattle.apl_pool.proofs.folds.join_parts.Given as goal

abbrev pub invariant-loop-number : goal.invariant-loop-number
invariant-loop-number g l =
    IsFolded g.S.Summary.step g.S.Summary.item_count g.S.Summary.outcome (g.K.Kernel.outcome l.kernel) 0 (slice_index l.pieces.starts.items l.number) l.folded
    × (length l.parts ≡ length l.initial.parts)
    × ((n : ℕ) → l.number ≤ n → slice_index_or l.parts (n * l.rows + l.row) None ≡ slice_index_or l.initial.parts (n * l.rows + l.row) None)
    × ((n other : ℕ) → l.row < other → other < l.rows → slice_index_or l.parts (n * l.rows + other) None ≡ slice_index_or l.initial.parts (n * l.rows + other) None)

use Rattle.std.proofs.Common.{◌≡◌, ℕ, ◌+◌, ◌*◌, ◌<◌, ◌≤◌, None, length, slice_index_or, vec_capacity}
use Rattle.apl_pool.specs.Summaries.{IsRowSummary}
use Rattle.apl_pool.proofs.folds.join_rows.Given as goal

abbrev pub invariant-loop-row : goal.invariant-loop-row
invariant-loop-row g l =
    let s = g.S.Summary in
    (length l.summaries.items ≡ l.row)
    × (vec_capacity l.summaries ≡ vec_capacity l.initial.summaries)
    × ((row : ℕ) (d : g.row.S.Denot) → row < l.row → IsRowSummary s.step s.item_count s.outcome (g.K.Rows.outcome l.rows) (g.K.Rows.place_count l.rows) row (slice_index_or l.summaries.items row d))
    × (length l.parts ≡ length l.initial.parts)
    × ((n other : ℕ) → l.row ≤ other → other < l.count → slice_index_or l.parts (n * l.count + other) None ≡ slice_index_or l.initial.parts (n * l.count + other) None)

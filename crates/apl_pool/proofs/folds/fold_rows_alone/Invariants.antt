use Rattle.std.proofs.Common.{◌≡◌, ℕ, ◌<◌, slice_index_or, vec_len, vec_capacity}
use Rattle.apl_pool.specs.Summaries.{IsRowSummary}
use Rattle.apl_pool.proofs.folds.fold_rows_alone.Given as goal

abbrev pub invariant-loop-row : goal.invariant-loop-row
invariant-loop-row g l =
    let s = g.S.Summary in
    (vec_len l.summaries ≡ l.row)
    × (vec_capacity l.summaries ≡ vec_capacity l.initial.summaries)
    × ((row : ℕ) (d : g.row.S.Denot) → row < l.row → IsRowSummary s.step s.item_count s.outcome (g.K.Rows.outcome l.rows) (g.K.Rows.place_count l.rows) row (slice_index_or l.summaries.items row d))

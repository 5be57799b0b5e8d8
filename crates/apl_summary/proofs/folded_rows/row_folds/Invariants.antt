use Rattle.std.proofs.Common.{◌≡◌, ◌≤◌, length, vec_capacity}
use Rattle.apl_summary.proofs.RowNumbers.{AreNumbers}
use Rattle.apl_summary.proofs.folded_rows.row_folds.Given as goal

abbrev pub invariant-loop-row : goal.invariant-loop-row
invariant-loop-row g l =
    (length l.numbers.items ≡ l.row)
    × (length l.summaries ≤ vec_capacity l.numbers)
    × AreNumbers g.S.Summary.step (g.K.Rows.outcome l.rows) (g.K.Rows.place_count l.rows) (g.K.FoldedRows.incoming l.rows) l.numbers.items

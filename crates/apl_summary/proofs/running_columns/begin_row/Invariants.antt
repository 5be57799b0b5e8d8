use Rattle.std.proofs.Common.{◌≡◌, ℕ, ◌<◌, length, slice_index_or}
use Rattle.apl_summary.proofs.running_columns.begin_row.Given as goal

abbrev pub invariant-loop-column : goal.invariant-loop-column
invariant-loop-column g l = record {
  len : length l.fronts ≡ length l.initial.fronts;
  first : (c : ℕ) (d : g.row.F.Denot) → c < l.column → slice_index_or l.fronts c d ≡ l.front;
}

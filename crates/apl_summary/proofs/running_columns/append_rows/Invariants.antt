use Rattle.std.proofs.Common.{◌≡◌, ◌*◌, ◌%◌, length, vec_len, vec_capacity, map}
use Rattle.apl_summary.specs.Columns.{AreColumnFolds, AreFrontsAt, column_before}
use Rattle.apl_summary.proofs.running_columns.append_rows.Given as goal

abbrev pub invariant-loop-row : goal.invariant-loop-row
invariant-loop-row g l = record {
  len : length l.fronts ≡ length l.initial.fronts;
  count : vec_len l.values ≡ l.row * length l.initial.fronts;
  capacity : vec_capacity l.values ≡ vec_capacity l.initial.values;
  folds : AreColumnFolds g.F.PrefixState.step (map g.T.Numeric.number_in l.numbers) l.items (length l.initial.fronts) (vec_len l.values) l.values.items;
  fronts : (l.row % l.items ≡ 0 → ⊥) → AreFrontsAt g.F.PrefixState.is_of (column_before (map g.T.Numeric.number_in l.numbers) l.items (length l.initial.fronts)) (l.row * length l.initial.fronts) l.fronts;
}

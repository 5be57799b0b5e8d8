use Rattle.std.proofs.Common.{◌≡◌, ◌+◌, ◌^◌, ◌<◌, ℕ, ℤ, List, Bool, length, vec_capacity, map}
use Rattle.apl_summary.specs.NearTotals.{AreNearFolds, IsRow}
use Rattle.apl_summary.proofs.near_columns.append_first_row.Given as goal

abbrev pub invariant-loop-column : goal.invariant-loop-column
invariant-loop-column g l = record {
  count : length l.values.items ≡ l.start + l.column;
  capacity : vec_capacity l.values ≡ vec_capacity l.initial.values;
  folds : l.most < 2 ^ 33 → (is_plus : Bool) (before : ℕ → List ℤ) → IsRow before (map g.T.Numeric.number_in l.numbers) l.start l.inner 0
      → AreNearFolds is_plus before (map g.T.Numeric.number_in l.numbers) l.start l.initial.values.items → AreNearFolds is_plus before (map g.T.Numeric.number_in l.numbers) (l.start + l.column) l.values.items;
}

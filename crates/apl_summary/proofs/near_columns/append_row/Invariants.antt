use Rattle.std.proofs.Common.{◌≡◌, ◌+◌, ◌^◌, ◌<◌, ℕ, ℤ, List, Bool, length, vec_capacity, map}
use Rattle.apl_summary.specs.NearTotals.{sign_after, AreNearFolds, IsRow}
use Rattle.apl_summary.proofs.near_columns.append_row.Given as goal

abbrev pub invariant-loop-column : goal.invariant-loop-column
invariant-loop-column g l = record {
  count : length l.values.items ≡ l.start + l.column;
  capacity : vec_capacity l.values ≡ vec_capacity l.initial.values;
  folds : l.most < 2 ^ 33 → (is_plus : Bool) (before : ℕ → List ℤ) (count : ℕ) → 0 < count → count < 1073741824 → l.subtracts ≡ sign_after is_plus count
      → IsRow before (map g.T.Numeric.number_in l.numbers) l.start l.inner count
      → AreNearFolds is_plus before (map g.T.Numeric.number_in l.numbers) l.start l.initial.values.items → AreNearFolds is_plus before (map g.T.Numeric.number_in l.numbers) (l.start + l.column) l.values.items;
}

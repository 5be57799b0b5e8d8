use Rattle.std.proofs.Common.{◌≡◌, ◌*◌, nat_eq, vec_len, vec_capacity, map}
use Rattle.apl_summary.specs.Columns.{column_before}
use Rattle.apl_summary.specs.NearTotals.{AreNearFolds}
use Rattle.apl_summary.proofs.near_columns.append_near_columns.Given as goal

abbrev pub invariant-loop-row : goal.invariant-loop-row
invariant-loop-row g l = record {
  count : vec_len l.values ≡ l.row * l.inner;
  capacity : vec_capacity l.values ≡ vec_capacity l.initial.values;
  folds : AreNearFolds (nat_eq g.row.MINUS 0) (column_before (map g.T.Numeric.number_in l.numbers) l.items l.inner) (map g.T.Numeric.number_in l.numbers) (vec_len l.values) l.values.items;
}

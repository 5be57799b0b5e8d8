use Rattle.std.proofs.Common.{◌≡◌, ◌-◌, ◌<◌, true, length, map}
use Rattle.apl_reduce.specs.ProductRows.{AreRowFolds}
use Rattle.apl_reduce.proofs.line_rows.LineRows.put_folds.Given as goal

abbrev pub invariant-loop-is_sure : goal.invariant-loop-is_sure
invariant-loop-is_sure g l = let s = l.self in record {
  row : l.row < length s.line.now;
  folds : l.is_sure ≡ true → AreRowFolds s.line.now (map g.U.Numeric.number_in s.right.now) s.stride l.column l.row (length s.line.now - 1 - l.row) l.totals;
  len : length l.totals ≡ length l.initial.totals;
}

abbrev pub decreases-loop-is_sure : goal.decreases-loop-is_sure
decreases-loop-is_sure g l = l.row

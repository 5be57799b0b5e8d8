use Rattle.std.proofs.Common.{◌≡◌, ◌+◌, nat_eq, map, take, length, vec_capacity}
use Rattle.apl_array.specs.Array.{bit}
use Rattle.apl_scalar.specs.Scalar.{dyadic_numbers}
use Rattle.apl_summary.specs.Constants.{signed_function}
use Rattle.apl_summary.specs.Fronts.{HasMoreAppended}
use Rattle.apl_scan.specs.TruthLines.{IsTruthSum}
use Rattle.apl_scan.proofs.truth_sums.append_some.Given as goal

abbrev pub invariant-loop-offset : goal.invariant-loop-offset
invariant-loop-offset g l = record {
  sum : IsTruthSum (nat_eq g.row.MINUS 0) l.sum.is_negated l.sum.total (take (l.from + l.offset) (map bit l.truths));
  folds : HasMoreAppended (dyadic_numbers (signed_function (nat_eq g.row.MINUS 0))) (map bit l.truths) l.from l.initial.values.items l.values.items;
  len : length l.values.items ≡ length l.initial.values.items + l.offset;
  capacity : vec_capacity l.values ≡ vec_capacity l.initial.values;
}

use Rattle.std.proofs.Common.{◌≡◌, ◌+◌, ◌*◌, nat_eq, map, take, length, vec_capacity}
use Rattle.apl_array.specs.Array.{bit}
use Rattle.apl_scalar.specs.Scalar.{dyadic_numbers}
use Rattle.apl_summary.specs.Constants.{signed_function}
use Rattle.apl_summary.specs.Running.{HasFoldsAppended}
use Rattle.apl_scan.specs.TruthLines.{IsTruthSum}
use Rattle.apl_scan.proofs.truth_sums.append_line.Given as goal

abbrev pub invariant-loop-turn : goal.invariant-loop-turn
invariant-loop-turn g l = record {
  sum : IsTruthSum (nat_eq g.row.MINUS 0) l.sum.is_negated l.sum.total (take (l.turn * 4) (map bit l.truths));
  folds : HasFoldsAppended (dyadic_numbers (signed_function (nat_eq g.row.MINUS 0))) (map bit l.truths) l.initial.values.items l.values.items;
  len : length l.values.items ≡ length l.initial.values.items + l.turn * 4;
  capacity : vec_capacity l.values ≡ vec_capacity l.initial.values;
}

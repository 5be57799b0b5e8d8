use Rattle.std.proofs.Common.{◌*◌, ◌≤◌, map, length, vec_capacity}
use Rattle.apl_array.specs.declared.function.ScalarFunction.TheVariants.{NotEqual}
use Rattle.apl_array.specs.Array.{bit}
use Rattle.apl_pool.specs.Pool.{AreValues}
use Rattle.apl_scalar.specs.Scalar.{dyadic_numbers}
use Rattle.apl_scan.specs.Lines.{scan_at}
use Rattle.apl_scan.proofs.parities.join_by_parity.Given as goal

abbrev pub invariant-loop-line : goal.invariant-loop-line
invariant-loop-line g l = record {
  are : AreValues (scan_at (dyadic_numbers NotEqual) (map bit l.truths) l.items 1) (l.line * l.items) (map bit l.values.items);
  room : length l.truths ≤ vec_capacity l.values;
}

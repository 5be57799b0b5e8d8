use Rattle.std.proofs.Common.{ℕ, ◌+◌, ◌≤◌}
use Rattle.apl_scalar.specs.Scalar.{is_one}
use Rattle.apl_summary.specs.Fronts.{AreBitsFrom}
use Rattle.apl_summary.proofs.running_bits.RunningBits.with_places.Given as goal

abbrev pub invariant-loop-offset : goal.invariant-loop-offset
invariant-loop-offset g l =
    let outcome = g.K.Kernel.outcome l.kernel in
    (from : ℕ) → from ≤ l.place → AreBitsFrom g.P.Function.FUNCTION outcome from l.place (is_one l.initial.bits.for_zero) (is_one l.initial.bits.for_one)
    → AreBitsFrom g.P.Function.FUNCTION outcome from (l.place + l.offset) (is_one l.bits.for_zero) (is_one l.bits.for_one)

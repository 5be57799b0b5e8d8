use Rattle.std.proofs.Common.{◌+◌, ◌*◌}
use Rattle.apl_scalar.specs.Scalar.{is_one}
use Rattle.apl_summary.specs.Fronts.{AreBitsFrom}
use Rattle.apl_summary.proofs.running_bits.RunningBits.of_places.Given as goal

abbrev pub invariant-loop-turn : goal.invariant-loop-turn
invariant-loop-turn g l = AreBitsFrom g.P.Function.FUNCTION (g.K.Kernel.outcome l.kernel) l.from (l.from + l.turn * 4) (is_one l.bits.for_zero) (is_one l.bits.for_one)

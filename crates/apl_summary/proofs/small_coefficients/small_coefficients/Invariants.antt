use Rattle.std.proofs.Common.{◌≡◌, ◌+◌, ◌-◌, ◌*◌}
use Rattle.apl_array.specs.declared.function.ScalarFunction.TheVariants.{Times}
use Rattle.apl_pool.specs.Summaries.{IsSummaryFrom}
use Rattle.apl_scalar.specs.Scalar.{dyadic_numbers}
use Rattle.apl_summary.specs.declared.coefficients.Coefficients.{Coefficients}
use Rattle.apl_summary.specs.Coefficients.{scaled_outcome, AreCoefficients}
use Rattle.apl_summary.specs.SmallCoefficients.{widened}
use Rattle.apl_summary.proofs.small_coefficients.small_coefficients.Given as goal

abbrev pub invariant-loop-turn : goal.invariant-loop-turn
invariant-loop-turn g l = record {
  count : l.coefficients.count ≡ l.turn * 4 + 1;
  lawful : AreCoefficients (widened l.coefficients);
  summary : IsSummaryFrom (dyadic_numbers Times) (λ (c : Coefficients). c.count) scaled_outcome (g.K.Kernel.outcome l.kernel) (l.last - l.turn * 4) l.to (widened l.coefficients);
}

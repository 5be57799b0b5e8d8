use Rattle.std.proofs.Common.{◌≡◌, ℕ, ◌+◌, ◌-◌, ◌≤◌}
use Rattle.apl_array.specs.declared.function.ScalarFunction.TheVariants.{Times}
use Rattle.apl_pool.specs.Summaries.{IsSummaryFrom}
use Rattle.apl_scalar.specs.Scalar.{dyadic_numbers}
use Rattle.apl_summary.specs.declared.coefficients.Coefficients.{Coefficients}
use Rattle.apl_summary.specs.Coefficients.{scaled_outcome, AreCoefficients}
use Rattle.apl_summary.specs.SmallCoefficients.{widened}
use Rattle.apl_summary.proofs.small_coefficients.SmallCoefficients.with_places.Given as goal

abbrev pub invariant-loop-offset : goal.invariant-loop-offset
invariant-loop-offset g l = record {
  count : l.coefficients.count ≡ l.initial.coefficients.count + l.offset;
  lawful : AreCoefficients (widened l.coefficients);
  summary : (to : ℕ) → l.place ≤ to
      → IsSummaryFrom (dyadic_numbers Times) (λ (c : Coefficients). c.count) scaled_outcome (g.K.Kernel.outcome l.kernel) l.place to (widened l.initial.coefficients)
      → IsSummaryFrom (dyadic_numbers Times) (λ (c : Coefficients). c.count) scaled_outcome (g.K.Kernel.outcome l.kernel) (l.place - l.offset) to (widened l.coefficients);
}

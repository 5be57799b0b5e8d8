use Rattle.std.proofs.Common.{◌≡◌, ℕ, ◌+◌, ◌-◌, ◌≤◌}
use Rattle.apl_pool.specs.Summaries.{IsSummaryFrom}
use Rattle.apl_scalar.specs.Scalar.{dyadic_numbers}
use Rattle.apl_summary.specs.declared.constants.Constants.{Constants}
use Rattle.apl_summary.specs.Constants.{signed_function, signed_outcome, AreConstants}
use Rattle.apl_summary.specs.SmallConstants.{widened, AreSmallConstants}
use Rattle.apl_summary.proofs.small_constants.SmallConstants.with_places.Given as goal

abbrev pub invariant-loop-offset : goal.invariant-loop-offset
invariant-loop-offset g l = record {
  count : l.constants.count ≡ l.initial.constants.count + l.offset;
  small : AreSmallConstants l.constants.count l.constants;
  lawful : AreConstants l.is_plus (widened l.constants);
  summary : (to : ℕ) → l.place ≤ to
      → IsSummaryFrom (dyadic_numbers (signed_function l.is_plus)) (λ (c : Constants). c.count) signed_outcome (g.K.Kernel.outcome l.kernel) l.place to (widened l.initial.constants)
      → IsSummaryFrom (dyadic_numbers (signed_function l.is_plus)) (λ (c : Constants). c.count) signed_outcome (g.K.Kernel.outcome l.kernel) (l.place - l.offset) to (widened l.constants);
}

use Rattle.std.proofs.Common.{◌≡◌, ◌+◌, ◌-◌, ◌*◌}
use Rattle.apl_pool.specs.Summaries.{IsSummaryFrom}
use Rattle.apl_scalar.specs.Scalar.{dyadic_numbers}
use Rattle.apl_summary.specs.declared.constants.Constants.{Constants}
use Rattle.apl_summary.specs.Constants.{signed_function, signed_outcome, AreConstants}
use Rattle.apl_summary.specs.SmallConstants.{widened, AreSmallConstants}
use Rattle.apl_summary.proofs.small_constants.small_constants.Given as goal

abbrev pub invariant-loop-turn : goal.invariant-loop-turn
invariant-loop-turn g l = record {
  count : l.constants.count ≡ l.turn * 4 + 1;
  small : AreSmallConstants l.constants.count l.constants;
  lawful : AreConstants l.is_plus (widened l.constants);
  summary : IsSummaryFrom (dyadic_numbers (signed_function l.is_plus)) (λ (c : Constants). c.count) signed_outcome (g.K.Kernel.outcome l.kernel) (l.last - l.turn * 4) l.to (widened l.constants);
}

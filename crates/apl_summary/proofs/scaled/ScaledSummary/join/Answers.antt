use Rattle.std.proofs.Common.{rules, sym, ap, ◌∙◌, subst}
use Rattle.apl_summary.specs.declared.coefficients.Coefficients.{Coefficients}
use Rattle.apl_summary.specs.Coefficients.{AreCoefficients, scaled_outcome}
use Rattle.apl_summary.proofs.ScaledProducts.{joined_are, joined_outcome, scaled_in_range}
use Rattle.apl_summary.proofs.scaled.ScaledSummary.join.Goals as goal

pub invariant_of-result : goal.invariant_of-result
invariant_of-result c = record { lawful = subst AreCoefficients (sym c.joined.ensures) (joined_are _ _ c.args.left.now.lawful c.args.right.now.lawful (search rules)) }

pub returns-clause-outcome : goal.returns-clause-outcome
returns-clause-outcome c = λ r h. ap (λ (p : Coefficients). scaled_outcome p r) c.joined.ensures ∙ joined_outcome _ _ r c.args.left.now.lawful c.args.right.now.lawful

pub returns-clause-range : goal.returns-clause-range
returns-clause-range c = λ r z h o.
    scaled_in_range c.joined.result r z (subst AreCoefficients (sym c.joined.ensures) (joined_are _ _ c.args.left.now.lawful c.args.right.now.lawful (search rules))) h o

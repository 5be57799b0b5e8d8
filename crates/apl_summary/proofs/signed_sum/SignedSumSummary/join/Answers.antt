use Rattle.std.proofs.Common.{rules, nat_eq, sym, ap, ◌∙◌, subst}
use Rattle.apl_summary.specs.declared.constants.Constants.{Constants}
use Rattle.apl_summary.specs.Constants.{AreConstants, signed_outcome}
use Rattle.apl_summary.proofs.SignedSums.{are_within_94_bits, joined_are, joined_outcome, signed_in_range}
use Rattle.apl_summary.proofs.signed_sum.SignedSumSummary.join.Goals as goal

pub joined-requires-clause-within : goal.joined-requires-clause-within
joined-requires-clause-within g c = (are_within_94_bits _ _ c.args.left.now.lawful, are_within_94_bits _ _ c.args.right.now.lawful)

pub invariant_of-result : goal.invariant_of-result
invariant_of-result g c = record { lawful = subst (λ (p : Constants). AreConstants (nat_eq g.row.MINUS 0) p) (sym c.joined.ensures) (joined_are _ _ _ c.args.left.now.lawful c.args.right.now.lawful (search rules)) }

pub returns-clause-outcome : goal.returns-clause-outcome
returns-clause-outcome g c = λ r h. ap (λ (p : Constants). signed_outcome p r) c.joined.ensures ∙ joined_outcome _ _ _ c.args.left.now.lawful c.args.right.now.lawful r h

pub returns-clause-range : goal.returns-clause-range
returns-clause-range g c = λ r z h o.
    signed_in_range (nat_eq g.row.MINUS 0) c.joined.result r z (subst (λ (p : Constants). AreConstants (nat_eq g.row.MINUS 0) p) (sym c.joined.ensures) (joined_are _ _ _ c.args.left.now.lawful c.args.right.now.lawful (search rules))) h o

use Rattle.std.proofs.Common.{rules, sym, subst}
use Rattle.apl_yard.specs.Rule.{IsPossible}
use Rattle.apl_yard.proofs.Keeps.{hires_at, opening_possible}
use Rattle.apl_yard.proofs.yard.Hand.thief.Goals as goal

pub another-pass-requires : goal.another-pass-requires
another-pass-requires c = hires_at _ _ (search rules)

pub invariant_of-result-clause-possible : goal.invariant_of-result-clause-possible
invariant_of-result-clause-possible c = subst IsPossible (sym c.another-pass.ensures.rule.1) opening_possible

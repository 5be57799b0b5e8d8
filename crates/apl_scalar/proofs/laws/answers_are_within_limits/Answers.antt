use Rattle.apl_scalar.proofs.Exact.{RangeLaw}
use Rattle.apl_scalar.proofs.WithinLimits.{monadic_answer_within, dyadic_answer_within}
use Rattle.apl_scalar.proofs.laws.answers_are_within_limits.Goals as goal

pub returns-clause-monadic : goal.returns-clause-monadic
returns-clause-monadic c =
    let law = c.range_is_decided.ensures in
    let range : RangeLaw = record { decided = law.decided; bits = law.bits } in
    monadic_answer_within range c.answer_is_within_limits.ensures.answer

pub returns-clause-dyadic : goal.returns-clause-dyadic
returns-clause-dyadic c =
    let law = c.range_is_decided.ensures in
    let range : RangeLaw = record { decided = law.decided; bits = law.bits } in
    dyadic_answer_within range c.answer_is_within_limits.ensures.answer

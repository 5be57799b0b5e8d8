use Rattle.apl_scalar.proofs.Exact.{RangeLaw}
use Rattle.apl_scalar.proofs.InRange.{monadic_of_in, dyadic_of_in, monadic_answer_in, dyadic_answer_in}
use Rattle.apl_scalar.proofs.laws.answers_are_in_range.Goals as goal

pub returns-clause-monadic : goal.returns-clause-monadic
returns-clause-monadic c =
    let law = c.range_is_decided.ensures in
    let range : RangeLaw = record { decided = law.decided; bits = law.bits } in
    monadic_answer_in range c.answer_is_in_range.ensures

pub returns-clause-dyadic : goal.returns-clause-dyadic
returns-clause-dyadic c =
    let law = c.range_is_decided.ensures in
    let range : RangeLaw = record { decided = law.decided; bits = law.bits } in
    dyadic_answer_in range c.answer_is_in_range.ensures

pub returns-clause-element : goal.returns-clause-element
returns-clause-element c =
    let law = c.range_is_decided.ensures in
    let range : RangeLaw = record { decided = law.decided; bits = law.bits } in
    monadic_of_in range

pub returns-clause-elements : goal.returns-clause-elements
returns-clause-elements c =
    let law = c.range_is_decided.ensures in
    let range : RangeLaw = record { decided = law.decided; bits = law.bits } in
    dyadic_of_in range

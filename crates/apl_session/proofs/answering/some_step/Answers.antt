use Rattle.apl_eval.specs.Lawful.{IsLawful}
use Rattle.apl_session.specs.Run.{IsTotal}
use Rattle.apl_session.specs.Step.{session_semantics}
use Rattle.apl_session.proofs.LawLemmas.{answer_lawful_lem}
use Rattle.apl_session.proofs.SomeSteps.{StepLaws, some_step_of}
use Rattle.apl_session.proofs.answering.some_step.Goals as goal

some : goal.After-shown_always → IsTotal IsLawful session_semantics
some c =
    let lawful = c.lawful_stays.ensures in
    let laws : StepLaws = record {
      reading = c.some_reading.ensures;
      constants = c.constants_are_within_limits.ensures;
      opening = lawful.opening;
      origin = lawful.origin;
      width = lawful.width;
      outcome = lawful.outcome;
      shown = c.shown_always.ensures;
    } in
    some_step_of laws

pub returns-clause-some : goal.returns-clause-some
returns-clause-some c = some c

pub returns-clause-lawful : goal.returns-clause-lawful
returns-clause-lawful c = answer_lawful_lem session_semantics IsLawful c.one_step.ensures (some c)

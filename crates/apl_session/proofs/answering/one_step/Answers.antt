use Rattle.apl_session.proofs.Steps.{one_step_of}
use Rattle.apl_session.proofs.answering.one_step.Goals as goal

pub returns : goal.returns
returns c = one_step_of c.shown_once.ensures c.one_reading.ensures

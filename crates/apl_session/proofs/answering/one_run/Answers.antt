use Rattle.apl_session.specs.Step.{session_semantics}
use Rattle.apl_session.proofs.LawLemmas.{one_defined_run_lem}
use Rattle.apl_session.proofs.answering.one_run.Goals as goal

pub returns : goal.returns
returns c = one_defined_run_lem session_semantics c.one_step.ensures

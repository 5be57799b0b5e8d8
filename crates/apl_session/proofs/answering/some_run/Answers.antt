use Rattle.apl_eval.specs.Lawful.{IsLawful}
use Rattle.apl_eval.specs.Workspace.{opening_workspace}
use Rattle.apl_session.specs.Step.{session_semantics}
use Rattle.apl_session.proofs.LawLemmas.{some_defined_run_lem}
use Rattle.apl_session.proofs.answering.some_run.Goals as goal

pub returns-clause-opening : goal.returns-clause-opening
returns-clause-opening c = λ lines. some_defined_run_lem session_semantics IsLawful c.some_step.ensures.some opening_workspace lines c.lawful_stays.ensures.opening

pub returns-clause-lawful : goal.returns-clause-lawful
returns-clause-lawful c = some_defined_run_lem session_semantics IsLawful c.some_step.ensures.some

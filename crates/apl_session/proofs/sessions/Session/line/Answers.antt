use Rattle.std.proofs.Common.{subst}
use Rattle.apl_eval.specs.Workspace.{WorkspaceValue}
use Rattle.apl_session.specs.LineAnswer.{IsLineOutcome}
use Rattle.apl_session.specs.LineStep.{IsLineStep}
use Rattle.apl_session.proofs.Steps.{answered_with_return}
use Rattle.apl_session.proofs.sessions.Session.line.Goals as goal

pub returns-clause-answered : goal.returns-clause-answered
returns-clause-answered g c =
    answered_with_return c.args.line.now c.trim_return.result.now c.args.self.now c.answer.new.workspace _ _ c.answer.result c.trim_return.ensures
    (subst (λ (w : WorkspaceValue). IsLineOutcome IsLineStep w c.answer.new.workspace c.trim_return.result.now (g.S.Sink.taken c.args.sink.now) (g.S.Sink.taken c.answer.new.sink) c.answer.result) c.self.view_is c.answer.ensures.answered)

use Rattle.apl_session.proofs.Steps.{outcome_of_assignment, outcome_of_text, outcome_of_error, outcome_of_no_memory}
use Rattle.apl_session.proofs.sessions.answer_statement.Goals as goal

pub returns-in-Ok-Silent-clause-answered : goal.returns-in-Ok-Silent-clause-answered
returns-in-Ok-Silent-clause-answered g c =
    outcome_of_assignment c.args.workspace.now c.evaluate.new.workspace c.args.line.now c.args.program.now c.requires _
    (λ tree same. rw c.in-Ok-Silent.field-0-is at (c.in-Ok-Silent.ensures tree same))

pub returns-in-Ok-Text-clause-answered : goal.returns-in-Ok-Text-clause-answered
returns-in-Ok-Text-clause-answered g c = let w = rw c.as_bytes.ensures.value at c.put_all.ensures.writes in
    outcome_of_text c.args.workspace.now c.evaluate.new.workspace c.args.line.now c.args.program.now c.requires c.in-Ok-Text.text _ _ c.put_all.result c.go_on.result
    (λ tree same. rw c.in-Ok-Text.field-0-is at (c.in-Ok-Text.ensures tree same)) c.go_on.ensures w

pub returns-in-Err-Error-clause-answered : goal.returns-in-Err-Error-clause-answered
returns-in-Err-Error-clause-answered g c =
    outcome_of_error c.args.workspace.now c.evaluate.new.workspace c.args.line.now c.args.program.now c.requires c.in-Err-Error.report c.in-Err-Error.column _ _ c.report.result c.go_on-in-Err-Error.result
    (λ tree same. rw c.in-Err-Error.field-0-is at (c.in-Err-Error.ensures tree same)) c.go_on-in-Err-Error.ensures c.report.ensures.writes

pub returns-in-Err-Memory-clause-answered : goal.returns-in-Err-Memory-clause-answered
returns-in-Err-Memory-clause-answered g c =
    outcome_of_no_memory c.args.workspace.now c.evaluate.new.workspace c.args.line.now c.args.program.now c.requires _ _ c.report-in-Err-Memory.result c.go_on-in-Err-Memory.result
    (λ tree same. rw c.in-Err-Memory.field-0-is at (c.in-Err-Memory.ensures tree same)) c.go_on-in-Err-Memory.ensures c.report-in-Err-Memory.ensures.writes

use Rattle.std.proofs.Common.{refl, subst, Some}
use Rattle.std.specs.Prelude.{ℕ, take}
use Rattle.apl_print.specs.Put.{Writes}
use Rattle.apl_print.specs.Reported.{report_text}
use Rattle.apl_print.specs.declared.reports.Report.TheVariants.{Syntax, Limit, Character}
use Rattle.apl_syntax.specs.Reading.{character, blank, syntax, limit}
use Rattle.apl_session.specs.Step.{report_answer}
use Rattle.apl_session.proofs.Steps.{outcome_of_silence, outcome_of_reading, outcome_of_refusal, at_both}
use Rattle.apl_session.proofs.sessions.answer.Goals as goal

pub answer_statement-requires-after_bounds : goal.answer_statement-requires-after_bounds
answer_statement-requires-after_bounds g c κs within = let read = rw c.in-Ok-Statement.field-0-is at c.in-Ok-Statement.ensures.line in (read.0, read.1, read.2)

pub returns-in-Ok-Blank-clause-answered : goal.returns-in-Ok-Blank-clause-answered
returns-in-Ok-Blank-clause-answered g c =
    outcome_of_silence c.args.workspace.now c.args.workspace.now c.args.line.now _ blank (rw c.in-Ok-Blank.field-0-is at c.in-Ok-Blank.ensures.line) refl

pub returns-in-Err-Character-clause-answered : goal.returns-in-Err-Character-clause-answered
returns-in-Err-Character-clause-answered g c =
    outcome_of_reading c.args.workspace.now c.args.line.now _ _ _ (character c.in-Err-Character.bytes c.in-Err-Character.column)
    (report_answer Character (take c.in-Err-Character.bytes c.args.line.now) c.in-Err-Character.column c.args.workspace.now)
    c.report.result c.go_on.result c.go_on.ensures (rw c.in-Err-Character.field-0-is at c.in-Err-Character.ensures.stop) refl refl refl
    (at_both (λ b k. Writes (g.S.Sink.taken c.args.sink.now) (g.S.Sink.taken c.report.new.sink) (report_text Character (take b c.args.line.now) (Some k)) c.report.result)
    _ _ _ _ c.in-Err-Character.bytes-is c.in-Err-Character.column-is c.report.ensures.writes)

pub returns-in-Err-Syntax-clause-answered : goal.returns-in-Err-Syntax-clause-answered
returns-in-Err-Syntax-clause-answered g c =
    outcome_of_reading c.args.workspace.now c.args.line.now _ _ _ (syntax c.in-Err-Syntax.column) (report_answer Syntax c.args.line.now c.in-Err-Syntax.column c.args.workspace.now)
    c.report-in-Err-Syntax.result c.go_on-in-Err-Syntax.result c.go_on-in-Err-Syntax.ensures (rw c.in-Err-Syntax.field-0-is at c.in-Err-Syntax.ensures.stop) refl refl refl
    (subst (λ (k : ℕ). Writes (g.S.Sink.taken c.args.sink.now) (g.S.Sink.taken c.report-in-Err-Syntax.new.sink) (report_text Syntax c.args.line.now (Some k)) c.report-in-Err-Syntax.result) c.in-Err-Syntax.column-is c.report-in-Err-Syntax.ensures.writes)

pub returns-in-Err-Limit-clause-answered : goal.returns-in-Err-Limit-clause-answered
returns-in-Err-Limit-clause-answered g c =
    outcome_of_reading c.args.workspace.now c.args.line.now _ _ _ (limit c.in-Err-Limit.column) (report_answer Limit c.args.line.now c.in-Err-Limit.column c.args.workspace.now)
    c.report-in-Err-Limit.result c.go_on-in-Err-Limit.result c.go_on-in-Err-Limit.ensures (rw c.in-Err-Limit.field-0-is at c.in-Err-Limit.ensures.stop) refl refl refl
    (subst (λ (k : ℕ). Writes (g.S.Sink.taken c.args.sink.now) (g.S.Sink.taken c.report-in-Err-Limit.new.sink) (report_text Limit c.args.line.now (Some k)) c.report-in-Err-Limit.result) c.in-Err-Limit.column-is c.report-in-Err-Limit.ensures.writes)

pub returns-in-Err-Memory-clause-answered : goal.returns-in-Err-Memory-clause-answered
returns-in-Err-Memory-clause-answered g c =
    outcome_of_refusal c.args.workspace.now c.args.line.now _ _ c.report-in-Err-Memory.result c.go_on-in-Err-Memory.result c.go_on-in-Err-Memory.ensures
    (rw c.in-Err-Memory.field-0-is at c.in-Err-Memory.ensures.stop) c.report-in-Err-Memory.ensures.writes

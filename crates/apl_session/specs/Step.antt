-- The step of a line: what is written for it, the workspace after it, and whether the run ends with it.
use Rattle.std.specs.Prelude.{◌≡◌, ℕ, true, false, MatchBool, List, [], Some, take, encode_utf8_all}
use Rattle.apl_grammar.specs.Tree.{Expr}
use Rattle.apl_syntax.specs.declared.lines.Command.{Command}
use Rattle.apl_syntax.specs.declared.lines.Command.TheVariants.{Origin, Width, Clear, Off, Incorrect}
use Rattle.apl_syntax.specs.Reading.{Reading, character, command, blank, statement, syntax, limit, IsReading, IsListed}
use Rattle.apl_print.specs.Reported.{report_text}
use Rattle.apl_print.specs.Replied.{reply_text}
use Rattle.apl_print.specs.declared.replies.Reply.{Reply}
use Rattle.apl_print.specs.declared.replies.Reply.TheVariants as reply
use Rattle.apl_print.specs.declared.reports.Report.{Report}
use Rattle.apl_print.specs.declared.reports.Report.TheVariants as report
use Rattle.apl_print.specs.Shown.{IsShown}
use Rattle.apl_array.specs.Array.{ArrayValue}
use Rattle.apl_array.specs.Axes.{origin_number}
use Rattle.apl_eval.specs.Workspace.{WorkspaceValue, with_origin, with_width, opening_workspace}
use Rattle.apl_eval.specs.Meaning.{Outcome, done, failed, meaning_of, is_assignment}
use Rattle.apl_session.specs.Run.{Answer, Semantics}

-- the answer that writes this text and leaves this workspace
abbrev pub text_answer : List ℕ → WorkspaceValue → Answer WorkspaceValue
text_answer text workspace = record { text = text; after = workspace; ends = false }

-- the answer that writes the report at a column of the line
abbrev pub report_answer : Report → List ℕ → ℕ → WorkspaceValue → Answer WorkspaceValue
report_answer report line column workspace = text_answer (report_text report line (Some column)) workspace

-- the answer that writes the value's text, at the width of the workspace
abbrev pub IsPrintedAnswer : ArrayValue → WorkspaceValue → Answer WorkspaceValue → Type 0
IsPrintedAnswer value workspace answer =
    (characters : List ℕ) × IsShown value workspace.width characters × (answer ≡ text_answer (encode_utf8_all characters) workspace)

-- the answer that writes a reply
abbrev pub reply_answer : Reply → WorkspaceValue → Answer WorkspaceValue
reply_answer reply workspace = text_answer (reply_text reply) workspace

-- A command's answer. A setting is changed, and the reply has it as it was. Or the workspace is made as it was at first, or the run ends.
abbrev pub command_answer : Command → WorkspaceValue → Answer WorkspaceValue
command_answer (Origin origin) workspace = reply_answer (reply.Was (origin_number workspace.origin)) (with_origin origin workspace)
command_answer (Width width) workspace = reply_answer (reply.Was workspace.width) (with_width width workspace)
command_answer Clear workspace = reply_answer reply.Clear opening_workspace
command_answer Off workspace = record { text = []; after = workspace; ends = true }
command_answer Incorrect workspace = reply_answer reply.Incorrect workspace

-- A statement's answer: an assignment writes nothing, another statement its value's text; an error is reported.
abbrev pub IsStatementAnswer : List ℕ → Expr → Outcome ArrayValue → Answer WorkspaceValue → Type 0
IsStatementAnswer line tree (done value after) answer = MatchBool (is_assignment tree) (answer ≡ text_answer [] after) (IsPrintedAnswer value after answer)
IsStatementAnswer line tree (failed report column after) answer = answer ≡ report_answer report line column after

-- the answer to a line that reads so
abbrev pub IsAnswerTo : WorkspaceValue → List ℕ → Reading → Answer WorkspaceValue → Type 0
IsAnswerTo workspace line blank answer = answer ≡ text_answer [] workspace
IsAnswerTo workspace line (command given) answer = answer ≡ command_answer given workspace
IsAnswerTo workspace line (statement tree) answer = IsStatementAnswer line tree (meaning_of tree workspace) answer
IsAnswerTo workspace line (character bytes column) answer = answer ≡ report_answer report.Character (take bytes line) column workspace
IsAnswerTo workspace line (syntax column) answer = answer ≡ report_answer report.Syntax line column workspace
IsAnswerTo workspace line (limit column) answer = answer ≡ report_answer report.Limit line column workspace

-- the answer to a line, by what the line reads as
abbrev pub IsStep : WorkspaceValue → List ℕ → Answer WorkspaceValue → Type 0
IsStep workspace line answer = (reading : Reading) × IsReading line reading × IsAnswerTo workspace line reading answer

-- a line may be refused since memory ran out if each of its symbols is listed
abbrev pub IsRefusable : List ℕ → Type 0
IsRefusable line = (characters : List ℕ) × IsListed line characters

-- what the lines of a session mean
abbrev pub session_semantics : Semantics WorkspaceValue
session_semantics = record { IsStep = IsStep; IsRefusable = IsRefusable }

-- A line has some step in each lawful workspace.
use Rattle.std.proofs.Common.{◌≡◌, ◌≤◌, ℕ, [], List, refl}
use Rattle.std.specs.Prelude.{Bool, true, false, MatchBool, encode_utf8_all}
use Rattle.apl_array.specs.declared.axis.Origin.{Origin}
use Rattle.apl_array.specs.Array.{ArrayValue}
use Rattle.apl_array.specs.Range.{HasNumbersInRange}
use Rattle.apl_array.specs.Limits.{IsWithinLimits}
use Rattle.apl_tokens.specs.declared.token.Token.{Token}
use Rattle.apl_tokens.specs.Lexis.{Lexes}
use Rattle.apl_tokens.specs.Constants.{HasConstantsWithinLimits}
use Rattle.apl_grammar.specs.Tree.{Expr, spells}
use Rattle.apl_print.specs.Shown.{IsShown}
use Rattle.apl_print.specs.Width.{least_width, most_width}
use Rattle.apl_syntax.specs.declared.lines.Command.{Command}
use Rattle.apl_syntax.specs.declared.lines.Command.TheVariants.{Origin as SetOrigin, Width, Clear, Off, Incorrect}
use Rattle.apl_syntax.specs.Reading.{Reading, character, command, blank, statement, syntax, limit, IsReading}
use Rattle.apl_eval.specs.Workspace.{WorkspaceValue, with_origin, with_width, opening_workspace}
use Rattle.apl_eval.specs.Meaning.{Outcome, done, failed, meaning_of, is_assignment}
use Rattle.apl_eval.specs.Lawful.{IsLawful, IsLawfulOutcome}
use Rattle.apl_session.specs.Run.{Answer, IsTotal}
use Rattle.apl_session.specs.Step.{text_answer, report_answer, command_answer, IsPrintedAnswer, IsStatementAnswer, IsAnswerTo, session_semantics}

-- the laws of the crates below
pub record StepLaws : Type 0 where
  pub reading : (line : List ℕ) → (reading : Reading) × IsReading line reading
  pub constants : (characters : List ℕ) (tokens : List Token) → Lexes characters tokens → HasConstantsWithinLimits tokens
  pub opening : IsLawful opening_workspace
  pub origin : (origin : Origin) (w : WorkspaceValue) → IsLawful w → IsLawful (with_origin origin w)
  pub width : (width : ℕ) (w : WorkspaceValue) → least_width ≤ width → width ≤ most_width → IsLawful w → IsLawful (with_width width w)
  pub outcome : (tree : Expr) (w : WorkspaceValue) → HasConstantsWithinLimits (spells tree) → IsLawful w → IsLawfulOutcome (meaning_of tree w)
  pub shown : (a : ArrayValue) (width : ℕ) → HasNumbersInRange a → least_width ≤ width → (text : List ℕ) × IsShown a width text

module _ (laws : StepLaws) where
  -- a value is printed, unless the statement is an assignment
  some_done : (silent : Bool) (v : ArrayValue) (after : WorkspaceValue) → IsWithinLimits v → IsLawful after
      → (answer : Answer WorkspaceValue) × MatchBool silent (answer ≡ text_answer [] after) (IsPrintedAnswer v after answer) × IsLawful answer.after
  some_done true v after limits lawful = (text_answer [] after, refl, lawful)
  some_done false v after limits lawful =
      let shown = laws.shown v after.width limits.numbers lawful.least_width in
      (text_answer (encode_utf8_all shown.0) after, (shown.0, shown.1, refl), lawful)

  some_statement : (line : List ℕ) (tree : Expr) (outcome : Outcome ArrayValue) → IsLawfulOutcome outcome
      → (answer : Answer WorkspaceValue) × IsStatementAnswer line tree outcome answer × IsLawful answer.after
  some_statement line tree (done v after) (limits, lawful) = some_done (is_assignment tree) v after limits lawful
  some_statement line tree (failed report column after) lawful = (report_answer report line column after, refl, lawful)

  command_answer_lawful : (state : WorkspaceValue) (line : List ℕ) (given : Command) → IsReading line (command given) → IsLawful state → IsLawful (command_answer given state).after
  command_answer_lawful state line (SetOrigin origin) is lawful = laws.origin origin state lawful
  command_answer_lawful state line (Width width) (characters, listed, (text, word, argument, has, parts, (spelled, digits, least, greatest))) lawful =
      laws.width width state least greatest lawful
  command_answer_lawful state line Clear is lawful = laws.opening
  command_answer_lawful state line Off is lawful = lawful
  command_answer_lawful state line Incorrect is lawful = lawful

  some_answer : (state : WorkspaceValue) (line : List ℕ) (r : Reading) → IsReading line r → IsLawful state
      → (answer : Answer WorkspaceValue) × IsAnswerTo state line r answer × IsLawful answer.after
  some_answer state line (command given) is lawful = (command_answer given state, refl, command_answer_lawful state line given is lawful)
  some_answer state line (statement tree) (characters, listed, (not, (lexed, tree_is))) lawful =
      some_statement line tree (meaning_of tree state) (laws.outcome tree state (laws.constants characters (spells tree) lexed) lawful)
  some_answer state line blank is lawful = (_, refl, lawful)
  some_answer state line (character bytes column) is lawful = (_, refl, lawful)
  some_answer state line (syntax column) is lawful = (_, refl, lawful)
  some_answer state line (limit column) is lawful = (_, refl, lawful)

  pub some_step_of : IsTotal IsLawful session_semantics
  some_step_of state line lawful =
      let read = laws.reading line in
      let found = some_answer state line read.0 read.1 lawful in
      (found.0, (read.0, read.1, found.1), found.2)

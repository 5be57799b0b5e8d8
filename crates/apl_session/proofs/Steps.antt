-- A line has one step at most, and how a line was answered once its text was put.
use Rattle.std.proofs.Common.{◌≡◌, [], List, refl, sym, ◌∙◌, ap, subst, inl, inr, Result, Ok, Err}
use Rattle.std.specs.Prelude.{ℕ, Bool, true, false, MatchBool, Option, Some, None, String, string_bytes, encode_utf8_all}
use Rattle.std.specs.declared.alloc.Global.{Global}
use Rattle.std.proofs.KnownBytes.{Appends-nil}
use Rattle.apl_array.specs.Array.{ArrayValue}
use Rattle.apl_grammar.specs.Tree.{Expr, operations}
use Rattle.apl_grammar.specs.declared.program.Operation.{Operation}
use Rattle.apl_print.specs.Shown.{IsShown}
use Rattle.apl_print.specs.Put.{Writes}
use Rattle.apl_print.specs.Failures.{CountsFailure}
use Rattle.apl_print.specs.Reported.{report_text}
use Rattle.apl_print.specs.declared.reports.Report.{Report}
use Rattle.apl_print.specs.declared.reports.Report.TheVariants.{WsFull}
use Rattle.apl_syntax.specs.declared.lines.Command.{Command}
use Rattle.apl_syntax.specs.declared.lines.Command.TheVariants.{Off}
use Rattle.apl_syntax.specs.Reading.{Reading, character, command, blank, statement, syntax, limit, IsReading}
use Rattle.apl_eval.specs.Workspace.{WorkspaceValue}
use Rattle.apl_eval.specs.Evaluates.{Evaluates, IsPrinted}
use Rattle.apl_eval.specs.declared.statement.Shown.TheVariants.{Silent, Text}
use Rattle.apl_eval.specs.declared.statement.EvalStop.TheVariants.{Error, Memory as NoMemory}
use Rattle.apl_eval.specs.Meaning.{Outcome, done, failed, meaning_of, is_assignment}
use Rattle.apl_session.specs.Lines.{without_return}
use Rattle.apl_session.specs.Run.{Answer, IsDeterministic, refused_step}
use Rattle.apl_session.specs.LineAnswer.{IsLineOutcome, IsLineAnswered, next_after}
use Rattle.apl_session.specs.LineStep.{IsLineStep}
use Rattle.apl_session.specs.Step.{text_answer, report_answer, command_answer, IsPrintedAnswer, IsStatementAnswer, IsAnswerTo, IsRefusable, session_semantics}
use Rattle.apl_session.specs.declared.interpreter.Next.{Next}
use Rattle.apl_session.specs.declared.interpreter.Next.TheVariants.{Go, End}
use Rattle.apl_session.specs.declared.interpreter.RunFault.{RunFault}
use Rattle.apl_session.specs.declared.interpreter.RunFault.TheVariants.{Read, Write, Memory}

module _ (shown_once : (a : ArrayValue) (width : ℕ) (s t : List ℕ) → IsShown a width s → IsShown a width t → s ≡ t) where
  one_print : (v : ArrayValue) (after : WorkspaceValue) (one other : Answer WorkspaceValue) → IsPrintedAnswer v after one → IsPrintedAnswer v after other → one ≡ other
  one_print v after one other (s, shown, is) (t, again, is') =
      is ∙ ap (λ (x : List ℕ). text_answer (encode_utf8_all x) after) (shown_once v after.width s t shown again) ∙ sym is'

  one_done : (b : Bool) (v : ArrayValue) (after : WorkspaceValue) (one other : Answer WorkspaceValue)
      → MatchBool b (one ≡ text_answer [] after) (IsPrintedAnswer v after one) → MatchBool b (other ≡ text_answer [] after) (IsPrintedAnswer v after other) → one ≡ other
  one_done true v after one other h k = h ∙ sym k
  one_done false v after one other h k = one_print v after one other h k

  one_statement : (line : List ℕ) (tree : Expr) (outcome : Outcome ArrayValue) (one other : Answer WorkspaceValue)
      → IsStatementAnswer line tree outcome one → IsStatementAnswer line tree outcome other → one ≡ other
  one_statement line tree (done v after) one other h k = one_done (is_assignment tree) v after one other h k
  one_statement line tree (failed report column after) one other h k = h ∙ sym k

  one_answer : (state : WorkspaceValue) (line : List ℕ) (r : Reading) (one other : Answer WorkspaceValue)
      → IsAnswerTo state line r one → IsAnswerTo state line r other → one ≡ other
  one_answer state line (character b c) one other h k = h ∙ sym k
  one_answer state line (command given) one other h k = h ∙ sym k
  one_answer state line blank one other h k = h ∙ sym k
  one_answer state line (statement tree) one other h k = one_statement line tree (meaning_of tree state) one other h k
  one_answer state line (syntax c) one other h k = h ∙ sym k
  one_answer state line (limit c) one other h k = h ∙ sym k

  pub one_step_of : ((line : List ℕ) (r s : Reading) → IsReading line r → IsReading line s → r ≡ s) → IsDeterministic session_semantics
  one_step_of one_reading state line one other (r, reading, h) (s, again, k) =
      one_answer state line r one other h
      (subst (λ (x : Reading). IsAnswerTo state line x other) (one_reading line s r again reading) k)

-- an answer without its carriage return is one of the whole line
pub answered_with_return : (raw line : List ℕ) (state now : WorkspaceValue) (old new : Option (List ℕ)) (r : Result Next RunFault)
    → line ≡ without_return raw → IsLineOutcome IsLineStep state now line old new r → IsLineAnswered session_semantics state now raw old new r
answered_with_return raw line state now old new (Ok Go) e (answer, is, after, goes, written) =
    (answer, subst (λ (x : List ℕ). IsLineStep state x answer) e is, after, goes, written)
answered_with_return raw line state now old new (Ok End) e (answer, is, after, ends, written) =
    (answer, subst (λ (x : List ℕ). IsLineStep state x answer) e is, after, ends, written)
answered_with_return raw line state now old new (Err Write) e (answer, is, after, written) =
    (answer, subst (λ (x : List ℕ). IsLineStep state x answer) e is, after, written)
answered_with_return raw line state now old new (Err Read) e h = absurd h
answered_with_return raw line state now old new (Err Memory) e h = absurd h

-- an answer that goes on, once its text was put
pub outcome_by_put : {T E : Type 0} (state now : WorkspaceValue) (line text : List ℕ) (old new : Option (List ℕ)) (answer : Answer WorkspaceValue) (put : Result T E)
    → IsLineStep state line answer → now ≡ answer.after → answer.ends ≡ false → text ≡ answer.text → Writes old new text put
    → IsLineOutcome IsLineStep state now line old new (next_after put)
outcome_by_put state now line text old new answer (Ok value) is after goes same written =
    (answer, is, after, goes, subst (λ (x : List ℕ). Writes {T = Unit {0}} {E = Unit {0}} old new x (Ok tt)) same written)
outcome_by_put state now line text old new answer (Err error) is after goes same written =
    (answer, is, after, subst (λ (x : List ℕ). Writes {T = Unit {0}} {E = Unit {0}} old new x (Err tt)) same written)

-- a line's failures are those of the put of its text
pub counts_next : {T E : Type 0} (old new : ℕ) (put : Result T E) (r : Result Next RunFault) → r ≡ next_after put → CountsFailure old new put → CountsFailure old new r
counts_next old new (Ok value) r e h = subst (λ (x : Result Next RunFault). CountsFailure old new x) (sym e) h
counts_next old new (Err error) r e h = subst (λ (x : Result Next RunFault). CountsFailure old new x) (sym e) h

-- the answer to a line that reads so, once its text was put
pub outcome_of_reading : {T E : Type 0} (state : WorkspaceValue) (line text : List ℕ) (old new : Option (List ℕ)) (reading : Reading) (answer : Answer WorkspaceValue) (put : Result T E) (r : Result Next RunFault)
    → r ≡ next_after put → IsReading line reading → IsAnswerTo state line reading answer → answer.ends ≡ false → text ≡ answer.text → Writes old new text put
    → IsLineOutcome IsLineStep state answer.after line old new r
outcome_of_reading state line text old new reading answer put r e is answers goes same written =
    subst (λ (x : Result Next RunFault). IsLineOutcome IsLineStep state answer.after line old new x) (sym e)
    (outcome_by_put state answer.after line text old new answer put (inl (reading, is, answers)) refl goes same written)

-- the refused step of a line of listed symbols, once its text was put
pub outcome_of_refusal : {T E : Type 0} (state : WorkspaceValue) (line : List ℕ) (old new : Option (List ℕ)) (put : Result T E) (r : Result Next RunFault)
    → r ≡ next_after put → IsRefusable line → Writes old new (report_text WsFull line None) put
    → IsLineOutcome IsLineStep state state line old new r
outcome_of_refusal state line old new put r e listed written =
    subst (λ (x : Result Next RunFault). IsLineOutcome IsLineStep state state line old new x) (sym e)
    (outcome_by_put state state line (report_text WsFull line None) old new (refused_step state line) put (inr (refl, listed)) refl refl refl written)

-- an answer that writes nothing
pub outcome_of_silence : (state now : WorkspaceValue) (line : List ℕ) (old : Option (List ℕ)) (reading : Reading)
    → IsReading line reading → IsAnswerTo state line reading (text_answer [] now) → IsLineOutcome IsLineStep state now line old old (Ok Go)
outcome_of_silence state now line old reading is answers = (text_answer [] now, inl (reading, is, answers), refl, refl, Appends-nil old)

-- the reply to a command, once its text was put
pub outcome_of_reply : {T E : Type 0} (state now : WorkspaceValue) (line text : List ℕ) (old new : Option (List ℕ)) (given : Command) (put : Result T E) (r : Result Next RunFault)
    → r ≡ next_after put → IsReading line (command given) → now ≡ (command_answer given state).after → (command_answer given state).ends ≡ false
    → text ≡ (command_answer given state).text → Writes old new text put → IsLineOutcome IsLineStep state now line old new r
outcome_of_reply state now line text old new given put r e is after goes same written =
    subst (λ (x : Result Next RunFault). IsLineOutcome IsLineStep state now line old new x) (sym e)
    (outcome_by_put state now line text old new (command_answer given state) put (inl (command given, is, refl)) after goes same written)

-- the command that ends the run
pub outcome_of_end : (state : WorkspaceValue) (line : List ℕ) (old : Option (List ℕ)) → IsReading line (command Off) → IsLineOutcome IsLineStep state state line old old (Ok End)
outcome_of_end state line old is = (command_answer Off state, inl (command Off, is, refl), refl, refl, Appends-nil old)

-- the answers to a statement by its outcome
module _ (state now : WorkspaceValue) (line : List ℕ) (ops : List Operation) (read : (tree : Expr) × IsReading line (statement tree) × (operations tree ≡ ops)) where
  -- an assignment writes nothing
  pub outcome_of_assignment : (old : Option (List ℕ)) → ((tree : Expr) → operations tree ≡ ops → Evaluates tree state now (Ok Silent)) → IsLineOutcome IsLineStep state now line old old (Ok Go)
  outcome_of_assignment old evaluates =
      let found : Evaluates read.0 state now (Ok Silent) = evaluates read.0 read.2 in
      let answers : IsStatementAnswer line read.0 (done found.0 now) (text_answer [] now) =
      subst (λ (b : Bool). MatchBool b (text_answer [] now ≡ text_answer [] now) (IsPrintedAnswer found.0 now (text_answer [] now))) (sym found.2) refl in
      outcome_of_silence state now line old (statement read.0) read.1
      (subst (λ (o : Outcome ArrayValue). IsStatementAnswer line read.0 o (text_answer [] now)) (sym found.1) answers)

  -- another statement writes its value's text
  pub outcome_of_text : {T E : Type 0} (text : String Global) (old new : Option (List ℕ)) (put : Result T E) (r : Result Next RunFault)
      → ((tree : Expr) → operations tree ≡ ops → Evaluates tree state now (Ok (Text text))) → r ≡ next_after put → Writes old new (string_bytes text) put
      → IsLineOutcome IsLineStep state now line old new r
  outcome_of_text text old new put r evaluates e written =
      let found : Evaluates read.0 state now (Ok (Text text)) = evaluates read.0 read.2 in
      let printed : IsPrinted found.0 now.width (string_bytes text) = found.2.1 in
      let answer : Answer WorkspaceValue = text_answer (encode_utf8_all printed.0) now in
      let prints : IsPrintedAnswer found.0 now answer = (printed.0, printed.1, refl) in
      let answers : IsStatementAnswer line read.0 (done found.0 now) answer =
      subst (λ (b : Bool). MatchBool b (answer ≡ text_answer [] now) (IsPrintedAnswer found.0 now answer)) (sym found.2.0) prints in
      outcome_of_reading state line (string_bytes text) old new (statement read.0) answer put r e read.1
      (subst (λ (o : Outcome ArrayValue). IsStatementAnswer line read.0 o answer) (sym found.1) answers) refl printed.2 written

  -- an error writes its report
  pub outcome_of_error : {T E : Type 0} (report : Report) (column : ℕ) (old new : Option (List ℕ)) (put : Result T E) (r : Result Next RunFault)
      → ((tree : Expr) → operations tree ≡ ops → Evaluates tree state now (Err (Error report column))) → r ≡ next_after put
      → Writes old new (report_text report line (Some column)) put → IsLineOutcome IsLineStep state now line old new r
  outcome_of_error report column old new put r evaluates e written =
      outcome_of_reading state line (report_text report line (Some column)) old new (statement read.0) (report_answer report line column now) put r e read.1
      (subst (λ (o : Outcome ArrayValue). IsStatementAnswer line read.0 o (report_answer report line column now)) (sym (evaluates read.0 read.2)) refl) refl refl written

  -- a statement that is refused for want of memory leaves the workspace
  pub outcome_of_no_memory : {T E : Type 0} (old new : Option (List ℕ)) (put : Result T E) (r : Result Next RunFault)
      → ((tree : Expr) → operations tree ≡ ops → Evaluates tree state now (Err (NoMemory))) → r ≡ next_after put
      → Writes old new (report_text WsFull line None) put → IsLineOutcome IsLineStep state now line old new r
  outcome_of_no_memory old new put r evaluates e written =
      let same : now ≡ state = evaluates read.0 read.2 in
      subst (λ (w : WorkspaceValue). IsLineOutcome IsLineStep state w line old new r) (sym same) (outcome_of_refusal state line old new put r e (read.1.0, read.1.1) written)

-- a fact of two numbers, at two that are equal to them
pub at_both : (P : ℕ → ℕ → Type 0) (a b c d : ℕ) → a ≡ b → c ≡ d → P a c → P b d
at_both P a b c d e f h = subst (λ (x : ℕ). P x d) e (subst (λ (y : ℕ). P a y) f h)

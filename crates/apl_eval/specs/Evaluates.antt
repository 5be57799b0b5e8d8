-- What a statement shows, and the workspace that it leaves.
use Rattle.std.specs.Prelude.{◌≡◌, ℕ, true, false, List, Result, Ok, Err, string_bytes, encode_utf8_all}
use Rattle.apl_array.specs.Array.{ArrayValue}
use Rattle.apl_grammar.specs.Tree.{Expr}
use Rattle.apl_print.specs.Shown.{IsShown}
use Rattle.apl_eval.specs.declared.statement.Shown.{Shown}
use Rattle.apl_eval.specs.declared.statement.Shown.TheVariants.{Silent, Text}
use Rattle.apl_eval.specs.declared.statement.EvalStop.{EvalStop}
use Rattle.apl_eval.specs.declared.statement.EvalStop.TheVariants.{Error, Memory}
use Rattle.apl_eval.specs.Workspace.{WorkspaceValue}
use Rattle.apl_eval.specs.Meaning.{done, failed, meaning_of, is_assignment}

-- the bytes are the printed text of a value on lines of this width
abbrev pub IsPrinted : ArrayValue → ℕ → List ℕ → Type 0
IsPrinted v width bytes = (characters : List ℕ) × IsShown v width characters × (bytes ≡ encode_utf8_all characters)

-- a statement of this value shows nothing if it is an assignment, and else the value's text
abbrev pub IsShownAs : Expr → ArrayValue → ℕ → Shown → Type 0
IsShownAs tree v width Silent = is_assignment tree ≡ true
IsShownAs tree v width (Text text) = (is_assignment tree ≡ false) × IsPrinted v width (string_bytes text)

-- The result of a statement between the workspace before it and the one after it. Its value is shown, at the width of the
-- workspace after it, or its error is the answer. If memory runs out, the workspace is as it was.
abbrev pub Evaluates : Expr → WorkspaceValue → WorkspaceValue → Result Shown EvalStop → Type 0
Evaluates tree old new (Ok shown) = (v : ArrayValue) × (meaning_of tree old ≡ done v new) × IsShownAs tree v new.width shown
Evaluates tree old new (Err (Error report column)) = meaning_of tree old ≡ failed report column new
Evaluates tree old new (Err Memory) = new ≡ old

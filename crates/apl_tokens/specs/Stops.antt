-- Why a line has no characters or no tokens.
use Rattle.std.specs.Prelude.{◌≡◌, ◌≢◌, ℕ, List, [], length, encode_utf8_all}
use Rattle.apl_tokens.specs.declared.fronts.FrontStop.{FrontStop}
use Rattle.apl_tokens.specs.declared.fronts.FrontStop.TheVariants as front
use Rattle.apl_tokens.specs.declared.lexer.LexicalStop.{LexicalStop}
use Rattle.apl_tokens.specs.declared.lexer.LexicalStop.TheVariants as lexical
use Rattle.apl_tokens.specs.Fronts.{IsFront}
use Rattle.apl_tokens.specs.Lexis.{HasLexicalFault, HasLimitFault}

-- the front ends at an unlisted symbol; memory is wanted for a line of listed symbols alone
abbrev pub IsFrontStopOf : List ℕ → FrontStop → Type 0
IsFrontStopOf line (front.Unlisted bytes column) =
    (characters rest : List ℕ) × IsFront line characters rest × (rest ≢ []) × (bytes ≡ length (encode_utf8_all characters)) × (column ≡ length characters)
IsFrontStopOf line front.Memory = (characters : List ℕ) × IsFront line characters []

-- a lexical fault has its column; `Memory` says nothing of the tokens
abbrev pub IsLexicalStopOf : List ℕ → LexicalStop → Type 0
IsLexicalStopOf characters (lexical.Syntax column) = HasLexicalFault characters column
IsLexicalStopOf characters (lexical.Limit column) = HasLimitFault characters column
IsLexicalStopOf characters lexical.Memory = Unit {0}

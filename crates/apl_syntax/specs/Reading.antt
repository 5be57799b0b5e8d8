-- What a line reads as.
use Rattle.std.specs.Prelude.{◌≡◌, ◌≢◌, ◌⊎◌, ℕ, List, [], length, encode_utf8_all}
use Rattle.apl_tokens.specs.declared.token.Token.{Token}
use Rattle.apl_tokens.specs.Fronts.{IsFront}
use Rattle.apl_tokens.specs.Lexis.{Lexes, HasLexicalFault, HasLimitFault}
use Rattle.apl_grammar.specs.Tree.{Expr, IsTree, spells}
use Rattle.apl_grammar.specs.Caret.{IsCaret, HasNoTree}
use Rattle.apl_syntax.specs.Commands.{IsCommandLine, IsCommand}
use Rattle.apl_syntax.specs.declared.lines.Command.{Command}

-- what a line can be: a faulty one has the column of its caret
pub data Reading : Type 0 where
  -- a symbol is not listed: the front of the line has this many bytes, and as many characters as the column
  character : (bytes column : ℕ) → Reading
  command : Command → Reading
  -- no token
  blank : Reading
  statement : Expr → Reading
  syntax : (column : ℕ) → Reading
  limit : (column : ℕ) → Reading

-- No token fits at the column, or the tokens fit, no tree spells them, and their caret is there.
abbrev pub HasSyntaxFault : List ℕ → ℕ → Type 0
HasSyntaxFault characters column =
    HasLexicalFault characters column
    ⊎ ((tokens : List Token) × Lexes characters tokens × IsCaret tokens column × HasNoTree tokens)

-- how the tokens of these listed characters read
abbrev pub IsTokensReading : List ℕ → Reading → Type 0
IsTokensReading characters (character bytes column) = ⊥
IsTokensReading characters (command is) = ⊥
IsTokensReading characters blank = Lexes characters []
IsTokensReading characters (statement tree) = Lexes characters (spells tree) × IsTree tree
IsTokensReading characters (syntax column) = HasSyntaxFault characters column
IsTokensReading characters (limit column) = HasLimitFault characters column

-- how a line of these listed characters reads: a command line has no tokens
abbrev pub IsListedReading : List ℕ → Reading → Type 0
IsListedReading characters (command is) = IsCommand characters is
IsListedReading characters reading = (IsCommandLine characters → ⊥) × IsTokensReading characters reading

-- the front of the line is not the whole line, and has this many bytes and characters
abbrev pub HasUnlisted : List ℕ → ℕ → ℕ → Type 0
HasUnlisted line bytes column =
    (characters rest : List ℕ) × IsFront line characters rest × (rest ≢ []) × (bytes ≡ length (encode_utf8_all characters))
    × (column ≡ length characters)

-- each symbol of the line is listed, and these are its characters
abbrev pub IsListed : List ℕ → List ℕ → Type 0
IsListed line characters = IsFront line characters []

-- how a line reads: an unlisted symbol comes before all else
abbrev pub IsReading : List ℕ → Reading → Type 0
IsReading line (character bytes column) = HasUnlisted line bytes column
IsReading line reading = (characters : List ℕ) × IsListed line characters × IsListedReading characters reading

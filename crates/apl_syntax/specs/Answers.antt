-- The answers of the reader, by what the line reads as.
use Rattle.std.specs.Prelude.{◌≡◌, ℕ, List}
use Rattle.apl_grammar.specs.Tree.{Expr, operations}
use Rattle.apl_syntax.specs.Reading.{character, command, blank, statement, syntax, limit, IsListed, IsReading}
use Rattle.apl_syntax.specs.declared.lines.Line.{Line}
use Rattle.apl_syntax.specs.declared.lines.Line.TheVariants as line
use Rattle.apl_syntax.specs.declared.lines.ReadStop.{ReadStop}
use Rattle.apl_syntax.specs.declared.lines.ReadStop.TheVariants.{Character, Syntax, Limit, Memory}

-- A statement's program is the operations of the tree that the line reads as, which is the only one.
abbrev pub IsLineOf : List ℕ → Line → Type 0
IsLineOf text line.Blank = IsReading text blank
IsLineOf text (line.Command is) = IsReading text (command is)
IsLineOf text (line.Statement program) =
    (tree : Expr) × IsReading text (statement tree) × (operations tree ≡ program)
    × ((other : Expr) → IsReading text (statement other) → other ≡ tree)

-- memory is wanted only for a line whose symbols are all listed
abbrev pub IsReadStopOf : List ℕ → ReadStop → Type 0
IsReadStopOf line (Character bytes column) = IsReading line (character bytes column)
IsReadStopOf line (Syntax column) = IsReading line (syntax column)
IsReadStopOf line (Limit column) = IsReading line (limit column)
IsReadStopOf line Memory = (characters : List ℕ) × IsListed line characters

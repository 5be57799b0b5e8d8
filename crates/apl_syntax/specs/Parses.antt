-- What becomes of the tokens of a line. No contract of a public function cites this file.
use Rattle.std.specs.Prelude.{◌≡◌, List, []}
use Rattle.apl_tokens.specs.declared.token.Token.{Token}
use Rattle.apl_grammar.specs.Tree.{IsProgramOf}
use Rattle.apl_grammar.specs.Caret.{IsCaret, HasNoTree}
use Rattle.apl_syntax.specs.declared.lines.Line.{Line}
use Rattle.apl_syntax.specs.declared.lines.Line.TheVariants.{Blank, Command, Statement}
use Rattle.apl_syntax.specs.declared.lines.ReadStop.{ReadStop}
use Rattle.apl_syntax.specs.declared.lines.ReadStop.TheVariants.{Character, Syntax, Limit, Memory}

abbrev pub IsParsedLine : List Token → Line → Type 0
IsParsedLine tokens Blank = tokens ≡ []
IsParsedLine tokens (Command command) = ⊥
IsParsedLine tokens (Statement program) = IsProgramOf tokens program

abbrev pub IsParseStop : List Token → ReadStop → Type 0
IsParseStop tokens (Character bytes column) = ⊥
IsParseStop tokens (Syntax column) = IsCaret tokens column × HasNoTree tokens
IsParseStop tokens (Limit column) = ⊥
IsParseStop tokens Memory = Unit {0}

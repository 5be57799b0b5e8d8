-- Why tokens are no program.
use Rattle.std.specs.Prelude.{List}
use Rattle.apl_tokens.specs.declared.token.Token.{Token}
use Rattle.apl_grammar.specs.declared.statement.GrammarStop.{GrammarStop}
use Rattle.apl_grammar.specs.declared.statement.GrammarStop.TheVariants.{Syntax, Memory}
use Rattle.apl_grammar.specs.Caret.{HasNoTree, IsCaret}

-- a grammar fault has its caret; `Memory` says nothing of the tokens
abbrev pub IsStopOf : List Token → GrammarStop → Type 0
IsStopOf tokens (Syntax column) = IsCaret tokens column × HasNoTree tokens
IsStopOf tokens Memory = Unit {0}

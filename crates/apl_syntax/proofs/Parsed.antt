-- From what becomes of a line's tokens to what the line reads as.
use Rattle.std.proofs.Common.{◌≡◌, List, sym, subst, inr, Result, Ok, Err, IfOk, IfErr}
use Rattle.std.specs.Prelude.{ℕ}
use Rattle.apl_tokens.specs.declared.token.Token.{Token}
use Rattle.apl_tokens.specs.Lexis.{Lexes}
use Rattle.apl_grammar.specs.Tree.{Expr}
use Rattle.apl_syntax.specs.Commands.{IsCommandLine}
use Rattle.apl_syntax.specs.Reading.{Reading, statement, IsListed, IsReading}
use Rattle.apl_syntax.specs.Answers.{IsLineOf, IsReadStopOf}
use Rattle.apl_syntax.specs.Parses.{IsParsedLine, IsParseStop}
use Rattle.apl_syntax.specs.declared.lines.Line.{Line}
use Rattle.apl_syntax.specs.declared.lines.Line.TheVariants.{Blank, Command, Statement}
use Rattle.apl_syntax.specs.declared.lines.ReadStop.{ReadStop}
use Rattle.apl_syntax.specs.declared.lines.ReadStop.TheVariants.{Character, Syntax, Limit, Memory}

same_tree : (e f : Expr) → statement e ≡ statement f → e ≡ f
same_tree e f h = cc

module _ (line cs : List ℕ) (ts : List Token) (listed : IsListed line cs) (not : IsCommandLine cs → ⊥) (lexed : Lexes cs ts) where
  line_of : ((one other : Reading) → IsReading line one → IsReading line other → one ≡ other) → (l : Line) → IsParsedLine ts l → IsLineOf line l
  line_of one_reading Blank none = (cs, listed, (not, subst (λ (x : List Token). Lexes cs x) none lexed))
  line_of one_reading (Command c) h = absurd h
  line_of one_reading (Statement program) (e, is, ops, spelled, only) =
      let this : IsReading line (statement e) = (cs, listed, (not, (subst (λ (x : List Token). Lexes cs x) (sym spelled) lexed, is))) in
      (e, this, ops, λ other reading. same_tree other e (one_reading (statement other) (statement e) reading this))

  stop_of : (s : ReadStop) → IsParseStop ts s → IsReadStopOf line s
  stop_of (Character bytes column) h = absurd h
  stop_of (Syntax column) (caret, none) = (cs, listed, (not, inr (ts, lexed, caret, none)))
  stop_of (Limit column) h = absurd h
  stop_of Memory h = (cs, listed)

  pub read_line : ((one other : Reading) → IsReading line one → IsReading line other → one ≡ other) → (r : Result Line ReadStop) → IfOk r (IsParsedLine ts) → IfOk r (IsLineOf line)
  read_line one_reading (Ok l) h = line_of one_reading l h
  read_line one_reading (Err s) h = tt

  pub read_stop : (r : Result Line ReadStop) → IfErr r (IsParseStop ts) → IfErr r (IsReadStopOf line)
  read_stop (Ok l) h = tt
  read_stop (Err s) h = stop_of s h

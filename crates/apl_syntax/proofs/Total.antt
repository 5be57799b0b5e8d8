-- Each line reads in some way.
use Rattle.std.proofs.Common.{◌≡◌, ◌⊎◌, [], ◌∷◌, List, refl, sym, subst, inl, inr, length}
use Rattle.std.specs.Prelude.{ℕ, encode_utf8_all}
use Rattle.apl_tokens.specs.declared.token.Token.{Token}
use Rattle.apl_tokens.specs.Fronts.{IsFront}
use Rattle.apl_tokens.specs.Lexis.{Lexes, HasLexicalFault, HasLimitFault}
use Rattle.apl_grammar.specs.Tree.{Expr, IsTree, spells}
use Rattle.apl_grammar.specs.Caret.{IsCaret, HasNoTree}
use Rattle.apl_syntax.specs.Commands.{IsCommandLine}
use Rattle.apl_syntax.specs.Reading.{Reading, character, command, blank, statement, syntax, limit, IsReading, IsListed}
use Rattle.apl_syntax.proofs.Words.{command_line}
use Rattle.apl_syntax.proofs.Spelled.{some_command}

-- the laws of the crates below
pub record Laws : Type 0 where
  pub front : (line : List ℕ) → (characters rest : List ℕ) × IsFront line characters rest
  pub lexed : (characters : List ℕ) → ((tokens : List Token) × Lexes characters tokens) ⊎ (((c : ℕ) × HasLexicalFault characters c) ⊎ ((c : ℕ) × HasLimitFault characters c))
  pub tree : (t : Token) (ts : List Token) → ((e : Expr) × IsTree e × (spells e ≡ t ∷ ts)) ⊎ ((c : ℕ) × IsCaret (t ∷ ts) c × HasNoTree (t ∷ ts))

module _ (laws : Laws) (line : List ℕ) where
  abbrev Answer : Type 0
  Answer = (r : Reading) × IsReading line r

  module _ (cs : List ℕ) (listed : IsListed line cs) where
    by_tree : (not : IsCommandLine cs → ⊥) (t : Token) (ts : List Token) → Lexes cs (t ∷ ts)
        → ((e : Expr) × IsTree e × (spells e ≡ t ∷ ts)) ⊎ ((c : ℕ) × IsCaret (t ∷ ts) c × HasNoTree (t ∷ ts)) → Answer
    by_tree not t ts lexed (inl (e, is, spelled)) = (statement e, (cs, listed, (not, (subst (λ (x : List Token). Lexes cs x) (sym spelled) lexed, is))))
    by_tree not t ts lexed (inr (c, caret, none)) = (syntax c, (cs, listed, (not, inr (t ∷ ts, lexed, caret, none))))

    by_tokens : (not : IsCommandLine cs → ⊥) (ts : List Token) → Lexes cs ts → Answer
    by_tokens not [] lexed = (blank, (cs, listed, (not, lexed)))
    by_tokens not (t ∷ ts) lexed = by_tree not t ts lexed (laws.tree t ts)

    by_lexing : (IsCommandLine cs → ⊥) → ((tokens : List Token) × Lexes cs tokens) ⊎ (((c : ℕ) × HasLexicalFault cs c) ⊎ ((c : ℕ) × HasLimitFault cs c)) → Answer
    by_lexing not (inl (ts, lexed)) = by_tokens not ts lexed
    by_lexing not (inr (inl (c, fault))) = (syntax c, (cs, listed, (not, inl fault)))
    by_lexing not (inr (inr (c, fault))) = (limit c, (cs, listed, (not, fault)))

    by_command : IsCommandLine cs ⊎ (IsCommandLine cs → ⊥) → Answer
    by_command (inl is) = let found = some_command cs is in (command found.0, (cs, listed, found.1))
    by_command (inr not) = by_lexing not (laws.lexed cs)

  by_rest : (cs rest : List ℕ) → IsFront line cs rest → Answer
  by_rest cs [] front = by_command cs front (command_line cs)
  by_rest cs (b ∷ rest) front = (character (length (encode_utf8_all cs)) (length cs), (cs, b ∷ rest, front, (λ e. absurd cc), refl, refl))

  pub some_reading_of : (r : Reading) × IsReading line r
  some_reading_of = let front = laws.front line in by_rest front.0 front.1 front.2

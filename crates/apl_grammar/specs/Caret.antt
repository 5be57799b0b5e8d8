-- The caret of a grammar fault.
use Rattle.std.specs.Prelude.{◌≡◌, ◌⊎◌, ℕ, List, [], ◌∷◌, ◌++◌}
use Rattle.apl_tokens.specs.declared.token.Token.{Token}
use Rattle.apl_grammar.specs.Tree.{Expr, IsTree, spells}

-- The tokens of some statement end with these. (They are a viable suffix; the part of the statement's tree that they
-- spell is an ending tree.)
abbrev pub IsViableSuffix : List Token → Type 0
IsViableSuffix tokens = (e : Expr) × (front : List Token) × IsTree e × (spells e ≡ front ++ tokens)

-- no tree spells the tokens
abbrev pub HasNoTree : List Token → Type 0
HasNoTree tokens = (e : Expr) → IsTree e → spells e ≡ tokens → ⊥

-- The caret of tokens that no tree spells. It is at the rightmost token such that no statement's tokens end with the
-- tokens from there on. If there is none, it is at the first token.
abbrev pub IsCaret : List Token → ℕ → Type 0
IsCaret [] column = ⊥
IsCaret (first ∷ others) column =
    ((before after : List Token) × (t : Token) × (first ∷ others ≡ before ++ t ∷ after) × (column ≡ t.column)
    × IsViableSuffix after × (IsViableSuffix (t ∷ after) → ⊥))
    ⊎ (IsViableSuffix (first ∷ others) × (column ≡ first.column))

-- Tokens have one caret at most.
use Rattle.std.proofs.Common.{◌≡◌, ◌++◌, ◌∷◌, [], List, sym, ◌∙◌, ap, subst, append_assoc, inl, inr}
use Rattle.std.specs.Prelude.{ℕ}
use Rattle.apl_tokens.specs.declared.token.Token.{Token}
use Rattle.apl_grammar.specs.Caret.{IsViableSuffix, IsCaret}

-- what a viable suffix ends with is one
IsViableSuffix-end : (front ts : List Token) → IsViableSuffix (front ++ ts) → IsViableSuffix ts
IsViableSuffix-end front ts (e, before, is, spelled) = (e, before ++ front, is, spelled ∙ sym (append_assoc before front ts))

-- what is after a list's first element
tail_same : (t u : Token) (ts us : List Token) → t ∷ ts ≡ u ∷ us → ts ≡ us
tail_same t u ts us e = cc

-- the token at which the tokens cease to be a viable suffix
one_stop : (before after other_before other_after : List Token) (t u : Token) → before ++ t ∷ after ≡ other_before ++ u ∷ other_after
    → IsViableSuffix after → (IsViableSuffix (t ∷ after) → ⊥) → IsViableSuffix other_after → (IsViableSuffix (u ∷ other_after) → ⊥) → t ≡ u
one_stop [] after [] other_after t u e viable not other_viable other_not = cc
one_stop [] after (x ∷ xs) other_after t u e viable not other_viable other_not =
    absurd (other_not (IsViableSuffix-end xs (u ∷ other_after) (subst IsViableSuffix (tail_same t x after (xs ++ u ∷ other_after) e) viable)))
one_stop (x ∷ xs) after [] other_after t u e viable not other_viable other_not =
    absurd (not (IsViableSuffix-end xs (t ∷ after) (subst IsViableSuffix (sym (tail_same x u (xs ++ t ∷ after) other_after e)) other_viable)))
one_stop (x ∷ xs) after (y ∷ ys) other_after t u e viable not other_viable other_not =
    one_stop xs after ys other_after t u (tail_same x y (xs ++ t ∷ after) (ys ++ u ∷ other_after) e) viable not other_viable other_not

pub IsCaret-unique : (ts : List Token) (c d : ℕ) → IsCaret ts c → IsCaret ts d → c ≡ d
IsCaret-unique [] c d h k = absurd h
IsCaret-unique (t ∷ ts) c d (inl (before, after, u, e, is, viable, not)) (inl (before', after', u', e', is', viable', not')) =
    is ∙ ap (λ (x : Token). x.column) (one_stop before after before' after' u u' (sym e ∙ e') viable not viable' not') ∙ sym is'
IsCaret-unique (t ∷ ts) c d (inl (before, after, u, e, is, viable, not)) (inr (expression, is')) =
    absurd (not (IsViableSuffix-end before (u ∷ after) (subst IsViableSuffix e expression)))
IsCaret-unique (t ∷ ts) c d (inr (expression, is)) (inl (before, after, u, e, is', viable, not)) =
    absurd (not (IsViableSuffix-end before (u ∷ after) (subst IsViableSuffix e expression)))
IsCaret-unique (t ∷ ts) c d (inr (expression, is)) (inr (expression', is')) = is ∙ sym is'

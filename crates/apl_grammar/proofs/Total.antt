-- Tokens have a tree or a caret.
use Rattle.std.proofs.Common.{◌≡◌, ◌⊎◌, ◌++◌, ◌∷◌, [], List, Option, Some, None, Bool, true, false, refl, ap, subst, inl, inr}
use Rattle.std.specs.Prelude.{ℕ, option_and_then}
use Rattle.apl_tokens.specs.declared.token.Token.{Token}
use Rattle.apl_grammar.specs.Tree.{Expr, IsTree, spells}
use Rattle.apl_grammar.specs.Caret.{IsCaret, HasNoTree}
use Rattle.apl_grammar.proofs.Partial.{Frame, Level, operand_wanted, expression, leading_dot, leading_arrow, leading_brackets, leading_slots, Config, step, run}
use Rattle.apl_grammar.proofs.Viable.{run-tree, stuck-IsCaret, early-IsCaret}

abbrev pub Answer : List Token → Type 0
Answer ts = ((e : Expr) × IsTree e × (spells e ≡ ts)) ⊎ ((c : ℕ) × IsCaret ts c × HasNoTree ts)

-- the token that is not taken
record Stuck (ts : List Token) : Type 0 where
  before : List Token
  t : Token
  after : List Token
  config : Config
  split : before ++ t ∷ after ≡ ts
  ran : run after ≡ Some config
  fails : step t config ≡ None

stuck_in : (ts : List Token) → run ts ≡ None → Stuck ts
stuck_in [] e = absurd cc
stuck_in (t ∷ ts) e = by_run (λ h. stuck_in ts h) (run ts) refl e
  where
    by_run : (run ts ≡ None → Stuck ts) → (r : Option Config) → run ts ≡ r → option_and_then (step t) r ≡ None → Stuck (t ∷ ts)
    by_run again None er e =
        let s : Stuck ts = again er in
        record { before = t ∷ s.before; t = s.t; after = s.after; config = s.config; split = ap (λ (x : List Token). t ∷ x) s.split; ran = s.ran; fails = s.fails }
    by_run again (Some m) er e = record { before = []; t = t; after = ts; config = m; split = refl; ran = er; fails = e }

stuck_caret : (ts : List Token) (s : Stuck ts) → IsCaret ts s.t.column × HasNoTree ts
stuck_caret ts s = subst (λ (x : List Token). IsCaret x s.t.column × HasNoTree x) s.split (stuck-IsCaret s.before s.t s.after s.config s.ran s.fails)

-- whether this is an expression outside all brackets
abbrev is_end : List Frame → Level → Bool
is_end [] (expression x) = true
is_end [] (operand_wanted w) = false
is_end [] (leading_dot d c g x) = false
is_end [] (leading_arrow q x) = false
is_end [] (leading_brackets b a q x) = false
is_end [] (leading_slots b s d q x) = false
is_end (f ∷ fr) l = false

not_end : (fr : List Frame) (l : Level) (x : Expr) → is_end fr l ≡ false → ◌≡◌ {A = Config} (fr, l) ([], expression x) → ⊥
not_end fr l x not same = let yes : is_end fr l ≡ true = ap (λ (k : Config). is_end k.0 k.1) same in absurd cc

module _ (t : Token) (ts : List Token) where
  too_early : (fr : List Frame) (l : Level) → is_end fr l ≡ false → run (t ∷ ts) ≡ Some (fr, l) → Answer (t ∷ ts)
  too_early fr l not e =
      let caret = early-IsCaret t ts (fr, l) e (λ x same. not_end fr l x not same) in
      inr (t.column, caret.0, caret.1)

  by_end : (fr : List Frame) (l : Level) → run (t ∷ ts) ≡ Some (fr, l) → Answer (t ∷ ts)
  by_end [] (expression x) e = let tree = run-tree (t ∷ ts) x e in inl (x, tree.0, tree.1)
  by_end [] (operand_wanted w) e = too_early [] (operand_wanted w) refl e
  by_end [] (leading_dot d c g x) e = too_early [] (leading_dot d c g x) refl e
  by_end [] (leading_arrow q x) e = too_early [] (leading_arrow q x) refl e
  by_end [] (leading_brackets b a q x) e = too_early [] (leading_brackets b a q x) refl e
  by_end [] (leading_slots b s d q x) e = too_early [] (leading_slots b s d q x) refl e
  by_end (f ∷ fr) l e = too_early (f ∷ fr) l refl e

  by_run : (r : Option Config) → run (t ∷ ts) ≡ r → Answer (t ∷ ts)
  by_run None e =
      let s : Stuck (t ∷ ts) = stuck_in (t ∷ ts) e in
      let caret = stuck_caret (t ∷ ts) s in
      inr (s.t.column, caret.0, caret.1)
  by_run (Some k) e = by_end k.0 k.1 e

  pub tree-or-caret : Answer (t ∷ ts)
  tree-or-caret = by_run (run (t ∷ ts)) refl

-- What runs ends some tree; where the run stops, the caret is; no two trees spell one list.
use Rattle.std.proofs.Common.{◌≡◌, ◌++◌, ◌∷◌, [], List, Option, Some, None, refl, sym, ◌∙◌, ap, subst, append_assoc, inl, inr}
use Rattle.std.specs.Prelude.{ℕ, option_and_then}
use Rattle.apl_tokens.specs.declared.token.Token.{Token}
use Rattle.apl_tokens.specs.declared.token.TokenKind.TheVariants as kind
use Rattle.apl_grammar.specs.declared.forms.AxisFunction.TheVariants.{Catenate}
use Rattle.apl_grammar.specs.declared.forms.DyadicForm.TheVariants.{Along, Inner}
use Rattle.apl_grammar.specs.Tree.{Expr, dyadic, assign, assign_at, Operand, name, group, index, given, none, along, IsTree, token_at, spells}
use Rattle.apl_grammar.proofs.Partial.{fill, Level, operand_wanted, expression, leading_dot, leading_arrow, leading_brackets, leading_slots, Frame, open_group, open_index, open_axis_or_index, open_indexed_assignment, Config, join, step, run}
use Rattle.std.proofs.lemmas.List.{append-nil}
use Rattle.apl_array.specs.declared.function.ScalarFunction.TheVariants.{Plus}
use Rattle.apl_tokens.specs.declared.token.Glyph.TheVariants.{Scalar, Comma}
use Rattle.apl_grammar.specs.Caret.{IsViableSuffix, IsCaret, HasNoTree}
use Rattle.apl_grammar.proofs.Complete.{run_from-spells}
use Rattle.apl_grammar.proofs.Sound.{spelled_wanted, spelled_level, spelled_frames, spelled, IsLevel, AreFrames, fill-spells, fill_tree, join-spells, join_list, Spelled-of}

-- some tree's tokens end with these
record Ends (ts : List Token) : Type 0 where
  tree : Expr
  front : List Token
  fits : IsTree tree
  same : spells tree ≡ front ++ ts

some_name : List ℕ
some_name = 65 ∷ []

some_operand : Operand
some_operand = name 0 some_name

level_ends : (l : Level) → IsLevel l → Ends (spelled_level l)
unfolding some_operand
level_ends (operand_wanted w) h = record { tree = fill w some_operand; front = token_at 0 (kind.Name some_name) ∷ []; fits = fill_tree w some_operand tt h; same = fill-spells w some_operand }
level_ends (expression e) h = record { tree = e; front = []; fits = h; same = refl }
level_ends (leading_dot d c g e) h = record { tree = dyadic some_operand (Inner 0 Plus d c g) none e; front = token_at 0 (kind.Name some_name) ∷ token_at 0 (kind.Function (Scalar Plus)) ∷ []; fits = (tt, h.0, tt, h.1); same = refl }
level_ends (leading_arrow r e) h = record { tree = assign 0 some_name r e; front = token_at 0 (kind.Name some_name) ∷ []; fits = h; same = refl }
level_ends (leading_brackets l x r e) h = record { tree = dyadic some_operand (Along 0 Catenate) (along l x r) e; front = token_at 0 (kind.Name some_name) ∷ token_at 0 (kind.Function Comma) ∷ []; fits = (tt, refl, h.0, h.1); same = simp append_assoc }
level_ends (leading_slots l s d r e) h = record { tree = assign_at 0 some_name l s d r e; front = token_at 0 (kind.Name some_name) ∷ []; fits = h; same = refl }

-- an operand for what is wanted, with other tokens in front of it
record Closed (front ts : List Token) : Type 0 where
  tree : Expr
  fits : IsTree tree
  same : spells tree ≡ front ++ ts

-- the innermost bracket is closed round an expression
frame_closed : (f : Frame) (fr : List Frame) (e : Expr) → AreFrames (f ∷ fr) → IsTree e → (front : List Token) × (tree : Expr) × IsTree tree × AreFrames fr × (spells tree ++ spelled_frames fr ≡ front ++ (spells e ++ spelled_frames (f ∷ fr)))
unfolding some_operand
frame_closed (open_group r w) fr e hf he = (
  token_at 0 kind.OpenParen ∷ [],
  fill w (group 0 e r),
  fill_tree w (group 0 e r) he hf.0,
  hf.1,
  ap (λ x. x ++ spelled_frames fr) (fill-spells w (group 0 e r)) ∙ simp append_assoc,
)
frame_closed (open_index r t w) fr e hf he =
    let x : Operand = index some_operand 0 (join t (given e)) r in (
      token_at 0 (kind.Name some_name) ∷ token_at 0 kind.OpenBracket ∷ [],
      fill w x,
      fill_tree w x (tt, join_list t (given e) hf.0 he) hf.1,
      hf.2,
      ap (λ y. y ++ spelled_frames fr) (fill-spells w x) ∙ ap (λ y. (token_at 0 (kind.Name some_name) ∷ token_at 0 kind.OpenBracket ∷ (y ++ token_at r kind.CloseBracket ∷ []) ++ spelled_wanted w) ++ spelled_frames fr) (join-spells t (given e)) ∙ simp append_assoc,
    )
frame_closed (open_axis_or_index r e') fr e hf he =
    (token_at 0 (kind.Name some_name) ∷ token_at 0 (kind.Function Comma) ∷ token_at 0 kind.OpenBracket ∷ [], dyadic some_operand (Along 0 Catenate) (along 0 e r) e', (tt, refl, he, hf.0), hf.1, simp append_assoc)
frame_closed (open_indexed_assignment r t a e') fr e hf he = (
  token_at 0 (kind.Name some_name) ∷ token_at 0 kind.OpenBracket ∷ [],
  assign_at 0 some_name 0 (join t (given e)) r a e',
  (join_list t (given e) hf.0 he, hf.1),
  hf.2,
  ap (λ y. (token_at 0 (kind.Name some_name) ∷ token_at 0 kind.OpenBracket ∷ (y ++ token_at r kind.CloseBracket ∷ token_at a kind.Arrow ∷ spells e')) ++ spelled_frames fr) (join-spells t (given e)) ∙ simp append_assoc,
)

frames_end : (fr : List Frame) (e : Expr) → AreFrames fr → IsTree e → Ends (spells e ++ spelled_frames fr)
frames_end [] e hf he = record { tree = e; front = []; fits = he; same = sym (append-nil (spells e)) }
frames_end (f ∷ fr) e hf he =
    let k = frame_closed f fr e hf he in
    let rest = frames_end fr k.1 k.3 k.2 in
    record { tree = rest.tree; front = rest.front ++ k.0; fits = rest.fits; same = rest.same ∙ ap (λ x. rest.front ++ x) k.4 ∙ sym (append_assoc rest.front k.0 (spells e ++ spelled_frames (f ∷ fr))) }

-- what was read ends some tree
pub config_viable : (fr : List Frame) (l : Level) → AreFrames fr → IsLevel l → IsViableSuffix (spelled fr l)
config_viable fr l hf hl =
    let inner = level_ends l hl in
    let rest = frames_end fr inner.tree hf inner.fits in (
      rest.tree,
      rest.front ++ inner.front,
      rest.fits,
      rest.same ∙ ap (λ x. rest.front ++ (x ++ spelled_frames fr)) inner.same ∙ simp append_assoc,
    )

pub run-IsViableSuffix : (ts : List Token) (m : Config) → run ts ≡ Some m → IsViableSuffix ts
run-IsViableSuffix ts m e =
    let k = Spelled-of ts m e in
    subst IsViableSuffix k.same (config_viable m.0 m.1 k.frames k.level)

pub run-tree : (ts : List Token) (e : Expr) → run ts ≡ Some ([], expression e) → IsTree e × (spells e ≡ ts)
run-tree ts e h =
    let k = Spelled-of ts ([], expression e) h in
    (k.level, sym (append-nil (spells e)) ∙ k.same)

run-stuck : (front ts : List Token) → run ts ≡ None → run (front ++ ts) ≡ None
run-stuck [] ts e = e
run-stuck (t ∷ front) ts e = ap (option_and_then (step t)) (run-stuck front ts e)

pub not_viable : (ts : List Token) → run ts ≡ None → IsViableSuffix ts → ⊥
not_viable ts e (tree, front, fits, same) =
    let runs : run (front ++ ts) ≡ Some ([], expression tree) = ap run (sym same) ∙ run_from-spells tree fits [] in
    let stuck : run (front ++ ts) ≡ None = run-stuck front ts e in
    absurd cc

-- no two trees spell one list
pub spells-injective : (e f : Expr) → IsTree e → IsTree f → spells e ≡ spells f → e ≡ f
spells-injective e f he hf same =
    let runs : ◌≡◌ {A = Option Config} (Some ([], expression e)) (Some ([], expression f)) = sym (run_from-spells e he []) ∙ ap run same ∙ run_from-spells f hf [] in
    let pair : ◌≡◌ {A = Config} ([], expression e) ([], expression f) = cc in
    let level : expression e ≡ expression f = ap (λ (m : Config). m.1) pair in
    cc

caret_at : (ts before after : List Token) (t : Token) → ts ≡ before ++ t ∷ after → IsViableSuffix after → (IsViableSuffix (t ∷ after) → ⊥) → IsCaret ts t.column
caret_at [] before after t e viable not = absurd (no_token before e)
  where
    no_token : (before : List Token) → [] ≡ before ++ t ∷ after → ⊥
    no_token [] e = absurd cc
    no_token (b ∷ bs) e = absurd cc
caret_at (first ∷ others) before after t e viable not = inl (before, after, t, e, refl, viable, not)

-- the caret where a token is not taken
pub stuck-IsCaret : (before : List Token) (t : Token) (after : List Token) (m : Config) → run after ≡ Some m → step t m ≡ None → IsCaret (before ++ t ∷ after) t.column × HasNoTree (before ++ t ∷ after)
stuck-IsCaret before t after m ran fails =
    let none_runs : run (t ∷ after) ≡ None = ap (option_and_then (step t)) ran ∙ fails in (
      caret_at (before ++ t ∷ after) before after t refl (run-IsViableSuffix after m ran) (not_viable (t ∷ after) none_runs),
      λ e he same. not_viable (t ∷ after) none_runs (e, before, he, same),
    )

-- the caret where the tokens end too early
pub early-IsCaret : (t : Token) (ts : List Token) (m : Config) → run (t ∷ ts) ≡ Some m → ((e : Expr) → m ≡ ([], expression e) → ⊥) → IsCaret (t ∷ ts) t.column × HasNoTree (t ∷ ts)
early-IsCaret t ts m ran not = (
  inr (run-IsViableSuffix (t ∷ ts) m ran, refl),
  λ e he same. not e (some_same m ([], expression e) (sym ran ∙ ap run (sym same) ∙ run_from-spells e he [])),
)
  where
    some_same : (m n : Config) → ◌≡◌ {A = Option Config} (Some m) (Some n) → m ≡ n
    some_same m n h = cc

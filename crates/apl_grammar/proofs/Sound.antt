-- What was read is spelled by partial trees, and some tree ends with it.
use Rattle.std.proofs.Common.{◌≡◌, ◌++◌, ◌∷◌, [], List, Option, Some, None, refl, sym, ◌∙◌, ap, subst, append_assoc, rules}
use Rattle.std.specs.Prelude.{ℕ, Bool, true, false, IsTrue, option_map, option_and_then, if◌then◌else◌}
use Rattle.apl_array.specs.declared.function.ScalarFunction.{ScalarFunction}
use Rattle.apl_array.specs.Valences.{has_monadic, has_dyadic}
use Rattle.apl_tokens.specs.declared.token.Token.{Token}
use Rattle.apl_tokens.specs.declared.token.TokenKind.{TokenKind}
use Rattle.apl_tokens.specs.declared.token.TokenKind.TheVariants as kind
use Rattle.apl_tokens.specs.declared.token.Glyph.{Glyph}
use Rattle.apl_tokens.specs.declared.token.Glyph.TheVariants as glyph
use Rattle.apl_grammar.specs.declared.forms.AxisFunction.{AxisFunction}
use Rattle.apl_grammar.specs.declared.forms.AxisFunction.TheVariants.{Catenate, Rotate, Replicate, Expand}
use Rattle.apl_grammar.specs.declared.forms.DyadicFunction.TheVariants.{Scalar}
use Rattle.apl_grammar.specs.declared.forms.MonadicFunction.TheVariants as of_one
use Rattle.apl_grammar.specs.declared.forms.DyadicFunction.TheVariants as of_two
use Rattle.apl_grammar.specs.declared.forms.MonadicForm.{MonadicForm}
use Rattle.apl_grammar.specs.declared.forms.MonadicForm.TheVariants as one
use Rattle.apl_grammar.specs.declared.forms.DyadicForm.{DyadicForm}
use Rattle.apl_grammar.specs.declared.forms.DyadicForm.TheVariants.{Plain, Along, Inner, Outer}
use Rattle.apl_grammar.specs.Functions.{monadic_glyph, reversal_glyph, dyadic_scalar, monadic_form, dyadic_form, dyadic_counterpart, operator_of, reduced_by, reduced, may_be_monadic, may_be_dyadic}
use Rattle.apl_grammar.specs.Tree.{Expr, value, dyadic, monadic, assign, assign_at, Operand, constant, name, group, index, Slots, last, Slot, nothing, given, Axis, none, along, has_axis, IsTree, IsOperand, IsList, IsSlot, IsAxis, token_at, spells, spells_operand, spells_list, spells_slot, spells_axis, spells_monadic, spells_dyadic}
use Rattle.apl_grammar.proofs.Partial.{Wanted, alone, applied, indexed, fill, Level, operand_wanted, expression, leading_dot, leading_arrow, leading_brackets, leading_slots, Tail, no_slots, slots, Frame, open_group, open_index, open_axis_or_index, open_indexed_assignment, Config, join, applied_to, as_dyadic, with_index, as_wanted, level_by, level_for, within, inner_level, monadic_level, at_operand, at_name, at_close, at_slice, at_close_bracket, at_function, dotted, at_dot, at_jot, at_arrow, at_open, slot_of, sliced_by, at_semicolon, wanted_by, at_open_bracket, step_kind, step, run}
use Rattle.std.specs.Prelude.{IfSome}
use Rattle.std.proofs.lemmas.List.{append-nil}

abbrev pub spelled_wanted : Wanted → List Token
spelled_wanted alone = []
spelled_wanted (applied f a e) = spells_dyadic f ++ (spells_axis a ++ spells e)
spelled_wanted (indexed w l s r) = token_at l kind.OpenBracket ∷ (spells_list s ++ token_at r kind.CloseBracket ∷ spelled_wanted w)

abbrev pub spelled_level : Level → List Token
spelled_level (operand_wanted w) = spelled_wanted w
spelled_level (expression e) = spells e
spelled_level (leading_dot d c f e) = token_at d kind.Dot ∷ token_at c (kind.Function (glyph.Scalar f)) ∷ spells e
spelled_level (leading_arrow r e) = token_at r kind.Arrow ∷ spells e
spelled_level (leading_brackets l x r e) = token_at l kind.OpenBracket ∷ (spells x ++ token_at r kind.CloseBracket ∷ spells e)
spelled_level (leading_slots l s d r e) = token_at l kind.OpenBracket ∷ (spells_list s ++ token_at d kind.CloseBracket ∷ token_at r kind.Arrow ∷ spells e)

abbrev pub spelled_tail : Tail → List Token
spelled_tail no_slots = []
spelled_tail (slots k ss) = token_at k kind.Semicolon ∷ spells_list ss

abbrev pub spelled_frames : List Frame → List Token
spelled_frames [] = []
spelled_frames (open_group r w ∷ fr) = token_at r kind.CloseParen ∷ (spelled_wanted w ++ spelled_frames fr)
spelled_frames (open_index r t w ∷ fr) = spelled_tail t ++ token_at r kind.CloseBracket ∷ (spelled_wanted w ++ spelled_frames fr)
spelled_frames (open_axis_or_index r e ∷ fr) = token_at r kind.CloseBracket ∷ (spells e ++ spelled_frames fr)
spelled_frames (open_indexed_assignment r t a e ∷ fr) = spelled_tail t ++ token_at r kind.CloseBracket ∷ token_at a kind.Arrow ∷ (spells e ++ spelled_frames fr)

abbrev pub spelled : List Frame → Level → List Token
spelled fr l = spelled_level l ++ spelled_frames fr

abbrev pub IsWanted : Wanted → Type 0
IsWanted alone = Unit {0}
IsWanted (applied f a e) = IsTrue (may_be_dyadic f (has_axis a)) × IsAxis a × IsTree e
IsWanted (indexed w l s r) = IsWanted w × IsList s

abbrev pub IsLevel : Level → Type 0
IsLevel (operand_wanted w) = IsWanted w
IsLevel (expression e) = IsTree e
IsLevel (leading_dot d c f e) = IsTrue (has_dyadic f) × IsTree e
IsLevel (leading_arrow r e) = IsTree e
IsLevel (leading_brackets l x r e) = IsTree x × IsTree e
IsLevel (leading_slots l s d r e) = IsList s × IsTree e

abbrev pub IsTail : Tail → Type 0
IsTail no_slots = Unit {0}
IsTail (slots k ss) = IsList ss

abbrev pub AreFrames : List Frame → Type 0
AreFrames [] = Unit {0}
AreFrames (open_group r w ∷ fr) = IsWanted w × AreFrames fr
AreFrames (open_index r t w ∷ fr) = IsTail t × IsWanted w × AreFrames fr
AreFrames (open_axis_or_index r e ∷ fr) = IsTree e × AreFrames fr
AreFrames (open_indexed_assignment r t a e ∷ fr) = IsTail t × IsTree e × AreFrames fr

-- after one more token: partial trees of the grammar, which spell it in front of the rest
pub record Reads (t : Token) (ts : List Token) (m : Config) : Type 0 where
  pub frames : AreFrames m.0
  pub level : IsLevel m.1
  pub spelled_so : spelled m.0 m.1 ≡ t ∷ ts

pub fill-spells : (w : Wanted) (o : Operand) → spells (fill w o) ≡ spells_operand o ++ spelled_wanted w
fill-spells alone o = sym (append-nil (spells_operand o))
fill-spells (applied f a e) o = refl
fill-spells (indexed w l s r) o = fill-spells w (index o l s r) ∙ simp append_assoc

pub fill_tree : (w : Wanted) (o : Operand) → IsOperand o → IsWanted w → IsTree (fill w o)
fill_tree alone o ho hw = ho
fill_tree (applied f a e) o ho hw = (ho, hw.0, hw.1, hw.2)
fill_tree (indexed w l s r) o ho hw = fill_tree w (index o l s r) (ho, hw.1) hw.0

-- what is wanted of a level
record WantedOf (l : Level) (w : Wanted) : Type 0 where
  fits : IsWanted w
  same : spelled_wanted w ≡ spelled_level l

-- a function of one argument of one symbol
abbrev IsMonadicAt : ℕ → Glyph → Bool → MonadicForm → Type 0
IsMonadicAt c g b f = IsTrue (may_be_monadic f b) × (spells_monadic f ≡ token_at c (kind.Function g) ∷ [])

-- a function of two arguments of one symbol
abbrev IsDyadicAt : ℕ → Glyph → Bool → DyadicForm → Type 0
IsDyadicAt c g b f = IsTrue (may_be_dyadic f b) × (spells_dyadic f ≡ token_at c (kind.Function g) ∷ [])

monadic_scalar_at : (c : ℕ) (f : ScalarFunction) (b : Bool) → has_monadic f ≡ b → IfSome (option_map (one.Plain c) (if b then Some (of_one.Scalar f) else None)) (IsMonadicAt c (glyph.Scalar f) false)
monadic_scalar_at c f true is = (is, refl)
monadic_scalar_at c f false is = tt

monadic_at : (c : ℕ) (g : Glyph) (b : Bool) → IfSome (monadic_form c g b) (IsMonadicAt c g b)
monadic_at c (glyph.Scalar f) false = monadic_scalar_at c f (has_monadic f) refl
monadic_at c g false = search rules
monadic_at c g true = search rules

dyadic_scalar_at : (c : ℕ) (f : ScalarFunction) (b : Bool) → has_dyadic f ≡ b → IfSome (option_map (Plain c) (if b then Some (of_two.Scalar f) else None)) (IsDyadicAt c (glyph.Scalar f) false)
dyadic_scalar_at c f true is = (is, refl)
dyadic_scalar_at c f false is = tt

dyadic_at : (c : ℕ) (g : Glyph) (b : Bool) → IfSome (dyadic_form c g b) (IsDyadicAt c g b)
dyadic_at c (glyph.Scalar f) false = dyadic_scalar_at c f (has_dyadic f) refl
dyadic_at c g false = search rules
dyadic_at c g true = search rules

-- the same tokens are a function of two arguments
abbrev IsCounterpart : MonadicForm → Bool → DyadicForm → Type 0
IsCounterpart f b g = IsTrue (may_be_dyadic g b) × (spells_dyadic g ≡ spells_monadic f)

counterpart_fits : (f : MonadicForm) (b : Bool) → IfSome (dyadic_counterpart f b) (IsCounterpart f b)
counterpart_fits (one.Plain c f) b = dyadic_at c (monadic_glyph f) b
counterpart_fits (one.Reverse c axis) b = dyadic_at c (reversal_glyph axis) b
counterpart_fits (one.Reduce c f s operator) b = tt

dyadic_of : (e : Expr) (w : Wanted) → IsTree e → as_dyadic e ≡ Some w → IsWanted w × (spelled_wanted w ≡ spells e)
dyadic_of (value o) w t h = absurd cc
dyadic_of (dyadic o f a e) w t h = absurd cc
dyadic_of (monadic f a e) w t h = by_counterpart (dyadic_counterpart f (has_axis a)) (counterpart_fits f (has_axis a)) h
  where
    by_counterpart : (g : Option DyadicForm) → IfSome g (IsCounterpart f (has_axis a)) → option_map (applied_to a e) g ≡ Some w → IsWanted w × (spelled_wanted w ≡ spells (monadic f a e))
    by_counterpart None k h = absurd cc
    by_counterpart (Some g) k h =
        let same : applied g a e ≡ w = cc in
        (subst IsWanted same (k.0, t.1, t.2), ap spelled_wanted (sym same) ∙ ap (λ x. x ++ (spells_axis a ++ spells e)) k.1)
dyadic_of (assign c n r e) w t h = absurd cc
dyadic_of (assign_at c n o s d r e) w t h = absurd cc

indexed_some : (l : ℕ) (s : Slots) (r : ℕ) (o : Option Wanted) (w : Wanted) → with_index l s r o ≡ Some w → (v : Wanted) × (o ≡ Some v) × (indexed v l s r ≡ w)
indexed_some l s r None w h = absurd cc
indexed_some l s r (Some v) w h = (v, refl, cc)

wanted_of : (l : Level) (w : Wanted) → IsLevel l → as_wanted l ≡ Some w → WantedOf l w
wanted_of (operand_wanted v) w t h =
    let e : v ≡ w = cc in
    record { fits = subst IsWanted e t; same = ap spelled_wanted (sym e) }
wanted_of (expression e) w t h =
    let d : IsWanted w × (spelled_wanted w ≡ spells e) = dyadic_of e w t h in
    record { fits = d.0; same = d.1 }
wanted_of (leading_dot d c g e) w t h = absurd cc
wanted_of (leading_arrow r e) w t h = absurd cc
wanted_of (leading_brackets l x r e) w t h =
    let i : (v : Wanted) × (as_dyadic e ≡ Some v) × (indexed v l (last (given x)) r ≡ w) = indexed_some l (last (given x)) r (as_dyadic e) w h in
    let d : IsWanted i.0 × (spelled_wanted i.0 ≡ spells e) = dyadic_of e i.0 t.1 i.1 in
    record {
      fits = subst IsWanted i.2 (d.0, t.0);
      same = ap spelled_wanted (sym i.2) ∙ ap (λ x'. token_at l kind.OpenBracket ∷ (spells x ++ token_at r kind.CloseBracket ∷ x')) d.1;
    }
wanted_of (leading_slots l s d r e) w t h = absurd cc

operand_sound : (c : ℕ) (k : TokenKind) (o : Operand) → IsOperand o → spells_operand o ≡ token_at c k ∷ [] → (fr : List Frame) (l : Level) → AreFrames fr → IsLevel l → IfSome (at_operand fr o (as_wanted l)) (Reads (token_at c k) (spelled fr l))
operand_sound c k o ho eo fr l hf hl = by_wanted (as_wanted l) refl
  where
    by_wanted : (w : Option Wanted) → as_wanted l ≡ w → IfSome (at_operand fr o w) (Reads (token_at c k) (spelled fr l))
    by_wanted None h = tt
    by_wanted (Some w) h =
        let f : WantedOf l w = wanted_of l w hl h in
        record {
          frames = hf;
          level = fill_tree w o ho f.fits;
          spelled_so = ap (λ x. x ++ spelled_frames fr) (fill-spells w o ∙ ap (λ x. x ++ spelled_wanted w) eo ∙ ap (λ x. token_at c k ∷ x) f.same);
        }

name_sound : (c : ℕ) (n : List ℕ) (fr : List Frame) (l : Level) → AreFrames fr → IsLevel l → IfSome (at_name fr c n l) (Reads (token_at c (kind.Name n)) (spelled fr l))
name_sound c n fr (leading_arrow r e) hf hl = record { frames = hf; level = hl; spelled_so = refl }
name_sound c n fr (leading_slots l s d r e) hf hl = record { frames = hf; level = hl; spelled_so = refl }
name_sound c n fr (operand_wanted w) hf hl = operand_sound c (kind.Name n) (name c n) tt refl fr (operand_wanted w) hf hl
name_sound c n fr (expression e) hf hl = operand_sound c (kind.Name n) (name c n) tt refl fr (expression e) hf hl
name_sound c n fr (leading_dot d k g e) hf hl = tt
name_sound c n fr (leading_brackets l x r e) hf hl = operand_sound c (kind.Name n) (name c n) tt refl fr (leading_brackets l x r e) hf hl

close_sound : (c : ℕ) (fr : List Frame) (l : Level) → AreFrames fr → IsLevel l → IfSome (at_close fr c (as_wanted l)) (Reads (token_at c kind.CloseParen) (spelled fr l))
close_sound c fr l hf hl = by_wanted (as_wanted l) refl
  where
    by_wanted : (w : Option Wanted) → as_wanted l ≡ w → IfSome (at_close fr c w) (Reads (token_at c kind.CloseParen) (spelled fr l))
    by_wanted None h = tt
    by_wanted (Some w) h =
        let f : WantedOf l w = wanted_of l w hl h in
        record { frames = (f.fits, hf); level = tt; spelled_so = ap (λ x. token_at c kind.CloseParen ∷ (x ++ spelled_frames fr)) f.same }

slice_sound : (c : ℕ) (fr : List Frame) (l : Level) → AreFrames fr → IsLevel l → IfSome (at_slice fr c (as_wanted l)) (Reads (token_at c kind.CloseBracket) (spelled fr l))
slice_sound c fr l hf hl = by_wanted (as_wanted l) refl
  where
    by_wanted : (w : Option Wanted) → as_wanted l ≡ w → IfSome (at_slice fr c w) (Reads (token_at c kind.CloseBracket) (spelled fr l))
    by_wanted None h = tt
    by_wanted (Some w) h =
        let f : WantedOf l w = wanted_of l w hl h in
        record { frames = (tt, f.fits, hf); level = tt; spelled_so = ap (λ x. token_at c kind.CloseBracket ∷ (x ++ spelled_frames fr)) f.same }

close_bracket_sound : (c : ℕ) (fr : List Frame) (l : Level) → AreFrames fr → IsLevel l → IfSome (at_close_bracket fr c l) (Reads (token_at c kind.CloseBracket) (spelled fr l))
close_bracket_sound c fr (expression e) hf hl = record { frames = (hl, hf); level = tt; spelled_so = refl }
close_bracket_sound c fr (leading_arrow r e) hf hl = record { frames = (tt, hl, hf); level = tt; spelled_so = refl }
close_bracket_sound c fr (operand_wanted w) hf hl = slice_sound c fr (operand_wanted w) hf hl
close_bracket_sound c fr (leading_dot d k g e) hf hl = tt
close_bracket_sound c fr (leading_brackets l x r e) hf hl = slice_sound c fr (leading_brackets l x r e) hf hl
close_bracket_sound c fr (leading_slots l s d r e) hf hl = tt

-- a function and its axis, before an expression
level_sound : (c : ℕ) (g : Glyph) (a : Axis) (e : Expr) (fr : List Frame) (ts : List Token) → AreFrames fr → IsAxis a → IsTree e → (spells_axis a ++ spells e) ++ spelled_frames fr ≡ ts → IfSome (option_map (within fr) (level_for c g a e)) (Reads (token_at c (kind.Function g)) ts)
level_sound c g a e fr ts hf ha he same = by_valence (monadic_form c g (has_axis a)) (dyadic_form c g (has_axis a)) (monadic_at c g (has_axis a)) (dyadic_at c g (has_axis a))
  where
    put : (front : List Token) → front ≡ token_at c (kind.Function g) ∷ [] → (front ++ (spells_axis a ++ spells e)) ++ spelled_frames fr ≡ token_at c (kind.Function g) ∷ ts
    put front is = ap (λ x. (x ++ (spells_axis a ++ spells e)) ++ spelled_frames fr) is ∙ ap (λ x. token_at c (kind.Function g) ∷ x) same

    by_valence : (m : Option MonadicForm) (d : Option DyadicForm) → IfSome m (IsMonadicAt c g (has_axis a)) → IfSome d (IsDyadicAt c g (has_axis a)) → IfSome (option_map (within fr) (level_by m d a e)) (Reads (token_at c (kind.Function g)) ts)
    by_valence (Some f) d h k = record { frames = hf; level = (h.0, ha, he); spelled_so = put (spells_monadic f) h.1 }
    by_valence None (Some f) h k = record { frames = hf; level = (k.0, ha, he); spelled_so = put (spells_dyadic f) k.1 }
    by_valence None None h k = tt

-- a scalar function of two arguments and its symbol
abbrev IsScalarAt : Glyph → ScalarFunction → Type 0
IsScalarAt g f = IsTrue (has_dyadic f) × (g ≡ glyph.Scalar f)

scalar_at_if : (f : ScalarFunction) (b : Bool) → has_dyadic f ≡ b → IfSome (if b then Some f else None) (IsScalarAt (glyph.Scalar f))
scalar_at_if f true is = (is, refl)
scalar_at_if f false is = tt

scalar_at : (g : Glyph) → IfSome (dyadic_scalar g) (IsScalarAt g)
scalar_at (glyph.Scalar f) = scalar_at_if f (has_dyadic f) refl
scalar_at _ = tt

inner_sound : (c : ℕ) (g : Glyph) (fr : List Frame) (d k : ℕ) (h : ScalarFunction) (e : Expr) → AreFrames fr → IsTrue (has_dyadic h) → IsTree e → IfSome (option_map (λ f. within fr (inner_level c d k h e f)) (dyadic_scalar g)) (Reads (token_at c (kind.Function g)) (spelled fr (leading_dot d k h e)))
inner_sound c g fr d k h e hf hh he = by_scalar (dyadic_scalar g) (scalar_at g)
  where
    by_scalar : (f : Option ScalarFunction) → IfSome f (IsScalarAt g) → IfSome (option_map (λ f. within fr (inner_level c d k h e f)) f) (Reads (token_at c (kind.Function g)) (spelled fr (leading_dot d k h e)))
    by_scalar None i = tt
    by_scalar (Some f) i = record { frames = hf; level = (rw (i.0, hh) refl, tt, he); spelled_so = ap (λ x. token_at c (kind.Function x) ∷ spelled fr (leading_dot d k h e)) (sym i.1) }

-- a function and the slash on its right
reduced_sound : (c : ℕ) (g : Glyph) (fr : List Frame) (f : DyadicForm) (a : Axis) (e : Expr) → AreFrames fr → IsAxis a → IsTree e → IfSome (option_map (λ m. within fr (monadic_level a e m)) (reduced c g f)) (Reads (token_at c (kind.Function g)) (spelled fr (operand_wanted (applied f a e))))
reduced_sound c g fr (Along s h) a e hf ha he = by_slash (dyadic_scalar g) (scalar_at g) h
  where
    by_slash : (f : Option ScalarFunction) → IfSome f (IsScalarAt g) → (h : AxisFunction) → IfSome (option_map (λ m. within fr (monadic_level a e m)) (reduced_by c f s (operator_of h))) (Reads (token_at c (kind.Function g)) (spelled fr (operand_wanted (applied (Along s h) a e))))
    by_slash None i h = tt
    by_slash (Some f) i Catenate = tt
    by_slash (Some f) i (Rotate axis) = tt
    by_slash (Some f) i (Replicate axis) = record { frames = hf; level = (i.0, ha, he); spelled_so = ap (λ x. token_at c (kind.Function x) ∷ spelled fr (operand_wanted (applied (Along s (Replicate axis)) a e))) (sym i.1) }
    by_slash (Some f) i (Expand axis) = record { frames = hf; level = (i.0, ha, he); spelled_so = ap (λ x. token_at c (kind.Function x) ∷ spelled fr (operand_wanted (applied (Along s (Expand axis)) a e))) (sym i.1) }
reduced_sound c g fr (Plain s f) a e hf ha he = tt
reduced_sound c g fr (Inner k f s d h) a e hf ha he = tt
reduced_sound c g fr (Outer k f s h) a e hf ha he = tt

function_sound : (c : ℕ) (g : Glyph) (fr : List Frame) (l : Level) → AreFrames fr → IsLevel l → IfSome (at_function fr c g l) (Reads (token_at c (kind.Function g)) (spelled fr l))
function_sound c g fr (expression e) hf hl = level_sound c g none e fr (spelled fr (expression e)) hf tt hl refl
function_sound c g fr (leading_brackets l x r e) hf hl = level_sound c g (along l x r) e fr (spelled fr (leading_brackets l x r e)) hf hl.0 hl.1 (simp append_assoc)
function_sound c g fr (leading_dot d k h e) hf hl = inner_sound c g fr d k h e hf hl.0 hl.1
function_sound c g fr (operand_wanted (applied f a e)) hf hl = reduced_sound c g fr f a e hf hl.1 hl.2
function_sound c g fr (operand_wanted alone) hf hl = tt
function_sound c g fr (operand_wanted (indexed w l s r)) hf hl = tt
function_sound c g fr (leading_arrow r e) hf hl = tt
function_sound c g fr (leading_slots l s d r e) hf hl = tt

dotted_sound : (d : ℕ) (fr : List Frame) (f : DyadicForm) (a : Axis) (e : Expr) → AreFrames fr → IsWanted (applied f a e) → IfSome (dotted fr d a e f) (Reads (token_at d kind.Dot) (spelled fr (operand_wanted (applied f a e))))
dotted_sound d fr (Plain c (of_two.Scalar f)) none e hf hw = record { frames = hf; level = (hw.0, hw.2); spelled_so = refl }
dotted_sound d fr _ none e hf hw = tt
dotted_sound d fr f (along l x r) e hf hw = tt

dot_sound : (d : ℕ) (fr : List Frame) (l : Level) → AreFrames fr → IsLevel l → IfSome (at_dot fr d l) (Reads (token_at d kind.Dot) (spelled fr l))
dot_sound d fr (expression (monadic f a e)) hf hl = by_counterpart (dyadic_counterpart f (has_axis a)) (counterpart_fits f (has_axis a))
  where
    by_counterpart : (g : Option DyadicForm) → IfSome g (IsCounterpart f (has_axis a)) → IfSome (option_and_then (dotted fr d a e) g) (Reads (token_at d kind.Dot) (spelled fr (expression (monadic f a e))))
    by_counterpart None k = tt
    by_counterpart (Some g) k =
        subst (λ (x : List Token). IfSome (dotted fr d a e g) (Reads (token_at d kind.Dot) x)) (ap (λ x. (x ++ (spells_axis a ++ spells e)) ++ spelled_frames fr) k.1)
        (dotted_sound d fr g a e hf (k.0, hl.1, hl.2))
dot_sound d fr (operand_wanted (applied f a e)) hf hl = dotted_sound d fr f a e hf hl
dot_sound d fr (operand_wanted alone) hf hl = tt
dot_sound d fr (operand_wanted (indexed w l s r)) hf hl = tt
dot_sound d fr (expression (value o)) hf hl = tt
dot_sound d fr (expression (dyadic o f a e)) hf hl = tt
dot_sound d fr (expression (assign c n r e)) hf hl = tt
dot_sound d fr (expression (assign_at c n l s k r e)) hf hl = tt
dot_sound d fr (leading_dot k c g e) hf hl = tt
dot_sound d fr (leading_arrow r e) hf hl = tt
dot_sound d fr (leading_brackets l x r e) hf hl = tt
dot_sound d fr (leading_slots l s k r e) hf hl = tt

jot_sound : (j : ℕ) (fr : List Frame) (l : Level) → AreFrames fr → IsLevel l → IfSome (at_jot fr j l) (Reads (token_at j kind.Jot) (spelled fr l))
jot_sound j fr (leading_dot d c g e) hf hl = record { frames = hf; level = (hl.0, tt, hl.1); spelled_so = refl }
jot_sound j fr _ hf hl = tt

arrow_sound : (r : ℕ) (fr : List Frame) (l : Level) → AreFrames fr → IsLevel l → IfSome (at_arrow fr r l) (Reads (token_at r kind.Arrow) (spelled fr l))
arrow_sound r fr (expression e) hf hl = record { frames = hf; level = hl; spelled_so = refl }
arrow_sound r fr _ hf hl = tt

open_sound : (b : ℕ) (fr : List Frame) (l : Level) → AreFrames fr → IsLevel l → IfSome (at_open b fr l) (Reads (token_at b kind.OpenParen) (spelled fr l))
open_sound b (open_group r w ∷ fr) (expression e) hf hl = record {
  frames = hf.1;
  level = fill_tree w (group b e r) hl hf.0;
  spelled_so = ap (λ x. x ++ spelled_frames fr) (fill-spells w (group b e r)) ∙ simp append_assoc;
}
open_sound b _ _ hf hl = tt

slot_sound : (l : Level) (s : Slot) → IsLevel l → slot_of l ≡ Some s → IsSlot s × (spells_slot s ≡ spelled_level l)
slot_sound (expression e) (given x) hl h =
    let same : e ≡ x = cc in
    (subst IsTree same hl, ap spells (sym same))
slot_sound (operand_wanted alone) nothing hl h = (tt, refl)
slot_sound _ _ hl h = absurd cc

pub join-spells : (t : Tail) (s : Slot) → spells_list (join t s) ≡ spells_slot s ++ spelled_tail t
join-spells no_slots s = sym (append-nil (spells_slot s))
join-spells (slots k ss) s = refl

pub join_list : (t : Tail) (s : Slot) → IsTail t → IsSlot s → IsList (join t s)
join_list no_slots s ht hs = hs
join_list (slots k ss) s ht hs = (hs, ht)

semicolon_sound : (k : ℕ) (fr : List Frame) (l : Level) (s : Slot) → AreFrames fr → IsSlot s → spells_slot s ≡ spelled_level l → IfSome (at_semicolon k fr (Some s)) (Reads (token_at k kind.Semicolon) (spelled fr l))
semicolon_sound k [] l s hf hs es = tt
semicolon_sound k (open_group r w ∷ fr) l s hf hs es = tt
semicolon_sound k (open_index c t w ∷ fr) l s hf hs es =
    record { frames = (join_list t s hf.0 hs, hf.1, hf.2); level = tt; spelled_so = ap (λ x. token_at k kind.Semicolon ∷ (x ++ token_at c kind.CloseBracket ∷ (spelled_wanted w ++ spelled_frames fr))) (join-spells t s) ∙ ap (λ x. token_at k kind.Semicolon ∷ ((x ++ spelled_tail t) ++ token_at c kind.CloseBracket ∷ (spelled_wanted w ++ spelled_frames fr))) es ∙ simp append_assoc }
semicolon_sound k (open_axis_or_index c e ∷ fr) l s hf hs es = by_wanted (as_dyadic e) refl
  where
    by_wanted : (w : Option Wanted) → as_dyadic e ≡ w → IfSome (sliced_by fr k c s w) (Reads (token_at k kind.Semicolon) (spelled (open_axis_or_index c e ∷ fr) l))
    by_wanted None h = tt
    by_wanted (Some w) h =
        let d : IsWanted w × (spelled_wanted w ≡ spells e) = dyadic_of e w hf.0 h in
        record { frames = (hs, d.0, hf.1); level = tt; spelled_so = ap (λ x. token_at k kind.Semicolon ∷ (x ++ token_at c kind.CloseBracket ∷ (spelled_wanted w ++ spelled_frames fr))) es ∙ ap (λ x. token_at k kind.Semicolon ∷ (spelled_level l ++ token_at c kind.CloseBracket ∷ (x ++ spelled_frames fr))) d.1 }
semicolon_sound k (open_indexed_assignment c t r e ∷ fr) l s hf hs es =
    record { frames = (join_list t s hf.0 hs, hf.1, hf.2); level = tt; spelled_so = ap (λ x. token_at k kind.Semicolon ∷ (x ++ token_at c kind.CloseBracket ∷ token_at r kind.Arrow ∷ (spells e ++ spelled_frames fr))) (join-spells t s) ∙ ap (λ x. token_at k kind.Semicolon ∷ ((x ++ spelled_tail t) ++ token_at c kind.CloseBracket ∷ token_at r kind.Arrow ∷ (spells e ++ spelled_frames fr))) es ∙ simp append_assoc }

open_bracket_sound : (b : ℕ) (fr : List Frame) (l : Level) (s : Slot) → AreFrames fr → IsSlot s → spells_slot s ≡ spelled_level l → IfSome (at_open_bracket b fr (Some s)) (Reads (token_at b kind.OpenBracket) (spelled fr l))
open_bracket_sound b [] l s hf hs es = tt
open_bracket_sound b (open_group r w ∷ fr) l s hf hs es = tt
open_bracket_sound b (open_index c t w ∷ fr) l s hf hs es =
    record { frames = hf.2; level = (hf.1, join_list t s hf.0 hs); spelled_so = ap (λ x. token_at b kind.OpenBracket ∷ ((x ++ token_at c kind.CloseBracket ∷ spelled_wanted w) ++ spelled_frames fr)) (join-spells t s) ∙ ap (λ x. token_at b kind.OpenBracket ∷ (((x ++ spelled_tail t) ++ token_at c kind.CloseBracket ∷ spelled_wanted w) ++ spelled_frames fr)) es ∙ simp append_assoc }
open_bracket_sound b (open_axis_or_index c e ∷ fr) l (given x) hf hs es =
    record { frames = hf.1; level = (hs, hf.0); spelled_so = ap (λ y. token_at b kind.OpenBracket ∷ ((y ++ token_at c kind.CloseBracket ∷ spells e) ++ spelled_frames fr)) es ∙ simp append_assoc }
open_bracket_sound b (open_axis_or_index c e ∷ fr) l nothing hf hs es = by_wanted (as_dyadic e) refl
  where
    by_wanted : (w : Option Wanted) → as_dyadic e ≡ w → IfSome (wanted_by fr (with_index b (last nothing) c w)) (Reads (token_at b kind.OpenBracket) (spelled (open_axis_or_index c e ∷ fr) l))
    by_wanted None h = tt
    by_wanted (Some w) h =
        let d : IsWanted w × (spelled_wanted w ≡ spells e) = dyadic_of e w hf.0 h in
        record { frames = hf.1; level = (d.0, tt); spelled_so = ap (λ y. token_at b kind.OpenBracket ∷ ((y ++ token_at c kind.CloseBracket ∷ spelled_wanted w) ++ spelled_frames fr)) es ∙ ap (λ y. token_at b kind.OpenBracket ∷ ((spelled_level l ++ token_at c kind.CloseBracket ∷ y) ++ spelled_frames fr)) d.1 ∙ simp append_assoc }
open_bracket_sound b (open_indexed_assignment c t r e ∷ fr) l s hf hs es =
    record { frames = hf.2; level = (join_list t s hf.0 hs, hf.1); spelled_so = ap (λ x. token_at b kind.OpenBracket ∷ ((x ++ token_at c kind.CloseBracket ∷ token_at r kind.Arrow ∷ spells e) ++ spelled_frames fr)) (join-spells t s) ∙ ap (λ x. token_at b kind.OpenBracket ∷ (((x ++ spelled_tail t) ++ token_at c kind.CloseBracket ∷ token_at r kind.Arrow ∷ spells e) ++ spelled_frames fr)) es ∙ simp append_assoc }

pub no_slot_semicolon : (k : ℕ) (fr : List Frame) → at_semicolon k fr None ≡ None
no_slot_semicolon k [] = refl
no_slot_semicolon k (open_group r w ∷ fr) = refl
no_slot_semicolon k (open_index c t w ∷ fr) = refl
no_slot_semicolon k (open_axis_or_index c e ∷ fr) = refl
no_slot_semicolon k (open_indexed_assignment c t r e ∷ fr) = refl

pub no_slot_open : (b : ℕ) (fr : List Frame) → at_open_bracket b fr None ≡ None
no_slot_open b [] = refl
no_slot_open b (open_group r w ∷ fr) = refl
no_slot_open b (open_index c t w ∷ fr) = refl
no_slot_open b (open_axis_or_index c e ∷ fr) = refl
no_slot_open b (open_indexed_assignment c t r e ∷ fr) = refl

kind_sound : (c : ℕ) (k : TokenKind) (fr : List Frame) (l : Level) → AreFrames fr → IsLevel l → IfSome (step_kind c k fr l) (Reads (token_at c k) (spelled fr l))
kind_sound c (kind.Constant v) fr l hf hl = operand_sound c (kind.Constant v) (constant c v) tt refl fr l hf hl
kind_sound c (kind.Name n) fr l hf hl = name_sound c n fr l hf hl
kind_sound c (kind.Function g) fr l hf hl = function_sound c g fr l hf hl
kind_sound c kind.Dot fr l hf hl = dot_sound c fr l hf hl
kind_sound c kind.Jot fr l hf hl = jot_sound c fr l hf hl
kind_sound c kind.Arrow fr l hf hl = arrow_sound c fr l hf hl
kind_sound c kind.OpenParen fr l hf hl = open_sound c fr l hf hl
kind_sound c kind.CloseParen fr l hf hl = close_sound c fr l hf hl
kind_sound c kind.CloseBracket fr l hf hl = close_bracket_sound c fr l hf hl
kind_sound c kind.OpenBracket fr l hf hl = by_slot (slot_of l) refl
  where
    by_slot : (s : Option Slot) → slot_of l ≡ s → IfSome (at_open_bracket c fr s) (Reads (token_at c kind.OpenBracket) (spelled fr l))
    by_slot None h = rw no_slot_open tt
    by_slot (Some s) h = let d : IsSlot s × (spells_slot s ≡ spelled_level l) = slot_sound l s hl h in open_bracket_sound c fr l s hf d.0 d.1
kind_sound c kind.Semicolon fr l hf hl = by_slot (slot_of l) refl
  where
    by_slot : (s : Option Slot) → slot_of l ≡ s → IfSome (at_semicolon c fr s) (Reads (token_at c kind.Semicolon) (spelled fr l))
    by_slot None h = rw no_slot_semicolon tt
    by_slot (Some s) h = let d : IsSlot s × (spells_slot s ≡ spelled_level l) = slot_sound l s hl h in semicolon_sound c fr l s hf d.0 d.1

-- the partial trees of a run
pub record Spelled (ts : List Token) (m : Config) : Type 0 where
  pub frames : AreFrames m.0
  pub level : IsLevel m.1
  pub same : spelled m.0 m.1 ≡ ts

run-Spelled : (ts : List Token) → IfSome (run ts) (Spelled ts)
run-Spelled [] = record { frames = tt; level = tt; same = refl }
run-Spelled (t ∷ ts) = after (run ts) (run-Spelled ts)
  where
    finish : (m : Config) → Spelled ts m → (r : Option Config) → IfSome r (Reads t (spelled m.0 m.1)) → IfSome r (Spelled (t ∷ ts))
    finish m h None k = tt
    finish m h (Some n) k = record { frames = k.frames; level = k.level; same = k.spelled_so ∙ ap (λ x. t ∷ x) h.same }

    after : (m : Option Config) → IfSome m (Spelled ts) → IfSome (option_and_then (step t) m) (Spelled (t ∷ ts))
    after None h = tt
    after (Some m) h = finish m h (step t m) (kind_sound t.column t.kind m.0 m.1 h.frames h.level)

pub Spelled-of : (ts : List Token) (m : Config) → run ts ≡ Some m → Spelled ts m
Spelled-of ts m e = subst (λ (r : Option Config). IfSome r (Spelled ts)) e (run-Spelled ts)

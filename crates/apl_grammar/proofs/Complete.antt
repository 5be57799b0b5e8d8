-- Each tree is answered from its own tokens.
use Rattle.std.proofs.Common.{◌≡◌, ◌++◌, ◌∷◌, [], List, Option, Some, None, refl, ◌∙◌, ap}
use Rattle.std.specs.Prelude.{ℕ, Bool, true, false, IsTrue, ◌&&◌, option_and_then}
use Rattle.apl_tokens.specs.declared.token.TokenKind.TheVariants as kind
use Rattle.apl_array.specs.declared.function.ScalarFunction.{ScalarFunction}
use Rattle.apl_array.specs.Valences.{has_monadic, has_dyadic}
use Rattle.apl_tokens.specs.declared.token.Glyph.TheVariants.{Scalar}
use Rattle.apl_grammar.specs.declared.forms.DefaultAxis.TheVariants.{First, Last}
use Rattle.apl_grammar.specs.declared.forms.MonadicFunction.TheVariants as of_one
use Rattle.apl_grammar.specs.declared.forms.DyadicFunction.TheVariants as of_two
use Rattle.apl_grammar.specs.declared.forms.AxisFunction.{AxisFunction}
use Rattle.apl_grammar.specs.declared.forms.AxisFunction.TheVariants.{Rotate, Replicate, Expand}
use Rattle.apl_grammar.specs.declared.forms.Operator.{Operator}
use Rattle.apl_grammar.specs.declared.forms.Operator.TheVariants.{Reduction, Scan}
use Rattle.apl_grammar.specs.declared.forms.MonadicForm.{MonadicForm}
use Rattle.apl_grammar.specs.declared.forms.MonadicForm.TheVariants as one
use Rattle.apl_grammar.specs.declared.forms.DyadicForm.{DyadicForm}
use Rattle.apl_grammar.specs.declared.forms.DyadicForm.TheVariants as two
use Rattle.apl_grammar.specs.Functions.{dyadic_glyph, axis_glyph, operator_glyph, may_be_monadic, may_be_dyadic}
use Rattle.apl_grammar.specs.Tree.{Expr, value, dyadic, monadic, assign, assign_at, Operand, constant, name, group, index, Slots, last, more, Slot, nothing, given, Axis, none, along, has_axis, IsTree, IsOperand, IsList, IsSlot, IsAxis, token_at, spells, spells_operand, spells_list, spells_slot, spells_axis, spells_monadic, spells_dyadic}
use Rattle.apl_grammar.proofs.Partial.{Wanted, alone, applied, indexed, fill, Level, operand_wanted, expression, leading_dot, leading_arrow, leading_brackets, leading_slots, level_for, no_slots, slots, Frame, open_group, open_index, open_axis_or_index, open_indexed_assignment, as_dyadic, with_index, as_wanted, at_operand, at_name, at_close, at_slice, at_close_bracket, at_function, slot_of, sliced_by, at_semicolon, wanted_by, at_open_bracket, step, run_from, run_from-parts}

both_true : (a b : Bool) → IsTrue (a && b) → IsTrue a × IsTrue b
both_true true b h = (refl, h)
both_true false b h = absurd cc

abbrev pub level_axis : Axis → Expr → Level
level_axis none e = expression e
level_axis (along l x r) e = leading_brackets l x r e

-- where an operand is wanted for the function
record Wants (f : DyadicForm) (a : Axis) (e : Expr) (fr : List Frame) : Type 0 where
  level : Level
  read : run_from (fr, level_axis a e) (spells_dyadic f) ≡ Some (fr, level)
  wanted : as_wanted level ≡ Some (applied f a e)

-- the function that waits on the left of the symbol of a reduction or a scan
abbrev waiting_slash : Operator → AxisFunction
waiting_slash (Reduction axis) = Replicate axis
waiting_slash (Scan axis) = Expand axis

slash_read : (fr : List Frame) (s : ℕ) (o : Operator) (a : Axis) (e : Expr) → run_from (fr, level_axis a e) (token_at s (kind.Function (operator_glyph o)) ∷ []) ≡ Some (fr, operand_wanted (applied (two.Along s (waiting_slash o)) a e))
slash_read fr s (Reduction First) none e = refl
slash_read fr s (Reduction Last) none e = refl
slash_read fr s (Scan First) none e = refl
slash_read fr s (Scan Last) none e = refl
slash_read fr s (Reduction First) (along l x r) e = refl
slash_read fr s (Reduction Last) (along l x r) e = refl
slash_read fr s (Scan First) (along l x r) e = refl
slash_read fr s (Scan Last) (along l x r) e = refl

reduced_read : (fr : List Frame) (c : ℕ) (f : ScalarFunction) (s : ℕ) (o : Operator) (a : Axis) (e : Expr) → IsTrue (has_dyadic f) → at_function fr c (Scalar f) (operand_wanted (applied (two.Along s (waiting_slash o)) a e)) ≡ Some (fr, expression (monadic (one.Reduce c f s o) a e))
reduced_read fr c f s (Reduction axis) a e h = rw h refl
reduced_read fr c f s (Scan axis) a e h = rw h refl

slash_wants : (fr : List Frame) (c : ℕ) (o : Operator) (a : Axis) (e : Expr) → Wants (two.Along c (waiting_slash o)) a e fr
slash_wants fr c (Reduction axis) a e = record { level = operand_wanted (applied (two.Along c (Replicate axis)) a e); read = slash_read fr c (Reduction axis) a e; wanted = refl }
slash_wants fr c (Scan axis) a e = record { level = operand_wanted (applied (two.Along c (Expand axis)) a e); read = slash_read fr c (Scan axis) a e; wanted = refl }

-- a scalar function before an expression
scalar_wants : (c : ℕ) (f : ScalarFunction) (e : Expr) (fr : List Frame) → IsTrue (has_dyadic f) → (b : Bool) → has_monadic f ≡ b → Wants (two.Plain c (of_two.Scalar f)) none e fr
scalar_wants c f e fr h true is = record { level = expression (monadic (one.Plain c (of_one.Scalar f)) none e); read = rw is refl; wanted = rw h refl }
scalar_wants c f e fr h false is = record { level = operand_wanted (applied (two.Plain c (of_two.Scalar f)) none e); read = rw (is, h) refl; wanted = refl }

dot_read : (fr : List Frame) (d c : ℕ) (f : ScalarFunction) (e : Expr) → IsTrue (has_dyadic f) → (b : Bool) → has_monadic f ≡ b
    → run_from (fr, expression e) (token_at d kind.Dot ∷ token_at c (kind.Function (Scalar f)) ∷ []) ≡ Some (fr, leading_dot d c f e)
dot_read fr d c f e h true is = rw (is, h) refl
dot_read fr d c f e h false is = rw (is, h) refl

-- what a symbol and its axis are before an expression
abbrev level_or_expression : Option Level → Expr → Level
level_or_expression (Some l) e = l
level_or_expression None e = expression e

-- a function of two arguments and its axis, read before an expression. All plain functions have one line
wants : (f : DyadicForm) (a : Axis) (e : Expr) (fr : List Frame) → IsTrue (may_be_dyadic f (has_axis a)) → Wants f a e fr
wants (two.Plain c (of_two.Scalar f)) none e fr h = scalar_wants c f e fr h (has_monadic f) refl
wants (two.Plain c f) none e fr h = record { level = level_or_expression (level_for c (dyadic_glyph f) none e) e; read = refl; wanted = refl }
wants (two.Plain c f) (along l x r) e fr h = absurd cc
wants (two.Along c (Replicate axis)) a e fr h = slash_wants fr c (Reduction axis) a e
wants (two.Along c (Expand axis)) a e fr h = slash_wants fr c (Scan axis) a e
wants (two.Along c (Rotate First)) none e fr h = record { level = expression (monadic (one.Reverse c First) none e); read = refl; wanted = refl }
wants (two.Along c (Rotate First)) (along l x r) e fr h = record { level = expression (monadic (one.Reverse c First) (along l x r) e); read = refl; wanted = refl }
wants (two.Along c f) none e fr h = record { level = level_or_expression (level_for c (axis_glyph f) none e) e; read = refl; wanted = refl }
wants (two.Along c f) (along l x r) e fr h = record { level = level_or_expression (level_for c (axis_glyph f) (along l x r) e) e; read = refl; wanted = refl }
wants (two.Inner c f d k g) none e fr h =
    let both : IsTrue (has_dyadic f) × IsTrue (has_dyadic g) = both_true (has_dyadic f) (has_dyadic g) h in
    record {
      level = operand_wanted (applied (two.Inner c f d k g) none e);
      read = ap (option_and_then (step (token_at c (kind.Function (Scalar f))))) (dot_read fr d k g e both.1 (has_monadic g) refl) ∙ rw both.0 refl;
      wanted = refl;
    }
wants (two.Outer j d c g) none e fr h = record {
  level = operand_wanted (applied (two.Outer j d c g) none e);
  read = ap (option_and_then (step (token_at j kind.Jot))) (dot_read fr d c g e h (has_monadic g) refl);
  wanted = refl;
}
wants (two.Inner c f d k g) (along l x r) e fr h = absurd cc
wants (two.Outer j d c g) (along l x r) e fr h = absurd cc

-- a function of one argument and its axis, read before an expression
monadic_read : (f : MonadicForm) (a : Axis) (e : Expr) (fr : List Frame) → IsTrue (may_be_monadic f (has_axis a)) → run_from (fr, level_axis a e) (spells_monadic f) ≡ Some (fr, expression (monadic f a e))
monadic_read (one.Plain c (of_one.Scalar f)) none e fr h = rw h refl
monadic_read (one.Plain c f) none e fr h = refl
monadic_read (one.Plain c f) (along l x r) e fr h = absurd cc
monadic_read (one.Reverse c First) none e fr h = refl
monadic_read (one.Reverse c Last) none e fr h = refl
monadic_read (one.Reverse c First) (along l x r) e fr h = refl
monadic_read (one.Reverse c Last) (along l x r) e fr h = refl
monadic_read (one.Reduce c f s o) a e fr h =
    ap (option_and_then (step (token_at c (kind.Function (Scalar f))))) (slash_read fr s o a e) ∙ reduced_read fr c f s o a e h

name_read : (fr : List Frame) (c : ℕ) (n : List ℕ) (l : Level) (w : Wanted) → as_wanted l ≡ Some w → at_name fr c n l ≡ Some (fr, expression (fill w (name c n)))
name_read fr c n (operand_wanted v) w h = ap (at_operand fr (name c n)) h
name_read fr c n (expression e) w h = ap (at_operand fr (name c n)) h
name_read fr c n (leading_dot d k g e) w h = absurd cc
name_read fr c n (leading_arrow r e) w h = absurd cc
name_read fr c n (leading_brackets l x r e) w h = ap (at_operand fr (name c n)) h
name_read fr c n (leading_slots l s d r e) w h = absurd cc

abbrev pub first_slot : Slots → Slot
first_slot (last s) = s
first_slot (more s c ss) = s

abbrev pub level_slot : Slot → Level
level_slot nothing = operand_wanted alone
level_slot (given e) = expression e

slot_of_level : (s : Slot) → slot_of (level_slot s) ≡ Some s
slot_of_level nothing = refl
slot_of_level (given e) = refl

abbrev pub frame_of : Frame → (ℕ → Slots → Frame) → Slots → Frame
frame_of f g (last s) = f
frame_of f g (more s c ss) = g c ss

-- what a closing bracket opens (from the right), up to the bracket on its left
record Brackets (fr : List Frame) (l : Level) (c : ℕ) (w : Wanted) : Type 0 where
  frame : Frame
  behind : ℕ → Slots → Frame
  opens : at_close_bracket fr c l ≡ Some (frame ∷ fr, operand_wanted alone)
  first : (k : ℕ) (s : Slot) → at_semicolon k (frame ∷ fr) (Some s) ≡ Some (behind k (last s) ∷ fr, operand_wanted alone)
  next : (k j : ℕ) (s : Slot) (ss : Slots) → at_semicolon k (behind j ss ∷ fr) (Some s) ≡ Some (behind k (more s j ss) ∷ fr, operand_wanted alone)
  closes : (b : ℕ) (s : Slots) → (m : Level) × (at_open_bracket b (frame_of frame behind s ∷ fr) (Some (first_slot s)) ≡ Some (fr, m)) × (as_wanted m ≡ Some (indexed w b s c))

sliced_brackets : (fr : List Frame) (l : Level) (c : ℕ) (w : Wanted) → at_close_bracket fr c l ≡ Some (open_index c no_slots w ∷ fr, operand_wanted alone) → Brackets fr l c w
sliced_brackets fr l c w h = record {
  frame = open_index c no_slots w;
  behind = λ k ss. open_index c (slots k ss) w;
  opens = h;
  first = λ k s. refl;
  next = λ k j s ss. refl;
  closes = λ b. elim [ last s ↦ (operand_wanted (indexed w b (last s) c), refl, refl) | more s k ss ↦ (operand_wanted (indexed w b (more s k ss) c), refl, refl) ];
}

either_closes : (fr : List Frame) (e : Expr) (c : ℕ) (w : Wanted) → as_dyadic e ≡ Some w → (b : ℕ) (s : Slots) → (m : Level) × (at_open_bracket b (frame_of (open_axis_or_index c e) (λ k ss. open_index c (slots k ss) w) s ∷ fr) (Some (first_slot s)) ≡ Some (fr, m)) × (as_wanted m ≡ Some (indexed w b s c))
either_closes fr e c w h b (last nothing) = (operand_wanted (indexed w b (last nothing) c), ap (λ o. wanted_by fr (with_index b (last nothing) c o)) h, refl)
either_closes fr e c w h b (last (given x)) = (leading_brackets b x c e, refl, ap (with_index b (last (given x)) c) h)
either_closes fr e c w h b (more s k ss) = (operand_wanted (indexed w b (more s k ss) c), refl, refl)

either_brackets : (fr : List Frame) (e : Expr) (c : ℕ) (w : Wanted) → as_dyadic e ≡ Some w → Brackets fr (expression e) c w
either_brackets fr e c w h = record {
  frame = open_axis_or_index c e;
  behind = λ k ss. open_index c (slots k ss) w;
  opens = refl;
  first = λ k s. ap (sliced_by fr k c s) h;
  next = λ k j s ss. refl;
  closes = either_closes fr e c w h;
}

brackets : (fr : List Frame) (l : Level) (c : ℕ) (w : Wanted) → as_wanted l ≡ Some w → Brackets fr l c w
brackets fr (operand_wanted v) c w h = sliced_brackets fr (operand_wanted v) c w (ap (at_slice fr c) h)
brackets fr (expression e) c w h = either_brackets fr e c w h
brackets fr (leading_dot d k g e) c w h = absurd cc
brackets fr (leading_arrow r e) c w h = absurd cc
brackets fr (leading_brackets l x r e) c w h = sliced_brackets fr (leading_brackets l x r e) c w (ap (at_slice fr c) h)
brackets fr (leading_slots l s d r e) c w h = absurd cc

mutual
  pub run_from-spells : (e : Expr) → IsTree e → (fr : List Frame) → run_from (fr, operand_wanted alone) (spells e) ≡ Some (fr, expression e)
  run_from-spells (value o) h fr = run_from-operand o h fr (operand_wanted alone) alone refl
  run_from-spells (dyadic o f a e) h fr =
      let w : Wants f a e fr = wants f a e fr h.1 in
      run_from-parts (fr, operand_wanted alone) (fr, w.level) (fr, expression (dyadic o f a e)) (spells_operand o) (spells_dyadic f ++ (spells_axis a ++ spells e))
      (run_from-parts (fr, operand_wanted alone) (fr, level_axis a e) (fr, w.level) (spells_dyadic f) (spells_axis a ++ spells e)
      (run_from-parts (fr, operand_wanted alone) (fr, expression e) (fr, level_axis a e) (spells_axis a) (spells e) (run_from-spells e h.3 fr) (run_from-axis a h.2 fr e))
      w.read)
      (run_from-operand o h.0 fr w.level (applied f a e) w.wanted)
  run_from-spells (monadic f a e) h fr =
      run_from-parts (fr, operand_wanted alone) (fr, level_axis a e) (fr, expression (monadic f a e)) (spells_monadic f) (spells_axis a ++ spells e)
      (run_from-parts (fr, operand_wanted alone) (fr, expression e) (fr, level_axis a e) (spells_axis a) (spells e) (run_from-spells e h.2 fr) (run_from-axis a h.1 fr e))
      (monadic_read f a e fr h.0)
  run_from-spells (assign c n r e) h fr = rw (run_from-spells e h fr) refl
  run_from-spells (assign_at c n l s d r e) h fr =
      ap (λ k. option_and_then (step (token_at c (kind.Name n))) (option_and_then (step (token_at l kind.OpenBracket)) k))
      (run_from-parts (fr, operand_wanted alone) (open_indexed_assignment d no_slots r e ∷ fr, operand_wanted alone) (frame_of (open_indexed_assignment d no_slots r e) (λ k ss. open_indexed_assignment d (slots k ss) r e) s ∷ fr, level_slot (first_slot s)) (spells_list s) (token_at d kind.CloseBracket ∷ token_at r kind.Arrow ∷ spells e)
      (ap (λ k. option_and_then (step (token_at d kind.CloseBracket)) (option_and_then (step (token_at r kind.Arrow)) k)) (run_from-spells e h.1 fr))
      (run_from-list s h.0 fr (open_indexed_assignment d no_slots r e) (λ k ss. open_indexed_assignment d (slots k ss) r e) (λ k t. refl) (λ k j t ss. refl)))
      ∙ stored_closes s
    where
      stored_closes : (s : Slots) → option_and_then (step (token_at c (kind.Name n))) (at_open_bracket l (frame_of (open_indexed_assignment d no_slots r e) (λ k ss. open_indexed_assignment d (slots k ss) r e) s ∷ fr) (slot_of (level_slot (first_slot s)))) ≡ Some (fr, expression (assign_at c n l s d r e))
      stored_closes (last nothing) = refl
      stored_closes (last (given x)) = refl
      stored_closes (more nothing k ss) = refl
      stored_closes (more (given x) k ss) = refl

  pub run_from-operand : (o : Operand) → IsOperand o → (fr : List Frame) (l : Level) (w : Wanted) → as_wanted l ≡ Some w → run_from (fr, l) (spells_operand o) ≡ Some (fr, expression (fill w o))
  run_from-operand (constant c v) h fr l w at_l = ap (at_operand fr (constant c v)) at_l
  run_from-operand (name c n) h fr l w at_l = name_read fr c n l w at_l
  run_from-operand (group b e c) h fr l w at_l =
      ap (option_and_then (step (token_at b kind.OpenParen)))
      (run_from-parts (fr, l) (open_group c w ∷ fr, operand_wanted alone) (open_group c w ∷ fr, expression e) (spells e) (token_at c kind.CloseParen ∷ []) (ap (at_close fr c) at_l) (run_from-spells e h (open_group c w ∷ fr)))
  run_from-operand (index x b s c) h fr l w at_l =
      let k = brackets fr l c w at_l in
      let closed = k.closes b s in
      run_from-parts (fr, l) (fr, closed.0) (fr, expression (fill w (index x b s c))) (spells_operand x) (token_at b kind.OpenBracket ∷ (spells_list s ++ token_at c kind.CloseBracket ∷ []))
      (ap (option_and_then (step (token_at b kind.OpenBracket)))
      (run_from-parts (fr, l) (k.frame ∷ fr, operand_wanted alone) (frame_of k.frame k.behind s ∷ fr, level_slot (first_slot s)) (spells_list s) (token_at c kind.CloseBracket ∷ []) k.opens (run_from-list s h.1 fr k.frame k.behind k.first k.next))
      ∙ ap (at_open_bracket b (frame_of k.frame k.behind s ∷ fr)) (slot_of_level (first_slot s)) ∙ closed.1)
      (run_from-operand x h.0 fr closed.0 (indexed w b s c) closed.2)

  pub run_from-list : (s : Slots) → IsList s → (fr : List Frame) (f : Frame) (g : ℕ → Slots → Frame) → ((k : ℕ) (t : Slot) → at_semicolon k (f ∷ fr) (Some t) ≡ Some (g k (last t) ∷ fr, operand_wanted alone)) → ((k j : ℕ) (t : Slot) (ss : Slots) → at_semicolon k (g j ss ∷ fr) (Some t) ≡ Some (g k (more t j ss) ∷ fr, operand_wanted alone)) → run_from (f ∷ fr, operand_wanted alone) (spells_list s) ≡ Some (frame_of f g s ∷ fr, level_slot (first_slot s))
  run_from-list (last s) h fr f g first next = run_from-slot s h (f ∷ fr)
  run_from-list (more s c ss) h fr f g first next =
      run_from-parts (f ∷ fr, operand_wanted alone) (g c ss ∷ fr, operand_wanted alone) (g c ss ∷ fr, level_slot s) (spells_slot s) (token_at c kind.Semicolon ∷ spells_list ss)
      (ap (option_and_then (step (token_at c kind.Semicolon))) (run_from-list ss h.1 fr f g first next)
      ∙ ap (at_semicolon c (frame_of f g ss ∷ fr)) (slot_of_level (first_slot ss)) ∙ behind ss)
      (run_from-slot s h.0 (g c ss ∷ fr))
    where
      behind : (ss : Slots) → at_semicolon c (frame_of f g ss ∷ fr) (Some (first_slot ss)) ≡ Some (g c ss ∷ fr, operand_wanted alone)
      behind (last t) = first c t
      behind (more t j ts) = next c j t ts

  pub run_from-slot : (s : Slot) → IsSlot s → (fr : List Frame) → run_from (fr, operand_wanted alone) (spells_slot s) ≡ Some (fr, level_slot s)
  run_from-slot nothing h fr = refl
  run_from-slot (given e) h fr = run_from-spells e h fr

  pub run_from-axis : (a : Axis) → IsAxis a → (fr : List Frame) (e : Expr) → run_from (fr, expression e) (spells_axis a) ≡ Some (fr, level_axis a e)
  run_from-axis none h fr e = refl
  run_from-axis (along b x c) h fr e =
      ap (option_and_then (step (token_at b kind.OpenBracket)))
      (run_from-parts (fr, expression e) (open_axis_or_index c e ∷ fr, operand_wanted alone) (open_axis_or_index c e ∷ fr, expression x) (spells x) (token_at c kind.CloseBracket ∷ []) refl (run_from-spells x h (open_axis_or_index c e ∷ fr)))

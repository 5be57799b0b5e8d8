-- The reader takes what the automaton over partial trees takes, and its machine then represents the partial trees that it leads to.
use Rattle.std.proofs.Common.{◌≡◌, ◌++◌, ◌∷◌, [], List, Option, Some, None, refl, sym, ◌∙◌, ap, subst, append_assoc, length}
use Rattle.std.specs.Prelude.{ℕ, Bool, true, false, option_map, option_and_then}
use Rattle.std.proofs.lemmas.List.{append-nil}
use Rattle.apl_tokens.specs.declared.token.Token.{Token}
use Rattle.apl_tokens.specs.declared.token.TokenKind.{TokenKind}
use Rattle.apl_tokens.specs.declared.token.TokenKind.TheVariants as kind
use Rattle.apl_tokens.specs.declared.token.Glyph.{Glyph}
use Rattle.apl_array.specs.declared.function.ScalarFunction.{ScalarFunction}
use Rattle.apl_grammar.specs.declared.forms.DyadicFunction.TheVariants as of_two
use Rattle.apl_grammar.specs.declared.forms.MonadicForm.{MonadicForm}
use Rattle.apl_grammar.specs.declared.forms.DyadicForm.{DyadicForm}
use Rattle.apl_grammar.specs.declared.forms.DyadicForm.TheVariants.{Plain, Along, Inner, Outer}
use Rattle.apl_grammar.specs.declared.program.Operation.{Operation}
use Rattle.apl_grammar.specs.declared.program.Operation.TheVariants as op
use Rattle.apl_grammar.specs.declared.reader.State.{State}
use Rattle.apl_grammar.specs.declared.reader.State.TheVariants as state
use Rattle.apl_grammar.specs.declared.reader.Pending.{Pending}
use Rattle.apl_grammar.specs.declared.reader.Pending.TheVariants as pending
use Rattle.apl_grammar.specs.Functions.{dyadic_scalar, monadic_form, dyadic_form, dyadic_counterpart, reduced}
use Rattle.apl_grammar.specs.Tree.{Expr, value, dyadic, monadic, assign, assign_at, Operand, constant, name, group, last, Slot, nothing, given, Axis, none, along, has_axis, brackets, indexed_name, axis_brackets, semicolons, operations, operand_operations, list_operations, slot_operations, axis_operations}
use Rattle.apl_grammar.specs.Automaton.{Machine, machine, after_operand, with_index, stack_for_operand, with_operand, with_name, expression_operations, with_function_pending, with_either, with_leading_function, with_monadic, with_function, with_leading_dot, with_dot, with_jot, with_arrow, closed_group, with_open_paren, with_close_paren, with_close_bracket, with_slot, is_empty_slot, with_next_slot, with_semicolon, closed_list, with_open_bracket, step, step_kind, run, when_nothing_pending, statement_operations}
use Rattle.apl_grammar.proofs.Partial as partial
use Rattle.apl_grammar.proofs.Partial.{Wanted, alone, applied as applied_to, indexed, fill, Level, operand_wanted, expression, leading_dot, leading_arrow, leading_brackets, leading_slots, Tail, no_slots, slots, Frame, open_group, open_index, open_axis_or_index, open_indexed_assignment, Config, join, applied_to as applied_by, as_dyadic, with_index as indexed_by, as_wanted, level_by, level_for, within, inner_level, monadic_level, at_operand, at_name, at_close, at_slice, at_close_bracket, at_function, dotted, at_dot, at_jot, at_arrow, at_open, slot_of, sliced_by, at_semicolon, wanted_by, at_open_bracket}
use Rattle.apl_grammar.proofs.Sound.{no_slot_semicolon, no_slot_open}
use Rattle.apl_grammar.proofs.Represents.{wanted_operations, wanted_stack, undecided_operations, expression_state, undecided_of, tail_operations, tail_columns, first_place, other_places, frame_stack, Emits, level_state, level_stack, EmitsLevel, Represents, Emits-same, Emits-nil, Emits-append, index_Emits, axis_Emits, completed_Represents, HasExpressionOperations, has_expression_operations}

-- both refuse, or both go on
abbrev pub Follows : Option Config → Option Machine → Type 0
Follows None None = Unit {0}
Follows (Some k) (Some m) = Represents k m
Follows None (Some m) = ⊥
Follows (Some k) None = ⊥

-- what waits for an operand, in front of these frames
record WaitsFor (fr : List Frame) (os : List (Option Operation)) (w : Wanted) (es : List Pending) : Type 0 where
  places : List ℕ
  emits : Emits fr places (wanted_operations w) os
  same : es ≡ wanted_stack w (frame_stack fr places)

abbrev Waits : List Frame → List (Option Operation) → Option Wanted → Option (List Pending) → Type 0
Waits fr os None None = Unit {0}
Waits fr os (Some w) (Some es) = WaitsFor fr os w es
Waits fr os None (Some es) = ⊥
Waits fr os (Some w) None = ⊥

waits : (fr : List Frame) (l : Level) (ps : List ℕ) (os : List (Option Operation)) → EmitsLevel fr l ps os → Waits fr os (as_wanted l) (stack_for_operand (level_state l ps) (level_stack fr l ps))
waits fr (operand_wanted w) ps os h = record { places = ps; emits = h; same = refl }
waits fr (expression (monadic f a e)) ps os h = by_counterpart (dyadic_counterpart f (has_axis a))
  where
    by_counterpart : (g : Option DyadicForm) → Waits fr os (option_map (applied_by a e) g) (option_map (with_function_pending (axis_brackets a) (frame_stack fr ps)) g)
    by_counterpart (Some g) = record { places = ps; emits = h; same = refl }
    by_counterpart None = tt
waits fr (expression (value o)) ps os h = tt
waits fr (expression (dyadic o f a e)) ps os h = tt
waits fr (expression (assign c n r e)) ps os h = tt
waits fr (expression (assign_at c n l s d r e)) ps os h = tt
waits fr (leading_dot d c g e) ps os h = tt
waits fr (leading_arrow r e) ps os h = tt
waits fr (leading_brackets l x r (monadic f a e)) ps os h = by_counterpart (dyadic_counterpart f (has_axis a))
  where
    by_counterpart : (g : Option DyadicForm) → Waits fr os (indexed_by l (last (given x)) r (option_map (applied_by a e) g)) (option_map (with_index (brackets l r)) (option_map (with_function_pending (axis_brackets a) (frame_stack fr (other_places ps))) g))
    by_counterpart (Some g) = record { places = other_places ps; emits = index_Emits fr ps r (monadic f a e) (operations x) os h; same = refl }
    by_counterpart None = tt
waits fr (leading_brackets l x r (value o)) ps os h = tt
waits fr (leading_brackets l x r (dyadic o f a e)) ps os h = tt
waits fr (leading_brackets l x r (assign c n q e)) ps os h = tt
waits fr (leading_brackets l x r (assign_at c n b s d q e)) ps os h = tt
waits fr (leading_slots l s d r e) ps os h = tt

operand_follows : (fr : List Frame) (l : Level) (ps : List ℕ) (os : List (Option Operation)) (o : Operand) (p : Operation) → operand_operations o ≡ p ∷ [] → EmitsLevel fr l ps os → Follows (at_operand fr o (as_wanted l)) (with_operand os (level_stack fr l ps) (level_state l ps) p)
operand_follows fr l ps os o p eo h = by_waits (as_wanted l) (stack_for_operand (level_state l ps) (level_stack fr l ps)) (waits fr l ps os h)
  where
    by_waits : (w : Option Wanted) (es : Option (List Pending)) → Waits fr os w es → Follows (at_operand fr o w) (option_map (after_operand (os ++ Some p ∷ [])) es)
    by_waits None None k = tt
    by_waits None (Some es) k = k
    by_waits (Some w) None k = k
    by_waits (Some w) (Some es) k =
        let put : Emits fr k.places (wanted_operations w ++ p ∷ []) (os ++ Some p ∷ []) = Emits-append fr k.places (wanted_operations w) os (Some p ∷ []) k.emits in
        subst (λ (x : List Pending). Represents (fr, expression (fill w o)) (after_operand (os ++ Some p ∷ []) x)) (sym k.same)
        (completed_Represents w o fr k.places (os ++ Some p ∷ []) (Emits-same fr k.places (wanted_operations w ++ p ∷ []) (wanted_operations w ++ operand_operations o) (os ++ Some p ∷ []) (ap (λ x. wanted_operations w ++ x) (sym eo)) put))

name_follows : (c : ℕ) (n : List ℕ) (fr : List Frame) (l : Level) (ps : List ℕ) (os : List (Option Operation)) → EmitsLevel fr l ps os → Follows (at_name fr c n l) (with_name os (level_stack fr l ps) (level_state l ps) c n)
name_follows c n fr (leading_arrow r e) ps os h = record { places = ps; emits = Emits-append fr ps (operations e) os (Some (op.Assign c n r) ∷ []) h; stack = refl; state = refl }
name_follows c n fr (leading_slots l s d r e) ps os h =
    let p : Operation = op.AssignAt (indexed_name c n (semicolons s) (brackets l d) r) in
    record { places = ps; emits = Emits-same fr ps ((operations e ++ list_operations s) ++ p ∷ []) (operations e ++ (list_operations s ++ p ∷ [])) (os ++ Some p ∷ []) (append_assoc (operations e) (list_operations s) (p ∷ [])) (Emits-append fr ps (operations e ++ list_operations s) os (Some p ∷ []) h); stack = refl; state = refl }
name_follows c n fr (operand_wanted w) ps os h = operand_follows fr (operand_wanted w) ps os (name c n) (op.Name c n) refl h
name_follows c n fr (expression (monadic f a e)) ps os h = operand_follows fr (expression (monadic f a e)) ps os (name c n) (op.Name c n) refl h
name_follows c n fr (expression (value o)) ps os h = tt
name_follows c n fr (expression (dyadic o f a e)) ps os h = tt
name_follows c n fr (expression (assign k m r e)) ps os h = tt
name_follows c n fr (expression (assign_at k m l s d r e)) ps os h = tt
name_follows c n fr (leading_dot d k g e) ps os h = tt
name_follows c n fr (leading_brackets l x r e) ps os h = operand_follows fr (leading_brackets l x r e) ps os (name c n) (op.Name c n) refl h

close_follows : (c : ℕ) (fr : List Frame) (l : Level) (ps : List ℕ) (os : List (Option Operation)) → EmitsLevel fr l ps os → Follows (at_close fr c (as_wanted l)) (with_close_paren os (level_stack fr l ps) (level_state l ps) c)
close_follows c fr l ps os h = by_waits (as_wanted l) (stack_for_operand (level_state l ps) (level_stack fr l ps)) (waits fr l ps os h)
  where
    by_waits : (w : Option Wanted) (es : Option (List Pending)) → Waits fr os w es → Follows (at_close fr c w) (option_map (λ es. machine os (pending.Group c ∷ es) state.OperandWanted) es)
    by_waits None None k = tt
    by_waits None (Some es) k = k
    by_waits (Some w) None k = k
    by_waits (Some w) (Some es) k = record { places = k.places; emits = Emits-nil fr k.places (wanted_operations w) os k.emits; stack = ap (λ x. pending.Group c ∷ x) k.same; state = refl }

slice_follows : (c : ℕ) (fr : List Frame) (l : Level) (ps : List ℕ) (os : List (Option Operation)) → EmitsLevel fr l ps os → Follows (at_slice fr c (as_wanted l)) (option_map (λ es. machine os (pending.Index c [] ∷ es) state.OperandWanted) (stack_for_operand (level_state l ps) (level_stack fr l ps)))
slice_follows c fr l ps os h = by_waits (as_wanted l) (stack_for_operand (level_state l ps) (level_stack fr l ps)) (waits fr l ps os h)
  where
    by_waits : (w : Option Wanted) (es : Option (List Pending)) → Waits fr os w es → Follows (at_slice fr c w) (option_map (λ es. machine os (pending.Index c [] ∷ es) state.OperandWanted) es)
    by_waits None None k = tt
    by_waits None (Some es) k = k
    by_waits (Some w) None k = k
    by_waits (Some w) (Some es) k = record { places = k.places; emits = Emits-nil fr k.places (wanted_operations w) os k.emits; stack = ap (λ x. pending.Index c [] ∷ x) k.same; state = refl }

close_bracket_follows : (c : ℕ) (fr : List Frame) (l : Level) (ps : List ℕ) (os : List (Option Operation)) → EmitsLevel fr l ps os → Follows (at_close_bracket fr c l) (with_close_bracket os (level_stack fr l ps) (level_state l ps) c)
close_bracket_follows c fr (expression (monadic f a e)) ps os h = record { places = length os ∷ ps; emits = (os, [], refl, refl, refl, h); stack = refl; state = refl }
close_bracket_follows c fr (expression (value o)) ps os h = record { places = 0 ∷ ps; emits = Emits-nil fr ps (operations (value o)) os h; stack = refl; state = refl }
close_bracket_follows c fr (expression (dyadic o f a e)) ps os h = record { places = 0 ∷ ps; emits = Emits-nil fr ps (operations (dyadic o f a e)) os h; stack = refl; state = refl }
close_bracket_follows c fr (expression (assign k n r e)) ps os h = record { places = 0 ∷ ps; emits = Emits-nil fr ps (operations (assign k n r e)) os h; stack = refl; state = refl }
close_bracket_follows c fr (expression (assign_at k n l s d r e)) ps os h = record { places = 0 ∷ ps; emits = Emits-nil fr ps (operations (assign_at k n l s d r e)) os h; stack = refl; state = refl }
close_bracket_follows c fr (leading_arrow r e) ps os h = record { places = ps; emits = Emits-nil fr ps (operations e) os h; stack = refl; state = refl }
close_bracket_follows c fr (operand_wanted w) ps os h = slice_follows c fr (operand_wanted w) ps os h
close_bracket_follows c fr (leading_dot d k g e) ps os h = tt
close_bracket_follows c fr (leading_brackets l x r e) ps os h = slice_follows c fr (leading_brackets l x r e) ps os h
close_bracket_follows c fr (leading_slots l s d r e) ps os h = tt

-- a function before an expression
applied_follows : (c : ℕ) (g : Glyph) (a : Axis) (e : Expr) (fr : List Frame) (ps : List ℕ) (os : List (Option Operation)) → Emits fr ps (operations e ++ axis_operations a) os → Follows (option_map (within fr) (level_for c g a e)) (with_leading_function c g (axis_brackets a) os (frame_stack fr ps))
applied_follows c g a e fr ps os h = by_valence (monadic_form c g (has_axis a)) (dyadic_form c g (has_axis a))
  where
    by_valence : (m : Option MonadicForm) (d : Option DyadicForm) → Follows (option_map (within fr) (level_by m d a e)) (with_either m d (axis_brackets a) os (frame_stack fr ps))
    by_valence (Some f) d = record { places = ps; emits = h; stack = refl; state = refl }
    by_valence None (Some f) = record { places = ps; emits = h; stack = refl; state = refl }
    by_valence None None = tt

-- a function before an expression that has ended
ended_follows : (c : ℕ) (g : Glyph) (fr : List Frame) (e : Expr) (ps : List ℕ) (os : List (Option Operation)) → Emits fr ps (undecided_operations e) os → Follows (option_map (within fr) (level_for c g none e)) (option_and_then (λ os. with_leading_function c g None os (frame_stack fr ps)) (expression_operations os (expression_state e)))
ended_follows c g fr e ps os h =
    let s : HasExpressionOperations fr ps e os = has_expression_operations fr ps e os h in
    subst (λ (x : Option (List (Option Operation))). Follows (option_map (within fr) (level_for c g none e)) (option_and_then (λ os. with_leading_function c g None os (frame_stack fr ps)) x)) (sym s.is)
    (applied_follows c g none e fr ps s.all (Emits-nil fr ps (operations e) s.all s.emits))

function_follows : (c : ℕ) (g : Glyph) (fr : List Frame) (l : Level) (ps : List ℕ) (os : List (Option Operation)) → EmitsLevel fr l ps os → Follows (at_function fr c g l) (with_function os (level_stack fr l ps) (level_state l ps) c g)
function_follows c g fr (expression (monadic f a e)) ps os h = ended_follows c g fr (monadic f a e) ps os h
function_follows c g fr (expression (value o)) ps os h = ended_follows c g fr (value o) ps os h
function_follows c g fr (expression (dyadic o f a e)) ps os h = ended_follows c g fr (dyadic o f a e) ps os h
function_follows c g fr (expression (assign k n r e)) ps os h = ended_follows c g fr (assign k n r e) ps os h
function_follows c g fr (expression (assign_at k n l s d r e)) ps os h = ended_follows c g fr (assign_at k n l s d r e) ps os h
function_follows c g fr (leading_brackets l x r e) ps os h =
    applied_follows c g (along l x r) e fr (other_places ps) (with_monadic os (undecided_of e (first_place ps))) (axis_Emits fr ps r e (operations x) os h)
function_follows c g fr (leading_dot d k f e) ps os h = by_scalar (dyadic_scalar g)
  where
    by_scalar : (s : Option ScalarFunction) → Follows (option_map (λ s. within fr (inner_level c d k f e s)) s) (option_map (λ s. machine os (pending.Operation (op.Dyadic (Inner c s d k f) None) ∷ frame_stack fr ps) state.OperandWanted) s)
    by_scalar (Some s) = record { places = ps; emits = Emits-nil fr ps (operations e) os h; stack = refl; state = refl }
    by_scalar None = tt
function_follows c g fr (operand_wanted (applied_to f a e)) ps os h = by_reduced (reduced c g f)
  where
    by_reduced : (m : Option MonadicForm) → Follows (option_map (λ m. within fr (monadic_level a e m)) m) (option_map (λ m. machine os (frame_stack fr ps) (state.LeadingFunction m (axis_brackets a))) m)
    by_reduced (Some m) = record { places = ps; emits = h; stack = refl; state = refl }
    by_reduced None = tt
function_follows c g [] (operand_wanted alone) ps os h = tt
function_follows c g (open_group r w ∷ fr) (operand_wanted alone) ps os h = tt
function_follows c g (open_index r t w ∷ fr) (operand_wanted alone) ps os h = tt
function_follows c g (open_axis_or_index r e ∷ fr) (operand_wanted alone) ps os h = tt
function_follows c g (open_indexed_assignment r t a e ∷ fr) (operand_wanted alone) ps os h = tt
function_follows c g fr (operand_wanted (indexed w l s r)) ps os h = tt
function_follows c g fr (leading_arrow r e) ps os h = tt
function_follows c g fr (leading_slots l s d r e) ps os h = tt

-- a dot before a function
dotted_follows : (d : ℕ) (fr : List Frame) (f : DyadicForm) (a : Axis) (e : Expr) (ps : List ℕ) (os : List (Option Operation)) → Emits fr ps (operations e ++ axis_operations a) os → Follows (dotted fr d a e f) (with_leading_dot os (frame_stack fr ps) d (axis_brackets a) f)
dotted_follows d fr (Plain c (of_two.Scalar f)) none e ps os h = record { places = ps; emits = Emits-same fr ps (operations e ++ []) (operations e) os (append-nil (operations e)) h; stack = refl; state = refl }
dotted_follows d fr (Plain c _) none e ps os h = tt
dotted_follows d fr (Plain c (of_two.Scalar f)) (along l x r) e ps os h = tt
dotted_follows d fr (Plain c _) (along l x r) e ps os h = tt
dotted_follows d fr (Along c f) none e ps os h = tt
dotted_follows d fr (Inner c f s k g) none e ps os h = tt
dotted_follows d fr (Outer c f s g) none e ps os h = tt
dotted_follows d fr (Along c f) (along l x r) e ps os h = tt
dotted_follows d fr (Inner c f s k g) (along l x r) e ps os h = tt
dotted_follows d fr (Outer c f s g) (along l x r) e ps os h = tt

dot_follows : (d : ℕ) (fr : List Frame) (l : Level) (ps : List ℕ) (os : List (Option Operation)) → EmitsLevel fr l ps os → Follows (at_dot fr d l) (with_dot os (level_stack fr l ps) (level_state l ps) d)
dot_follows d fr (expression (monadic f a e)) ps os h = by_counterpart (dyadic_counterpart f (has_axis a))
  where
    by_counterpart : (g : Option DyadicForm) → Follows (option_and_then (dotted fr d a e) g) (option_and_then (with_leading_dot os (frame_stack fr ps) d (axis_brackets a)) g)
    by_counterpart (Some g) = dotted_follows d fr g a e ps os h
    by_counterpart None = tt
dot_follows d fr (expression (value o)) ps os h = tt
dot_follows d fr (expression (dyadic o f a e)) ps os h = tt
dot_follows d fr (expression (assign c n r e)) ps os h = tt
dot_follows d fr (expression (assign_at c n l s k r e)) ps os h = tt
dot_follows d fr (operand_wanted (applied_to f a e)) ps os h = dotted_follows d fr f a e ps os h
dot_follows d fr (operand_wanted (indexed w l s r)) ps os h = tt
dot_follows d [] (operand_wanted alone) ps os h = tt
dot_follows d (open_group r w ∷ fr) (operand_wanted alone) ps os h = tt
dot_follows d (open_index r t w ∷ fr) (operand_wanted alone) ps os h = tt
dot_follows d (open_axis_or_index r e ∷ fr) (operand_wanted alone) ps os h = tt
dot_follows d (open_indexed_assignment r t a e ∷ fr) (operand_wanted alone) ps os h = tt
dot_follows d fr (leading_dot k c g e) ps os h = tt
dot_follows d fr (leading_arrow r e) ps os h = tt
dot_follows d fr (leading_brackets l x r e) ps os h = tt
dot_follows d fr (leading_slots l s k r e) ps os h = tt

jot_follows : (j : ℕ) (fr : List Frame) (l : Level) (ps : List ℕ) (os : List (Option Operation)) → EmitsLevel fr l ps os → Follows (at_jot fr j l) (with_jot os (level_stack fr l ps) (level_state l ps) j)
jot_follows j fr (leading_dot d c g e) ps os h = record { places = ps; emits = Emits-nil fr ps (operations e) os h; stack = refl; state = refl }
jot_follows j fr (expression (monadic f a e)) ps os h = tt
jot_follows j fr (expression (value o)) ps os h = tt
jot_follows j fr (expression (dyadic o f a e)) ps os h = tt
jot_follows j fr (expression (assign c n r e)) ps os h = tt
jot_follows j fr (expression (assign_at c n l s k r e)) ps os h = tt
jot_follows j fr (operand_wanted w) ps os h = tt
jot_follows j fr (leading_arrow r e) ps os h = tt
jot_follows j fr (leading_brackets l x r e) ps os h = tt
jot_follows j fr (leading_slots l s k r e) ps os h = tt

arrow_follows : (r : ℕ) (fr : List Frame) (l : Level) (ps : List ℕ) (os : List (Option Operation)) → EmitsLevel fr l ps os → Follows (at_arrow fr r l) (with_arrow os (level_stack fr l ps) (level_state l ps) r)
arrow_follows r fr (expression e) ps os h =
    let s : HasExpressionOperations fr ps e os = has_expression_operations fr ps e os h in
    subst (λ (x : Option (List (Option Operation))). Follows (Some (fr, leading_arrow r e)) (option_map (λ os. machine os (frame_stack fr ps) (state.LeadingArrow r)) x)) (sym s.is)
    (record { places = ps; emits = s.emits; stack = refl; state = refl })
arrow_follows r fr (operand_wanted w) ps os h = tt
arrow_follows r fr (leading_dot d c g e) ps os h = tt
arrow_follows r fr (leading_arrow q e) ps os h = tt
arrow_follows r fr (leading_brackets l x q e) ps os h = tt
arrow_follows r fr (leading_slots l s d q e) ps os h = tt

closed_follows : (b : ℕ) (fr : List Frame) (e : Expr) (ps : List ℕ) (os : List (Option Operation)) → Emits fr ps (operations e) os → Follows (at_open b fr (expression e)) (closed_group b os (frame_stack fr ps))
closed_follows b [] e ps os h = tt
closed_follows b (open_group r w ∷ fr) e ps os h =
    let p : Operation = op.Group (brackets b r) in
    completed_Represents w (group b e r) fr ps (os ++ Some p ∷ [])
    (Emits-same fr ps ((wanted_operations w ++ operations e) ++ p ∷ []) (wanted_operations w ++ (operations e ++ p ∷ [])) (os ++ Some p ∷ []) (append_assoc (wanted_operations w) (operations e) (p ∷ [])) (Emits-append fr ps (wanted_operations w ++ operations e) os (Some p ∷ []) h))
closed_follows b (open_index r t w ∷ fr) e ps os h = tt
closed_follows b (open_axis_or_index r x ∷ fr) e ps os h = tt
closed_follows b (open_indexed_assignment r t a x ∷ fr) e ps os h = tt

open_follows : (b : ℕ) (fr : List Frame) (l : Level) (ps : List ℕ) (os : List (Option Operation)) → EmitsLevel fr l ps os → Follows (at_open b fr l) (with_open_paren os (level_stack fr l ps) (level_state l ps) b)
open_follows b fr (expression e) ps os h =
    let s : HasExpressionOperations fr ps e os = has_expression_operations fr ps e os h in
    subst (λ (x : Option (List (Option Operation))). Follows (at_open b fr (expression e)) (option_and_then (λ os. closed_group b os (frame_stack fr ps)) x)) (sym s.is)
    (closed_follows b fr e ps s.all s.emits)
open_follows b [] _ ps os h = tt
open_follows b (open_group r w ∷ fr) _ ps os h = tt
open_follows b (open_index r t w ∷ fr) _ ps os h = tt
open_follows b (open_axis_or_index r x ∷ fr) _ ps os h = tt
open_follows b (open_indexed_assignment r t a x ∷ fr) _ ps os h = tt

join-operations : (t : Tail) (s : Slot) → tail_operations t ++ slot_operations s ≡ list_operations (join t s)
join-operations no_slots s = refl
join-operations (slots k ss) s = refl

join-semicolons : (t : Tail) (s : Slot) → tail_columns t ≡ semicolons (join t s)
join-semicolons no_slots s = refl
join-semicolons (slots k ss) s = refl

abbrev is_nothing : Slot → Bool
is_nothing nothing = true
is_nothing (given e) = false

-- a semicolon on the left of a slot
parted_follows : (k : ℕ) (fr : List Frame) (s : Slot) (ps : List ℕ) (os : List (Option Operation)) → Emits fr ps (slot_operations s) os → Follows (at_semicolon k fr (Some s)) (with_next_slot k os (frame_stack fr ps))
parted_follows k [] s ps os h = tt
parted_follows k (open_group r w ∷ fr) s ps os h = tt
parted_follows k (open_index c t w ∷ fr) s ps os h = record {
  places = ps;
  emits = Emits-same fr ps (wanted_operations w ++ (tail_operations t ++ slot_operations s)) (wanted_operations w ++ (list_operations (join t s) ++ [])) os (ap (λ x. wanted_operations w ++ x) (join-operations t s ∙ sym (append-nil (list_operations (join t s))))) h;
  stack = ap (λ cs. pending.Index c (cs ++ k ∷ []) ∷ wanted_stack w (frame_stack fr ps)) (join-semicolons t s);
  state = refl;
}
parted_follows k (open_axis_or_index c (monadic f a e) ∷ fr) s ps os h = by_counterpart (dyadic_counterpart f (has_axis a))
  where
    by_counterpart : (g : Option DyadicForm) → Follows (sliced_by fr k c s (option_map (applied_by a e) g)) (option_map (λ es. machine os (pending.Index c (k ∷ []) ∷ es) state.OperandWanted) (option_map (with_function_pending (axis_brackets a) (frame_stack fr (other_places ps))) g))
    by_counterpart (Some g) = record {
      places = other_places ps;
      emits = Emits-same fr (other_places ps) ((operations e ++ axis_operations a) ++ slot_operations s) ((operations e ++ axis_operations a) ++ (slot_operations s ++ [])) os (ap (λ x. (operations e ++ axis_operations a) ++ x) (sym (append-nil (slot_operations s)))) (index_Emits fr ps c (monadic f a e) (slot_operations s) os h);
      stack = refl;
      state = refl;
    }
    by_counterpart None = tt
parted_follows k (open_axis_or_index c (value o) ∷ fr) s ps os h = tt
parted_follows k (open_axis_or_index c (dyadic o f a e) ∷ fr) s ps os h = tt
parted_follows k (open_axis_or_index c (assign d n r e) ∷ fr) s ps os h = tt
parted_follows k (open_axis_or_index c (assign_at d n l t q r e) ∷ fr) s ps os h = tt
parted_follows k (open_indexed_assignment c t r e ∷ fr) s ps os h = record {
  places = ps;
  emits = Emits-same fr ps (operations e ++ (tail_operations t ++ slot_operations s)) (operations e ++ (list_operations (join t s) ++ [])) os (ap (λ x. operations e ++ x) (join-operations t s ∙ sym (append-nil (list_operations (join t s))))) h;
  stack = ap (λ cs. pending.IndexedAssignment c (cs ++ k ∷ []) r ∷ frame_stack fr ps) (join-semicolons t s);
  state = refl;
}

-- a bracket on the left of a slot
list_follows : (b : ℕ) (fr : List Frame) (s : Slot) (ps : List ℕ) (os : List (Option Operation)) → Emits fr ps (slot_operations s) os → Follows (at_open_bracket b fr (Some s)) (closed_list (is_nothing s) b os (frame_stack fr ps))
list_follows b [] nothing ps os h = tt
list_follows b [] (given x) ps os h = tt
list_follows b (open_group r w ∷ fr) nothing ps os h = tt
list_follows b (open_group r w ∷ fr) (given x) ps os h = tt
list_follows b (open_index c t w ∷ fr) s ps os h = sliced_follows s (is_nothing s) h
  where
    sliced_follows : (s : Slot) (n : Bool) → Emits (open_index c t w ∷ fr) ps (slot_operations s) os → Follows (at_open_bracket b (open_index c t w ∷ fr) (Some s)) (closed_list n b os (frame_stack (open_index c t w ∷ fr) ps))
    sliced_follows s n h = record {
      places = ps;
      emits = Emits-same fr ps (wanted_operations w ++ (tail_operations t ++ slot_operations s)) (wanted_operations w ++ list_operations (join t s)) os (ap (λ x. wanted_operations w ++ x) (join-operations t s)) h;
      stack = ap (λ cs. pending.Operation (op.Index cs (brackets b c)) ∷ wanted_stack w (frame_stack fr ps)) (join-semicolons t s);
      state = refl;
    }
list_follows b (open_axis_or_index c e ∷ fr) (given x) ps os h = record { places = ps; emits = h; stack = refl; state = refl }
list_follows b (open_axis_or_index c (monadic f a e) ∷ fr) nothing ps os h = by_counterpart (dyadic_counterpart f (has_axis a))
  where
    by_counterpart : (g : Option DyadicForm) → Follows (wanted_by fr (indexed_by b (last nothing) c (option_map (applied_by a e) g))) (option_map (λ es. machine os (with_index (brackets b c) es) state.OperandWanted) (option_map (with_function_pending (axis_brackets a) (frame_stack fr (other_places ps))) g))
    by_counterpart (Some g) = record { places = other_places ps; emits = index_Emits fr ps c (monadic f a e) (op.EmptySlot ∷ []) os h; stack = refl; state = refl }
    by_counterpart None = tt
list_follows b (open_axis_or_index c (value o) ∷ fr) nothing ps os h = tt
list_follows b (open_axis_or_index c (dyadic o f a e) ∷ fr) nothing ps os h = tt
list_follows b (open_axis_or_index c (assign d n r e) ∷ fr) nothing ps os h = tt
list_follows b (open_axis_or_index c (assign_at d n l t q r e) ∷ fr) nothing ps os h = tt
list_follows b (open_indexed_assignment c t r e ∷ fr) s ps os h = record {
  places = ps;
  emits = Emits-same fr ps (operations e ++ (tail_operations t ++ slot_operations s)) (operations e ++ list_operations (join t s)) os (ap (λ x. operations e ++ x) (join-operations t s)) h;
  stack = refl;
  state = ap (λ cs. state.LeadingSlots cs (brackets b c) r) (join-semicolons t s);
}

-- the slot that ends here
record SlotEnds (fr : List Frame) (ps : List ℕ) (s : Slot) (st : State) (os : List (Option Operation)) : Type 0 where
  all : List (Option Operation)
  is : with_slot os st ≡ Some all
  emits : Emits fr ps (slot_operations s) all
  empty : is_empty_slot st ≡ is_nothing s

given_slot : (fr : List Frame) (ps : List ℕ) (e : Expr) (os : List (Option Operation)) → Emits fr ps (undecided_operations e) os → SlotEnds fr ps (given e) (expression_state e) os
given_slot fr ps (monadic f a e) os h = let s : HasExpressionOperations fr ps (monadic f a e) os = has_expression_operations fr ps (monadic f a e) os h in record { all = s.all; is = s.is; emits = s.emits; empty = refl }
given_slot fr ps (value o) os h = record { all = os; is = refl; emits = h; empty = refl }
given_slot fr ps (dyadic o f a e) os h = record { all = os; is = refl; emits = h; empty = refl }
given_slot fr ps (assign c n r e) os h = record { all = os; is = refl; emits = h; empty = refl }
given_slot fr ps (assign_at c n l s d r e) os h = record { all = os; is = refl; emits = h; empty = refl }

semicolon_slot : (k : ℕ) (fr : List Frame) (s : Slot) (st : State) (ps : List ℕ) (os : List (Option Operation)) → SlotEnds fr ps s st os → Follows (at_semicolon k fr (Some s)) (with_semicolon os (frame_stack fr ps) st k)
semicolon_slot k fr s st ps os z =
    subst (λ (x : Option (List (Option Operation))). Follows (at_semicolon k fr (Some s)) (option_and_then (λ os. with_next_slot k os (frame_stack fr ps)) x)) (sym z.is)
    (parted_follows k fr s ps z.all z.emits)

open_bracket_slot : (b : ℕ) (fr : List Frame) (s : Slot) (st : State) (ps : List ℕ) (os : List (Option Operation)) → SlotEnds fr ps s st os → Follows (at_open_bracket b fr (Some s)) (with_open_bracket os (frame_stack fr ps) st b)
open_bracket_slot b fr s st ps os z =
    subst (λ (x : Option (List (Option Operation))). Follows (at_open_bracket b fr (Some s)) (option_and_then (λ os. closed_list (is_empty_slot st) b os (frame_stack fr ps)) x)) (sym z.is)
    (subst (λ (n : Bool). Follows (at_open_bracket b fr (Some s)) (closed_list n b z.all (frame_stack fr ps))) (sym z.empty)
    (list_follows b fr s ps z.all z.emits))

empty_slot : (fr : List Frame) (ps : List ℕ) (os : List (Option Operation)) → Emits fr ps [] os → SlotEnds fr ps nothing state.OperandWanted os
empty_slot fr ps os h = record { all = os ++ Some op.EmptySlot ∷ []; is = refl; emits = Emits-append fr ps [] os (Some op.EmptySlot ∷ []) h; empty = refl }

semicolon_follows : (k : ℕ) (fr : List Frame) (l : Level) (ps : List ℕ) (os : List (Option Operation)) → EmitsLevel fr l ps os → Follows (at_semicolon k fr (slot_of l)) (with_semicolon os (level_stack fr l ps) (level_state l ps) k)
semicolon_follows k fr (expression e) ps os h = semicolon_slot k fr (given e) (expression_state e) ps os (given_slot fr ps e os h)
semicolon_follows k fr (operand_wanted alone) ps os h = semicolon_slot k fr nothing state.OperandWanted ps os (empty_slot fr ps os h)
semicolon_follows k fr (operand_wanted (applied_to f a e)) ps os h = rw no_slot_semicolon tt
semicolon_follows k fr (operand_wanted (indexed w l s r)) ps os h = rw no_slot_semicolon tt
semicolon_follows k fr (leading_dot d c g e) ps os h = rw no_slot_semicolon tt
semicolon_follows k fr (leading_arrow r e) ps os h = rw no_slot_semicolon tt
semicolon_follows k fr (leading_brackets l x r e) ps os h = rw no_slot_semicolon tt
semicolon_follows k fr (leading_slots l s d r e) ps os h = rw no_slot_semicolon tt

open_bracket_follows : (b : ℕ) (fr : List Frame) (l : Level) (ps : List ℕ) (os : List (Option Operation)) → EmitsLevel fr l ps os → Follows (at_open_bracket b fr (slot_of l)) (with_open_bracket os (level_stack fr l ps) (level_state l ps) b)
open_bracket_follows b fr (expression e) ps os h = open_bracket_slot b fr (given e) (expression_state e) ps os (given_slot fr ps e os h)
open_bracket_follows b fr (operand_wanted alone) ps os h = open_bracket_slot b fr nothing state.OperandWanted ps os (empty_slot fr ps os h)
open_bracket_follows b fr (operand_wanted (applied_to f a e)) ps os h = rw no_slot_open tt
open_bracket_follows b fr (operand_wanted (indexed w l s r)) ps os h = rw no_slot_open tt
open_bracket_follows b fr (leading_dot d c g e) ps os h = rw no_slot_open tt
open_bracket_follows b fr (leading_arrow r e) ps os h = rw no_slot_open tt
open_bracket_follows b fr (leading_brackets l x r e) ps os h = rw no_slot_open tt
open_bracket_follows b fr (leading_slots l s d r e) ps os h = rw no_slot_open tt

kind_follows : (c : ℕ) (x : TokenKind) (fr : List Frame) (l : Level) (ps : List ℕ) (os : List (Option Operation)) → EmitsLevel fr l ps os → Follows (partial.step_kind c x fr l) (step_kind os (level_stack fr l ps) (level_state l ps) c x)
kind_follows c (kind.Constant v) fr l ps os h = operand_follows fr l ps os (constant c v) (op.Constant c v) refl h
kind_follows c (kind.Name n) fr l ps os h = name_follows c n fr l ps os h
kind_follows c (kind.Function g) fr l ps os h = function_follows c g fr l ps os h
kind_follows c kind.Dot fr l ps os h = dot_follows c fr l ps os h
kind_follows c kind.Jot fr l ps os h = jot_follows c fr l ps os h
kind_follows c kind.Arrow fr l ps os h = arrow_follows c fr l ps os h
kind_follows c kind.OpenParen fr l ps os h = open_follows c fr l ps os h
kind_follows c kind.CloseParen fr l ps os h = close_follows c fr l ps os h
kind_follows c kind.OpenBracket fr l ps os h = open_bracket_follows c fr l ps os h
kind_follows c kind.CloseBracket fr l ps os h = close_bracket_follows c fr l ps os h
kind_follows c kind.Semicolon fr l ps os h = semicolon_follows c fr l ps os h

pub step_follows : (t : Token) (k : Config) (m : Machine) → Represents k m → Follows (partial.step t k) (step t m)
step_follows t k m h =
    let moved : step_kind m.operations (level_stack k.0 k.1 h.places) (level_state k.1 h.places) t.column t.kind ≡ step t m = rw (h.stack, h.state) refl in
    subst (λ (x : Option Machine). Follows (partial.step t k) x) moved (kind_follows t.column t.kind k.0 k.1 h.places m.operations h.emits)

pub run_follows : (ts : List Token) → Follows (partial.run ts) (run ts)
run_follows [] = record { places = []; emits = refl; stack = refl; state = refl }
run_follows (t ∷ ts) = by_run (partial.run ts) (run ts) (run_follows ts)
  where
    by_run : (k : Option Config) (m : Option Machine) → Follows k m → Follows (option_and_then (partial.step t) k) (option_and_then (step t) m)
    by_run None None h = tt
    by_run None (Some m) h = absurd h
    by_run (Some k) None h = absurd h
    by_run (Some k) (Some m) h = step_follows t k m h

-- the end of the tokens: an expression and no open bracket
abbrev pub Ends : List Frame → Level → Option (List Operation) → Type 0
Ends [] (expression e) r = r ≡ Some (operations e)
Ends _ _ r = r ≡ None

all_ended : (fr : List Frame) (e : Expr) (ps : List ℕ) (os : List (Option Operation)) → Emits fr ps (operations e) os → Ends fr (expression e) (when_nothing_pending os (frame_stack fr ps))
all_ended [] e ps os h = ap Some h
all_ended (open_group r w ∷ fr) e ps os h = refl
all_ended (open_index r t w ∷ fr) e ps os h = refl
all_ended (open_axis_or_index r x ∷ fr) e ps os h = refl
all_ended (open_indexed_assignment r t a x ∷ fr) e ps os h = refl

level_ends : (fr : List Frame) (l : Level) (ps : List ℕ) (os : List (Option Operation)) → EmitsLevel fr l ps os → Ends fr l (option_and_then (λ os. when_nothing_pending os (level_stack fr l ps)) (expression_operations os (level_state l ps)))
level_ends fr (expression e) ps os h =
    let s : HasExpressionOperations fr ps e os = has_expression_operations fr ps e os h in
    subst (λ (x : Option (List (Option Operation))). Ends fr (expression e) (option_and_then (λ os. when_nothing_pending os (frame_stack fr ps)) x)) (sym s.is)
    (all_ended fr e ps s.all s.emits)
level_ends [] _ ps os h = refl
level_ends (f ∷ fr) _ ps os h = refl

pub Ends-from_Represents : (k : Config) (m : Machine) → Represents k m → Ends k.0 k.1 (statement_operations m)
Ends-from_Represents k m h =
    let moved : option_and_then (λ os. when_nothing_pending os (level_stack k.0 k.1 h.places)) (expression_operations m.operations (level_state k.1 h.places)) ≡ statement_operations m = rw (h.stack, h.state) refl in
    subst (λ (x : Option (List Operation)). Ends k.0 k.1 x) moved (level_ends k.0 k.1 h.places m.operations h.emits)

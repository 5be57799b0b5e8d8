-- How the reader's machine represents partial trees: by the operations that it has emitted, its stack and its state.
use Rattle.std.proofs.Common.{◌≡◌, ◌++◌, ◌∷◌, [], List, Option, Some, None, refl, sym, ◌∙◌, ap, subst, append_assoc, length}
use Rattle.std.specs.Prelude.{ℕ, slice_set}
use Rattle.std.proofs.lemmas.List.{append-nil}
use Rattle.std.proofs.Math.Seq.{set-append_seam}
use Rattle.apl_grammar.specs.declared.program.Operation.{Operation}
use Rattle.apl_grammar.specs.declared.program.Operation.TheVariants as op
use Rattle.apl_grammar.specs.declared.reader.UndecidedFunction.{UndecidedFunction}
use Rattle.apl_grammar.specs.declared.reader.State.{State}
use Rattle.apl_grammar.specs.declared.reader.State.TheVariants as state
use Rattle.apl_grammar.specs.declared.reader.Pending.{Pending}
use Rattle.apl_grammar.specs.declared.reader.Pending.TheVariants as pending
use Rattle.apl_grammar.specs.Tree.{Expr, value, dyadic, monadic, assign, assign_at, Operand, index, brackets, axis_brackets, semicolons, operations, operand_operations, list_operations, axis_operations}
use Rattle.apl_grammar.specs.Automaton.{Machine, machine, without_empty_places, after_operand, with_monadic, expression_operations}
use Rattle.apl_grammar.proofs.Partial.{Wanted, alone, applied as applied_to, indexed, fill, Level, operand_wanted, expression, leading_dot, leading_arrow, leading_brackets, leading_slots, Tail, no_slots, slots, Frame, open_group, open_index, open_axis_or_index, open_indexed_assignment, Config}
use Rattle.apl_grammar.proofs.Emitted.{emitted-append}

-- the operations that are emitted while an operand is wanted, and those that wait for it
abbrev pub wanted_operations : Wanted → List Operation
wanted_operations alone = []
wanted_operations (applied_to f a e) = operations e ++ axis_operations a
wanted_operations (indexed w l s r) = wanted_operations w ++ list_operations s

abbrev pub wanted_stack : Wanted → List Pending → List Pending
wanted_stack alone es = es
wanted_stack (applied_to f a e) es = pending.Operation (op.Dyadic f (axis_brackets a)) ∷ es
wanted_stack (indexed w l s r) es = pending.Operation (op.Index (semicolons s) (brackets l r)) ∷ wanted_stack w es

-- what is emitted while nothing decides whether the function that begins the expression is monadic: all but that function
abbrev pub undecided_operations : Expr → List Operation
undecided_operations (monadic f a e) = operations e ++ axis_operations a
undecided_operations (value o) = operations (value o)
undecided_operations (dyadic o f a e) = operations (dyadic o f a e)
undecided_operations (assign c n r e) = operations (assign c n r e)
undecided_operations (assign_at c n l s d r e) = operations (assign_at c n l s d r e)

abbrev pub expression_state : Expr → State
expression_state (monadic f a e) = state.LeadingFunction f (axis_brackets a)
expression_state (value o) = state.Expression
expression_state (dyadic o f a e) = state.Expression
expression_state (assign c n r e) = state.Expression
expression_state (assign_at c n l s d r e) = state.Expression

abbrev pub undecided_of : Expr → ℕ → Option UndecidedFunction
undecided_of (monadic f a e) place = Some (record { function = f; axis = axis_brackets a; place = place })
undecided_of (value o) place = None
undecided_of (dyadic o f a e) place = None
undecided_of (assign c n r e) place = None
undecided_of (assign_at c n l s d r e) place = None

abbrev pub tail_operations : Tail → List Operation
tail_operations no_slots = []
tail_operations (slots k ss) = list_operations ss

abbrev pub tail_columns : Tail → List ℕ
tail_columns no_slots = []
tail_columns (slots k ss) = semicolons ss ++ k ∷ []

-- The places that are kept before brackets which hold an axis or an index, the innermost first.
abbrev pub first_place : List ℕ → ℕ
first_place [] = 0
first_place (p ∷ ps) = p

abbrev pub other_places : List ℕ → List ℕ
other_places [] = []
other_places (p ∷ ps) = ps

abbrev pub frame_stack : List Frame → List ℕ → List Pending
frame_stack [] ps = []
frame_stack (open_group r w ∷ fr) ps = pending.Group r ∷ wanted_stack w (frame_stack fr ps)
frame_stack (open_index r t w ∷ fr) ps = pending.Index r (tail_columns t) ∷ wanted_stack w (frame_stack fr ps)
frame_stack (open_axis_or_index r e ∷ fr) ps = pending.AxisOrIndex r (undecided_of e (first_place ps)) ∷ frame_stack fr (other_places ps)
frame_stack (open_indexed_assignment r t a e ∷ fr) ps = pending.IndexedAssignment r (tail_columns t) a ∷ frame_stack fr ps

-- The emitted operations are those of the open brackets and then these. Where a place is kept, the operations before
-- it are those on the right of its brackets.
abbrev pub Emits : List Frame → List ℕ → List Operation → List (Option Operation) → Type 0
Emits [] ps ops os = without_empty_places os ≡ ops
Emits (open_group r w ∷ fr) ps ops os = Emits fr ps (wanted_operations w ++ ops) os
Emits (open_index r t w ∷ fr) ps ops os = Emits fr ps (wanted_operations w ++ (tail_operations t ++ ops)) os
Emits (open_indexed_assignment r t a e ∷ fr) ps ops os = Emits fr ps (operations e ++ (tail_operations t ++ ops)) os
Emits (open_axis_or_index r (monadic f a e) ∷ fr) ps ops os =
    (below above : List (Option Operation)) × (os ≡ below ++ None ∷ above) × (without_empty_places above ≡ ops) × (first_place ps ≡ length below)
    × Emits fr (other_places ps) (operations e ++ axis_operations a) below
Emits (open_axis_or_index r (value o) ∷ fr) ps ops os = Emits fr (other_places ps) (operations (value o) ++ ops) os
Emits (open_axis_or_index r (dyadic o f a e) ∷ fr) ps ops os = Emits fr (other_places ps) (operations (dyadic o f a e) ++ ops) os
Emits (open_axis_or_index r (assign c n q e) ∷ fr) ps ops os = Emits fr (other_places ps) (operations (assign c n q e) ++ ops) os
Emits (open_axis_or_index r (assign_at c n l s d q e) ∷ fr) ps ops os = Emits fr (other_places ps) (operations (assign_at c n l s d q e) ++ ops) os

abbrev pub level_state : Level → List ℕ → State
level_state (operand_wanted w) ps = state.OperandWanted
level_state (expression e) ps = expression_state e
level_state (leading_dot d c g e) ps = state.LeadingDot d c g
level_state (leading_arrow r e) ps = state.LeadingArrow r
level_state (leading_brackets l x r e) ps = state.LeadingBrackets (brackets l r) (undecided_of e (first_place ps))
level_state (leading_slots l s d r e) ps = state.LeadingSlots (semicolons s) (brackets l d) r

abbrev pub level_stack : List Frame → Level → List ℕ → List Pending
level_stack fr (operand_wanted w) ps = wanted_stack w (frame_stack fr ps)
level_stack fr (expression e) ps = frame_stack fr ps
level_stack fr (leading_dot d c g e) ps = frame_stack fr ps
level_stack fr (leading_arrow r e) ps = frame_stack fr ps
level_stack fr (leading_brackets l x r e) ps = frame_stack fr (other_places ps)
level_stack fr (leading_slots l s d r e) ps = frame_stack fr ps

abbrev pub EmitsLevel : List Frame → Level → List ℕ → List (Option Operation) → Type 0
EmitsLevel fr (operand_wanted w) ps os = Emits fr ps (wanted_operations w) os
EmitsLevel fr (expression e) ps os = Emits fr ps (undecided_operations e) os
EmitsLevel fr (leading_dot d c g e) ps os = Emits fr ps (operations e) os
EmitsLevel fr (leading_arrow r e) ps os = Emits fr ps (operations e) os
EmitsLevel fr (leading_brackets l x r e) ps os = Emits (open_axis_or_index r e ∷ fr) ps (operations x) os
EmitsLevel fr (leading_slots l s d r e) ps os = Emits fr ps (operations e ++ list_operations s) os

-- the machine represents these partial trees
pub record Represents (k : Config) (m : Machine) : Type 0 where
  pub places : List ℕ
  pub emits : EmitsLevel k.0 k.1 places m.operations
  pub stack : m.stack ≡ level_stack k.0 k.1 places
  pub state : m.state ≡ level_state k.1 places

pub Emits-same : (fr : List Frame) (ps : List ℕ) (ops ops' : List Operation) (os : List (Option Operation)) → ops ≡ ops' → Emits fr ps ops os → Emits fr ps ops' os
Emits-same fr ps ops ops' os e h = subst (λ (x : List Operation). Emits fr ps x os) e h

pub Emits-nil : (fr : List Frame) (ps : List ℕ) (ops : List Operation) (os : List (Option Operation)) → Emits fr ps ops os → Emits fr ps (ops ++ []) os
Emits-nil fr ps ops os h = Emits-same fr ps ops (ops ++ []) os (sym (append-nil ops)) h

-- more operations
pub Emits-append : (fr : List Frame) (ps : List ℕ) (ops : List Operation) (os added : List (Option Operation)) → Emits fr ps ops os → Emits fr ps (ops ++ without_empty_places added) (os ++ added)
Emits-append [] ps ops os added h = emitted-append os added ∙ ap (λ x. x ++ without_empty_places added) h
Emits-append (open_group r w ∷ fr) ps ops os added h =
    Emits-same fr ps ((wanted_operations w ++ ops) ++ without_empty_places added) (wanted_operations w ++ (ops ++ without_empty_places added)) (os ++ added) (simp append_assoc)
    (Emits-append fr ps (wanted_operations w ++ ops) os added h)
Emits-append (open_index r t w ∷ fr) ps ops os added h =
    Emits-same fr ps ((wanted_operations w ++ (tail_operations t ++ ops)) ++ without_empty_places added) (wanted_operations w ++ (tail_operations t ++ (ops ++ without_empty_places added))) (os ++ added) (simp append_assoc)
    (Emits-append fr ps (wanted_operations w ++ (tail_operations t ++ ops)) os added h)
Emits-append (open_indexed_assignment r t a e ∷ fr) ps ops os added h =
    Emits-same fr ps ((operations e ++ (tail_operations t ++ ops)) ++ without_empty_places added) (operations e ++ (tail_operations t ++ (ops ++ without_empty_places added))) (os ++ added) (simp append_assoc)
    (Emits-append fr ps (operations e ++ (tail_operations t ++ ops)) os added h)
Emits-append (open_axis_or_index r (monadic f a e) ∷ fr) ps ops os added (below, above, split, rest, place, h) =
    (below, above ++ added, ap (λ x. x ++ added) split ∙ append_assoc below (None ∷ above) added, emitted-append above added ∙ ap (λ x. x ++ without_empty_places added) rest, place, h)
Emits-append (open_axis_or_index r (value o) ∷ fr) ps ops os added h =
    Emits-same fr (other_places ps) ((operations (value o) ++ ops) ++ without_empty_places added) (operations (value o) ++ (ops ++ without_empty_places added)) (os ++ added) (append_assoc (operations (value o)) ops (without_empty_places added))
    (Emits-append fr (other_places ps) (operations (value o) ++ ops) os added h)
Emits-append (open_axis_or_index r (dyadic o f a e) ∷ fr) ps ops os added h =
    Emits-same fr (other_places ps) ((operations (dyadic o f a e) ++ ops) ++ without_empty_places added) (operations (dyadic o f a e) ++ (ops ++ without_empty_places added)) (os ++ added) (append_assoc (operations (dyadic o f a e)) ops (without_empty_places added))
    (Emits-append fr (other_places ps) (operations (dyadic o f a e) ++ ops) os added h)
Emits-append (open_axis_or_index r (assign c n q e) ∷ fr) ps ops os added h =
    Emits-same fr (other_places ps) ((operations (assign c n q e) ++ ops) ++ without_empty_places added) (operations (assign c n q e) ++ (ops ++ without_empty_places added)) (os ++ added) (append_assoc (operations (assign c n q e)) ops (without_empty_places added))
    (Emits-append fr (other_places ps) (operations (assign c n q e) ++ ops) os added h)
Emits-append (open_axis_or_index r (assign_at c n l s d q e) ∷ fr) ps ops os added h =
    Emits-same fr (other_places ps) ((operations (assign_at c n l s d q e) ++ ops) ++ without_empty_places added) (operations (assign_at c n l s d q e) ++ (ops ++ without_empty_places added)) (os ++ added) (append_assoc (operations (assign_at c n l s d q e)) ops (without_empty_places added))
    (Emits-append fr (other_places ps) (operations (assign_at c n l s d q e) ++ ops) os added h)

-- the brackets hold an index: the place stays empty
pub index_Emits : (fr : List Frame) (ps : List ℕ) (r : ℕ) (e : Expr) (ops : List Operation) (os : List (Option Operation)) → Emits (open_axis_or_index r e ∷ fr) ps ops os → Emits fr (other_places ps) (undecided_operations e ++ ops) os
index_Emits fr ps r (monadic f a e) ops os (below, above, split, rest, place, h) =
    let put : Emits fr (other_places ps) ((operations e ++ axis_operations a) ++ without_empty_places above) (below ++ None ∷ above) = Emits-append fr (other_places ps) (operations e ++ axis_operations a) below (None ∷ above) h in
    subst (λ (x : List (Option Operation)). Emits fr (other_places ps) ((operations e ++ axis_operations a) ++ ops) x) (sym split)
    (Emits-same fr (other_places ps) ((operations e ++ axis_operations a) ++ without_empty_places above) ((operations e ++ axis_operations a) ++ ops) (below ++ None ∷ above) (ap (λ x. (operations e ++ axis_operations a) ++ x) rest) put)
index_Emits fr ps r (value o) ops os h = h
index_Emits fr ps r (dyadic o f a e) ops os h = h
index_Emits fr ps r (assign c n q e) ops os h = h
index_Emits fr ps r (assign_at c n l s d q e) ops os h = h

-- the brackets hold an axis: the function before them is monadic
pub axis_Emits : (fr : List Frame) (ps : List ℕ) (r : ℕ) (e : Expr) (ops : List Operation) (os : List (Option Operation)) → Emits (open_axis_or_index r e ∷ fr) ps ops os → Emits fr (other_places ps) (operations e ++ ops) (with_monadic os (undecided_of e (first_place ps)))
axis_Emits fr ps r (monadic f a e) ops os (below, above, split, rest, place, h) =
    let m : Operation = op.Monadic f (axis_brackets a) in
    let put : Emits fr (other_places ps) ((operations e ++ axis_operations a) ++ m ∷ without_empty_places above) (below ++ Some m ∷ above) = Emits-append fr (other_places ps) (operations e ++ axis_operations a) below (Some m ∷ above) h in
    let regrouped : (operations e ++ axis_operations a) ++ m ∷ ops ≡ (operations e ++ (axis_operations a ++ m ∷ [])) ++ ops = simp append_assoc in
    let stands : slice_set os (first_place ps) (Some m) ≡ below ++ Some m ∷ above = ap (λ x. slice_set x (first_place ps) (Some m)) split ∙ ap (λ p. slice_set (below ++ None ∷ above) p (Some m)) place ∙ set-append_seam below None above (Some m) in
    subst (λ (x : List (Option Operation)). Emits fr (other_places ps) ((operations e ++ (axis_operations a ++ m ∷ [])) ++ ops) x) (sym stands)
    (Emits-same fr (other_places ps) ((operations e ++ axis_operations a) ++ m ∷ without_empty_places above) ((operations e ++ (axis_operations a ++ m ∷ [])) ++ ops) (below ++ Some m ∷ above) (ap (λ x. (operations e ++ axis_operations a) ++ m ∷ x) rest ∙ regrouped) put)
axis_Emits fr ps r (value o) ops os h = h
axis_Emits fr ps r (dyadic o f a e) ops os h = h
axis_Emits fr ps r (assign c n q e) ops os h = h
axis_Emits fr ps r (assign_at c n l s d q e) ops os h = h

-- no operation waits in front of an open bracket
frames_complete : (fr : List Frame) (ps : List ℕ) (os : List (Option Operation)) → after_operand os (frame_stack fr ps) ≡ machine os (frame_stack fr ps) state.Expression
frames_complete [] ps os = refl
frames_complete (open_group r w ∷ fr) ps os = refl
frames_complete (open_index r t w ∷ fr) ps os = refl
frames_complete (open_axis_or_index r e ∷ fr) ps os = refl
frames_complete (open_indexed_assignment r t a e ∷ fr) ps os = refl

-- an operand ends
pub completed_Represents : (w : Wanted) (o : Operand) (fr : List Frame) (ps : List ℕ) (os : List (Option Operation)) → Emits fr ps (wanted_operations w ++ operand_operations o) os → Represents (fr, expression (fill w o)) (after_operand os (wanted_stack w (frame_stack fr ps)))
completed_Represents alone o fr ps os h =
    subst (Represents (fr, expression (value o))) (sym (frames_complete fr ps os)) (record { places = ps; emits = h; stack = refl; state = refl })
completed_Represents (applied_to f a e) o fr ps os h =
    let last_one : Operation = op.Dyadic f (axis_brackets a) in
    let regrouped : ((operations e ++ axis_operations a) ++ operand_operations o) ++ last_one ∷ [] ≡ operations e ++ (axis_operations a ++ (operand_operations o ++ last_one ∷ [])) = simp append_assoc in
    let all : List (Option Operation) = os ++ Some last_one ∷ [] in
    subst (Represents (fr, expression (dyadic o f a e))) (sym (frames_complete fr ps all))
    (record {
      places = ps;
      emits = Emits-same fr ps (((operations e ++ axis_operations a) ++ operand_operations o) ++ last_one ∷ []) (operations e ++ (axis_operations a ++ (operand_operations o ++ last_one ∷ []))) all regrouped (Emits-append fr ps ((operations e ++ axis_operations a) ++ operand_operations o) os (Some last_one ∷ []) h);
      stack = refl;
      state = refl;
    })
completed_Represents (indexed w l s r) o fr ps os h =
    let last_one : Operation = op.Index (semicolons s) (brackets l r) in
    let regrouped : ((wanted_operations w ++ list_operations s) ++ operand_operations o) ++ last_one ∷ [] ≡ wanted_operations w ++ (list_operations s ++ (operand_operations o ++ last_one ∷ [])) = simp append_assoc in
    let all : List (Option Operation) = os ++ Some last_one ∷ [] in
    completed_Represents w (index o l s r) fr ps all
    (Emits-same fr ps (((wanted_operations w ++ list_operations s) ++ operand_operations o) ++ last_one ∷ []) (wanted_operations w ++ (list_operations s ++ (operand_operations o ++ last_one ∷ []))) all regrouped (Emits-append fr ps ((wanted_operations w ++ list_operations s) ++ operand_operations o) os (Some last_one ∷ []) h))

-- the operations once the function that begins the expression is emitted
pub record HasExpressionOperations (fr : List Frame) (ps : List ℕ) (e : Expr) (os : List (Option Operation)) : Type 0 where
  pub all : List (Option Operation)
  pub is : expression_operations os (expression_state e) ≡ Some all
  pub emits : Emits fr ps (operations e) all

pub has_expression_operations : (fr : List Frame) (ps : List ℕ) (e : Expr) (os : List (Option Operation)) → Emits fr ps (undecided_operations e) os → HasExpressionOperations fr ps e os
has_expression_operations fr ps (monadic f a e) os h =
    let m : Operation = op.Monadic f (axis_brackets a) in
    record {
      all = os ++ Some m ∷ [];
      is = refl;
      emits = Emits-same fr ps ((operations e ++ axis_operations a) ++ m ∷ []) (operations e ++ (axis_operations a ++ m ∷ [])) (os ++ Some m ∷ []) (append_assoc (operations e) (axis_operations a) (m ∷ [])) (Emits-append fr ps (operations e ++ axis_operations a) os (Some m ∷ []) h);
    }
has_expression_operations fr ps (value o) os h = record { all = os; is = refl; emits = h }
has_expression_operations fr ps (dyadic o f a e) os h = record { all = os; is = refl; emits = h }
has_expression_operations fr ps (assign c n r e) os h = record { all = os; is = refl; emits = h }
has_expression_operations fr ps (assign_at c n l s d r e) os h = record { all = os; is = refl; emits = h }

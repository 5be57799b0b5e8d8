-- The operations of a tree, carried out one after another, come to the tree's meaning.
use Rattle.std.proofs.Common.{◌≡◌, ◌≢◌, ◌+◌, ◌<◌, ◌≤◌, ℕ, List, [], ◌∷◌, ◌++◌, length, drop, get_or, refl, sym, ◌∙◌, ap, subst, append_assoc, drop-cons, add-one, Option, Some, None, Result, Ok, Err, arith}
use Rattle.std.specs.FinMap.{empty}
use Rattle.std.proofs.lemmas.List.{append-nil, drop_all, length-append}
use Rattle.apl_array.specs.Array.{ArrayValue}
use Rattle.apl_grammar.specs.declared.program.IndexedName.{IndexedName}
use Rattle.apl_grammar.specs.declared.program.Operation.{Operation}
use Rattle.apl_grammar.specs.declared.program.Operation.TheVariants as op
use Rattle.apl_grammar.specs.Tree.{Expr, value, dyadic, monadic, assign, assign_at, Operand, constant, name, group, index, Slots, last, more, Slot, nothing, given, none, along, brackets, indexed_name, semicolons, operations, operand_operations, list_operations, slot_operations, IsProgram}
use Rattle.apl_print.specs.declared.reports.Report.{Report}
use Rattle.apl_eval.specs.Workspace.{NameValues, WorkspaceValue}
use Rattle.apl_eval.specs.Meaning.{Outcome, Evaluation, done, failed, then, index_outcome, assign_at_outcome, meaning_of, meaning_of_operand, meaning_of_slots, meaning_of_slot}
use Rattle.apl_eval.specs.Evaluates.{Evaluates}
use Rattle.apl_eval.specs.Steps.{Item, State, HasValue, leaves, waiting, ended, stuck, onto, with_value, step, go_on, steps, last_assign_at, staged_in, IsState}
use Rattle.apl_eval.proofs.StackLemmas.{with_slots-above, staged_in-empty}
use Rattle.apl_eval.specs.declared.statement.EvalStop.{EvalStop}
use Rattle.apl_eval.specs.declared.statement.EvalStop.TheVariants.{Error, Memory}

-- What an outcome leaves goes on as what comes next does, if it does so after each value.
after : {V U : Type 0} (m : Outcome V) (before : V → List Item) (behind : U → List Item) (next : V → WorkspaceValue → Outcome U) (here there : List Item → WorkspaceValue → State)
    → ((v : V) (u : WorkspaceValue) → here (before v) u ≡ go_on (leaves behind (next v u)) there)
    → go_on (leaves before m) here ≡ go_on (leaves behind (then m next)) there
after (done v u) before behind next here there h = h v u
after (failed report column u) before behind next here there h = refl

after_axis : {U : Type 0} (m : Outcome ArrayValue) (before : ArrayValue → List Item) (behind : U → List Item) (next : Option ArrayValue → WorkspaceValue → Outcome U) (here there : List Item → WorkspaceValue → State)
    → ((v : ArrayValue) (u : WorkspaceValue) → here (before v) u ≡ go_on (leaves behind (next (Some v) u)) there)
    → go_on (leaves before m) here ≡ go_on (leaves behind (then (then m (λ v u. done (Some v) u)) next)) there
after_axis (done v u) before behind next here there h = h v u
after_axis (failed report column u) before behind next here there h = refl

-- Of a list there are as many slots as semicolons, and one more.
abbrev IsSlotCount : Slots → Outcome (List Item) → Type 0
IsSlotCount s (done slots w) = length slots ≡ length (semicolons s) + 1
IsSlotCount s (failed report column w) = Unit {0}

one_slot : (s : Slot) (m : Outcome Item) → IsSlotCount (last s) (then m (λ slot u. done (slot ∷ []) u))
one_slot s (done slot u) = refl
one_slot s (failed report column u) = tt

one_more_slot : (s : Slot) (c : ℕ) (ss : Slots) (slots : List Item) (m : Outcome Item) → length slots ≡ length (semicolons ss) + 1
    → IsSlotCount (more s c ss) (then m (λ slot v. done (slot ∷ slots) v))
one_more_slot s c ss slots (done slot v) count = omega (arith, length-append (semicolons ss) (c ∷ []))
one_more_slot s c ss slots (failed report column v) count = tt

more_slots : (s : Slot) (c : ℕ) (ss : Slots) (m : Outcome (List Item)) → IsSlotCount ss m
    → IsSlotCount (more s c ss) (then m (λ slots u. then (meaning_of_slot s u) (λ slot v. done (slot ∷ slots) v)))
more_slots s c ss (done slots u) count = one_more_slot s c ss slots (meaning_of_slot s u) count
more_slots s c ss (failed report column u) count = tt

slot_count : (s : Slots) (w : WorkspaceValue) → IsSlotCount s (meaning_of_slots s w)
slot_count (last s) w = one_slot s (meaning_of_slot s w)
slot_count (more s c ss) w = more_slots s c ss (meaning_of_slots ss w) (slot_count ss w)

-- The slots are taken from the stack.
after_slots : {U : Type 0} (s : Slots) (m : Outcome (List Item)) → IsSlotCount s m → (below : List Item) (behind : U → List Item) (next : List Item → Evaluation U) (here there : List Item → WorkspaceValue → State)
    → ((slots : List Item) (u : WorkspaceValue) → length slots ≡ length (semicolons s) + 1 → here (slots ++ below) u ≡ go_on (leaves behind (next slots u)) there)
    → go_on (leaves (λ slots. slots ++ below) m) here ≡ go_on (leaves behind (then m next)) there
after_slots s (done slots u) count below behind next here there h = h slots u count
after_slots s (failed report column u) count below behind next here there h = refl

mutual
  steps-operations : (e : Expr) (rest : List Operation) (below : List Item) (w : WorkspaceValue) → steps (operations e ++ rest) below w ≡ go_on (onto below (meaning_of e w)) (steps rest)
  steps-operations (value o) rest below w = steps-operand o rest below w
  steps-operations (dyadic o f none e) rest below w =
      let last_one : Operation = op.Dyadic f None in
      let regrouped : (operations e ++ (operand_operations o ++ last_one ∷ [])) ++ rest ≡ operations e ++ (operand_operations o ++ last_one ∷ rest) = simp append_assoc in
      ap (λ os. steps os below w) regrouped
      ∙ steps-operations e (operand_operations o ++ last_one ∷ rest) below w
      ∙ after (meaning_of e w) _ _ _ _ _ (λ b u. steps-operand o (last_one ∷ rest) (Some b ∷ below) u ∙ after (meaning_of_operand o u) _ _ _ _ _ (λ a x. refl))
  steps-operations (dyadic o f (along l x r) e) rest below w =
      let last_one : Operation = op.Dyadic f (Some (brackets l r)) in
      let regrouped : (operations e ++ (operations x ++ (operand_operations o ++ last_one ∷ []))) ++ rest ≡ operations e ++ (operations x ++ (operand_operations o ++ last_one ∷ rest)) = simp append_assoc in
      ap (λ os. steps os below w) regrouped
      ∙ steps-operations e (operations x ++ (operand_operations o ++ last_one ∷ rest)) below w
      ∙ after (meaning_of e w) _ _ _ _ _ (λ b u.
      steps-operations x (operand_operations o ++ last_one ∷ rest) (Some b ∷ below) u
      ∙ after_axis (meaning_of x u) _ _ _ _ _ (λ v t.
      steps-operand o (last_one ∷ rest) (Some v ∷ Some b ∷ below) t
      ∙ after (meaning_of_operand o t) _ _ _ _ _ (λ a s. refl)))
  steps-operations (monadic f none e) rest below w =
      let last_one : Operation = op.Monadic f None in
      ap (λ os. steps os below w) (append_assoc (operations e) (last_one ∷ []) rest)
      ∙ steps-operations e (last_one ∷ rest) below w
      ∙ after (meaning_of e w) _ _ _ _ _ (λ b u. refl)
  steps-operations (monadic f (along l x r) e) rest below w =
      let last_one : Operation = op.Monadic f (Some (brackets l r)) in
      let regrouped : (operations e ++ (operations x ++ last_one ∷ [])) ++ rest ≡ operations e ++ (operations x ++ last_one ∷ rest) = simp append_assoc in
      ap (λ os. steps os below w) regrouped
      ∙ steps-operations e (operations x ++ last_one ∷ rest) below w
      ∙ after (meaning_of e w) _ _ _ _ _ (λ b u.
      steps-operations x (last_one ∷ rest) (Some b ∷ below) u
      ∙ after_axis (meaning_of x u) _ _ _ _ _ (λ v t. refl))
  steps-operations (assign c n r e) rest below w =
      ap (λ os. steps os below w) (append_assoc (operations e) (op.Assign c n r ∷ []) rest)
      ∙ steps-operations e (op.Assign c n r ∷ rest) below w
      ∙ after (meaning_of e w) _ _ _ _ _ (λ b u. refl)
  steps-operations (assign_at c n l s r a e) rest below w =
      let last_one : Operation = op.AssignAt (indexed_name c n (semicolons s) (brackets l r) a) in
      let regrouped : (operations e ++ (list_operations s ++ last_one ∷ [])) ++ rest ≡ operations e ++ (list_operations s ++ last_one ∷ rest) = simp append_assoc in
      ap (λ os. steps os below w) regrouped
      ∙ steps-operations e (list_operations s ++ last_one ∷ rest) below w
      ∙ after (meaning_of e w) _ _ _ _ _ (λ b u.
      steps-slots s (last_one ∷ rest) (Some b ∷ below) u
      ∙ after_slots s (meaning_of_slots s u) (slot_count s u) (Some b ∷ below) _ _ _ _ (λ slots v count. ap (λ state. go_on state (steps rest))
      (with_slots-above (length (semicolons s) + 1) slots (Some b ∷ below)
      (λ slots items. with_value items (λ right below. onto below (assign_at_outcome c n a slots right v))) count)))

  steps-operand : (o : Operand) (rest : List Operation) (below : List Item) (w : WorkspaceValue) → steps (operand_operations o ++ rest) below w ≡ go_on (onto below (meaning_of_operand o w)) (steps rest)
  steps-operand (constant c v) rest below w = refl
  steps-operand (name c n) rest below w = refl
  steps-operand (group l e r) rest below w =
      ap (λ os. steps os below w) (append_assoc (operations e) (op.Group (brackets l r) ∷ []) rest)
      ∙ steps-operations e (op.Group (brackets l r) ∷ rest) below w
  steps-operand (index o l s r) rest below w =
      let last_one : Operation = op.Index (semicolons s) (brackets l r) in
      let regrouped : (list_operations s ++ (operand_operations o ++ last_one ∷ [])) ++ rest ≡ list_operations s ++ (operand_operations o ++ last_one ∷ rest) = simp append_assoc in
      ap (λ os. steps os below w) regrouped
      ∙ steps-slots s (operand_operations o ++ last_one ∷ rest) below w
      ∙ after_slots s (meaning_of_slots s w) (slot_count s w) below _ _ _ _ (λ slots u count.
      steps-operand o (last_one ∷ rest) (slots ++ below) u
      ∙ after (meaning_of_operand o u) _ _ _ _ _ (λ a v. ap (λ state. go_on state (steps rest))
      (with_slots-above (length (semicolons s) + 1) slots below (λ slots below. onto below (index_outcome l a slots v)) count)))

  -- the first slot is on top
  steps-slots : (s : Slots) (rest : List Operation) (below : List Item) (w : WorkspaceValue) → steps (list_operations s ++ rest) below w ≡ go_on (leaves (λ xs. xs ++ below) (meaning_of_slots s w)) (steps rest)
  steps-slots (last s) rest below w = steps-slot s rest below w ∙ after (meaning_of_slot s w) _ _ _ _ _ (λ x u. refl)
  steps-slots (more s c ss) rest below w =
      ap (λ os. steps os below w) (append_assoc (list_operations ss) (slot_operations s) rest)
      ∙ steps-slots ss (slot_operations s ++ rest) below w
      ∙ after (meaning_of_slots ss w) _ _ _ _ _ (λ xs u. steps-slot s rest (xs ++ below) u ∙ after (meaning_of_slot s u) _ _ _ _ _ (λ x v. refl))

  steps-slot : (s : Slot) (rest : List Operation) (below : List Item) (w : WorkspaceValue) → steps (slot_operations s ++ rest) below w ≡ go_on (leaves (λ x. x ∷ below) (meaning_of_slot s w)) (steps rest)
  steps-slot nothing rest below w = refl
  steps-slot (given e) rest below w = steps-operations e rest below w ∙ after (meaning_of e w) _ _ _ _ _ (λ v u. refl)

onto-nothing : (m : Outcome ArrayValue) → go_on (onto [] m) (steps []) ≡ onto [] m
onto-nothing (done v w) = refl
onto-nothing (failed report c w) = refl

-- all operations of a tree
pub steps-program : (e : Expr) (w : WorkspaceValue) → steps (operations e) [] w ≡ onto [] (meaning_of e w)
steps-program e w = ap (λ os. steps os [] w) (sym (append-nil (operations e))) ∙ steps-operations e [] [] w ∙ onto-nothing (meaning_of e w)

not_stuck : (m : Outcome ArrayValue) → onto [] m ≢ stuck
not_stuck (done v w) e = absurd cc
not_stuck (failed report c w) e = absurd cc

fails : (m : Outcome ArrayValue) (report : Report) (c : ℕ) (u : WorkspaceValue) → onto [] m ≡ ended report c u → m ≡ failed report c u
fails (done v w) report c u e = absurd cc
fails (failed r d w) report c u e = cc

has_value : (m : Outcome ArrayValue) (items : List Item) (w : WorkspaceValue) → onto [] m ≡ waiting items w → HasValue items
has_value (done v u) items w e = let is : Some v ∷ [] ≡ items = cc in subst HasValue is tt
has_value (failed r d u) items w e = absurd cc

only : (m : Outcome ArrayValue) (v : ArrayValue) (below : List Item) (w : WorkspaceValue) → onto [] m ≡ waiting (Some v ∷ below) w → m ≡ done v w
only (done x u) v below w e = cc
only (failed r d u) v below w e = absurd cc

module _ (ops : List Operation) (start : WorkspaceValue) where
  of_tree : (e : Expr) → operations e ≡ ops → onto [] (meaning_of e start) ≡ steps ops [] start
  of_tree e program = sym (steps-program e start) ∙ ap (λ os. steps os [] start) program

  program_possible : IsProgram ops → steps ops [] start ≢ stuck
  program_possible program e = not_stuck (meaning_of program.0 start) (of_tree program.0 program.2 ∙ e)

  -- what all operations come to
  pub leaves_value : IsProgram ops → (items : List Item) (u : WorkspaceValue) → steps ops [] start ≡ waiting items u → HasValue items
  leaves_value program items u is = has_value (meaning_of program.0 start) items u (of_tree program.0 program.2 ∙ is)

  pub means : (e : Expr) → operations e ≡ ops → (items : List Item) (u : WorkspaceValue) → steps ops [] start ≡ waiting items u → (v : ArrayValue) (below : List Item) → items ≡ Some v ∷ below → meaning_of e start ≡ done v u
  means e program items u is v below top = only (meaning_of e start) v below u (of_tree e program ∙ is ∙ ap (λ items. waiting items u) top)

  pub ends_with : (e : Expr) → operations e ≡ ops → (report : Report) (c : ℕ) (u : WorkspaceValue) → steps ops [] start ≡ ended report c u → meaning_of e start ≡ failed report c u
  ends_with e program report c u is = fails (meaning_of e start) report c u (of_tree e program ∙ is)

pub went_on : {T : Type 0} (state : State) (items : List Item) (u : WorkspaceValue) (r : Result T EvalStop) (x : T) → r ≡ Ok x → IsState state items u r → state ≡ waiting items u
went_on state items u r x is h = subst (IsState state items u) is h

pub stopped_with : {T : Type 0} (state : State) (items : List Item) (u : WorkspaceValue) (r : Result T EvalStop) (stop : EvalStop) → r ≡ Err stop → IsState state items u r → IsState {T = T} state items u (Err stop)
stopped_with state items u r stop is h = subst (IsState state items u) is h

pub ended_with : {T : Type 0} (state : State) (items : List Item) (u : WorkspaceValue) (r : Result T EvalStop) (report : Report) (c : ℕ) → r ≡ Err (Error report c) → IsState state items u r → state ≡ ended report c u
ended_with state items u r report c is h = subst (IsState state items u) is h

-- what a statement answers that is refused, and leaves the workspace as it was
pub stops_so : (T : Type 0) (ops : List Operation) (w : WorkspaceValue) (e : Expr) → operations e ≡ ops → (items : List Item) (new : WorkspaceValue) (stop : EvalStop) → new ≡ w
    → IsState {T = T} (steps ops [] w) items new (Err stop) → Evaluates e w new (Err stop)
stops_so T ops w e program items new Memory unchanged is = unchanged
stops_so T ops w e program items new (Error report c) unchanged is = ends_with ops w e program report c new is

-- ---- operations one after another

-- what the loop keeps: what is left of the operations comes to the same state
pub record ComesTo (ops : List Operation) (start : WorkspaceValue) (place : ℕ) (values : List Item) (w : WorkspaceValue) : Type 0 where
  pub left : steps (drop place ops) values w ≡ steps ops [] start

module _ (ops : List Operation) (start : WorkspaceValue) (place : ℕ) (values : List Item) (w : WorkspaceValue) (o : Operation) where
  here : place < length ops → o ≡ get_or ops place o → steps (drop place ops) values w ≡ go_on (step o values w) (steps (drop (place + 1) ops))
  here inside is = ap (λ os. steps os values w) (drop-cons ops place o inside) ∙ (λ i. go_on (step (sym is i) values w) (steps (drop (sym (add-one place) i) ops)))

  pub is_possible : steps ops [] start ≢ stuck → place < length ops → o ≡ get_or ops place o → ComesTo ops start place values w → step o values w ≢ stuck
  is_possible whole inside is h e = whole (sym h.left ∙ here inside is ∙ ap (λ s. go_on s (steps (drop (place + 1) ops))) e)

  pub ComesTo-more : place < length ops → o ≡ get_or ops place o → ComesTo ops start place values w → (next : List Item) (u : WorkspaceValue) → step o values w ≡ waiting next u → ComesTo ops start (place + 1) next u
  ComesTo-more inside is h next u e = record { left = sym (ap (λ s. go_on s (steps (drop (place + 1) ops))) e) ∙ sym (here inside is) ∙ h.left }

  pub stops_with : (T : Type 0) → place < length ops → o ≡ get_or ops place o → ComesTo ops start place values w → (next : List Item) (u : WorkspaceValue) (stop : EvalStop) → IsState {T = T} (step o values w) next u (Err stop) → IsState {T = T} (steps ops [] start) next u (Err stop)
  stops_with T inside is h next u Memory fault = tt
  stops_with T inside is h next u (Error report column) fault = sym h.left ∙ here inside is ∙ ap (λ s. go_on s (steps (drop (place + 1) ops))) fault

pub at_end : (ops : List Operation) (start : WorkspaceValue) (place : ℕ) (values : List Item) (w : WorkspaceValue) → length ops ≤ place → ComesTo ops start place values w → steps ops [] start ≡ waiting values w
at_end ops start place values w past h = sym h.left ∙ ap (λ os. steps os values w) (drop_all place ops past)

-- ---- an indexed assignment at the end

steps-append : (before later : List Operation) (values : List Item) (w : WorkspaceValue) → steps (before ++ later) values w ≡ go_on (steps before values w) (steps later)
steps-append [] later values w = refl
steps-append (o ∷ before) later values w = by_state (step o values w) (λ items u. steps-append before later items u)
  where
    by_state : (s : State) → ((items : List Item) (u : WorkspaceValue) → steps (before ++ later) items u ≡ go_on (steps before items u) (steps later)) → go_on s (steps (before ++ later)) ≡ go_on (go_on s (steps before)) (steps later)
    by_state (waiting items u) rest = rest items u
    by_state (ended report c u) rest = refl
    by_state stuck rest = refl

no_more : (s : State) → go_on s (steps []) ≡ s
no_more (waiting items u) = refl
no_more (ended report c u) = refl
no_more stuck = refl

module _ (before : List Operation) (target : Option IndexedName) (start : WorkspaceValue) where
  pub front_possible : (all : List Operation) → IsProgram all → all ≡ before ++ last_assign_at target → steps before [] start ≢ stuck
  front_possible all program split e =
      program_possible all start program (ap (λ os. steps os [] start) split ∙ steps-append before (last_assign_at target) [] start ∙ ap (λ s. go_on s (steps (last_assign_at target))) e)

  pub front_stops : (T : Type 0) (all : List Operation) → all ≡ before ++ last_assign_at target → (next : List Item) (u : WorkspaceValue) (stop : EvalStop)
      → IsState {T = T} (steps before [] start) next u (Err stop) → IsState {T = T} (steps all [] start) next u (Err stop)
  front_stops T all split next u Memory fault = tt
  front_stops T all split next u (Error report c) fault =
      ap (λ os. steps os [] start) split ∙ steps-append before (last_assign_at target) [] start ∙ ap (λ s. go_on s (steps (last_assign_at target))) fault

pub nothing_after : (before : List Operation) (start : WorkspaceValue) (all : List Operation) → all ≡ before ++ last_assign_at None → steps all [] start ≡ steps before [] start
nothing_after before start all split = ap (λ os. steps os [] start) (split ∙ append-nil before)

-- all of them come to what the last one does
pub last_step : (before : List Operation) (target : IndexedName) (start : WorkspaceValue) (all : List Operation) → all ≡ before ++ last_assign_at (Some target) → (items : List Item) (u : WorkspaceValue)
    → steps before [] start ≡ waiting items u → steps all [] start ≡ step (op.AssignAt target) items u
last_step before target start all split items u is =
    ap (λ os. steps os [] start) split ∙ steps-append before (op.AssignAt target ∷ []) [] start ∙ ap (λ s. go_on s (steps (op.AssignAt target ∷ []))) is
    ∙ no_more (step (op.AssignAt target) items u)

pub last_possible : (before : List Operation) (target : IndexedName) (start : WorkspaceValue) (all : List Operation) → IsProgram all → all ≡ before ++ last_assign_at (Some target) → (items : List Item) (u : WorkspaceValue)
    → steps before [] start ≡ waiting items u → step (op.AssignAt target) items u ≢ stuck
last_possible before target start all program split items u is e = program_possible all start program (last_step before target start all split items u is ∙ e)

-- what is known where the operations before an indexed assignment at the end have been carried out
pub record IsBeforeLast (before : List Operation) (target : IndexedName) (start : WorkspaceValue) (all : List Operation) (items : List Item) (u : WorkspaceValue) : Type 0 where
  pub split : all ≡ before ++ last_assign_at (Some target)
  pub whole : steps all [] start ≡ step (op.AssignAt target) items u
  pub is_possible : IsProgram all → step (op.AssignAt target) items u ≢ stuck

module _ {T : Type 0} {before : List Operation} {given : Option IndexedName} {target : IndexedName} {start : WorkspaceValue} {all : List Operation} {items : List Item} (r : Result T EvalStop) {x : T} where
  pub before_last : {u : WorkspaceValue} → all ≡ before ++ last_assign_at given → given ≡ Some target → r ≡ Ok x → IsState (steps before [] start) items u r → IsBeforeLast before target start all items u
  before_last {u} divided is ok h =
      let split : all ≡ before ++ last_assign_at (Some target) = divided ∙ ap (λ t. before ++ last_assign_at t) is in
      let came = went_on (steps before [] start) items u r x ok h in
      record {
        split = split;
        whole = last_step before target start all split items u came;
        is_possible = λ program. last_possible before target start all program split items u came;
      }

  -- the same of a line that has assigned nothing
  pub before_last_alone : {staged : NameValues} → staged ≡ empty → all ≡ before ++ last_assign_at given → given ≡ Some target → r ≡ Ok x → IsState (steps before [] start) items (staged_in staged start) r
      → IsBeforeLast before target start all items start
  before_last_alone {staged} unassigned divided is ok h =
      subst (IsBeforeLast before target start all items) (ap (λ staged. staged_in staged start) unassigned ∙ staged_in-empty start) (before_last divided is ok h)

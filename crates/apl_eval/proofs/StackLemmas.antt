-- The stack that a vector holds, what is on top of it, and the workspace with staged assignments.
use Rattle.std.proofs.Common.{◌≡◌, ◌≢◌, ◌<◌, ◌≤◌, ◌+◌, ◌-◌, ℕ, zero, suc, List, [], ◌∷◌, ◌++◌, length, take, drop, get_or, map, reverse, Option, Some, None, refl, sym, ◌∙◌, ap, subst, arith, append_assoc, drop-cons}
use Rattle.std.proofs.lemmas.List.{drop_all, take-append-drop, reverse-append, length-append, length-map, length-reverse, map-append}
use Rattle.std.specs.Prelude.{is_some}
use Rattle.apl_grammar.specs.declared.program.Brackets.{Brackets}
use Rattle.apl_grammar.specs.declared.forms.MonadicForm.{MonadicForm}
use Rattle.apl_grammar.specs.declared.forms.DyadicForm.{DyadicForm}
use Rattle.apl_grammar.specs.declared.program.IndexedName.{IndexedName}
use Rattle.apl_grammar.specs.declared.program.Operation.TheVariants as op
use Rattle.apl_eval.specs.Meaning.{monadic_outcome, dyadic_outcome, index_outcome, assign_at_outcome}
use Rattle.std.specs.declared.rc.Rc.{Rc}
use Rattle.apl_array.specs.Array.{ArrayValue}
use Rattle.apl_eval.specs.Workspace.{NameValues, WorkspaceValue, with_names, assigned}
use Rattle.apl_eval.specs.Steps.{Item, State, stuck, onto, step, item_of, stack_of, with_value, with_axis, with_slots, under_axis, HasValueAbove, HasValue, HasAxisAbove, HasAxis, HasSlotsAbove, staged_in}
use Rattle.apl_eval.proofs.NameLemmas.{overlaid-empty, overlaid-nothing, overlaid-insert}
use Rattle.std.specs.FinMap.{empty, insert}

pub stack_of-push : {Z : Type 0} (xs : List (Option (Rc ArrayValue Z))) (x : Option (Rc ArrayValue Z)) → stack_of (xs ++ x ∷ []) ≡ item_of x ∷ stack_of xs
stack_of-push xs x = ap (map item_of) (reverse-append xs (x ∷ []))

-- the last item is on top
pub stack_of-last : {Z : Type 0} (xs : List (Option (Rc ArrayValue Z))) (x : Option (Rc ArrayValue Z)) → 0 < length xs → x ≡ get_or xs (length xs - 1) x → stack_of xs ≡ item_of x ∷ stack_of (take (length xs - 1) xs)
stack_of-last xs x some is =
    let n = length xs - 1 in
    let inside : n < length xs = omega arith in
    let rest : drop (suc n) xs ≡ [] = drop_all (suc n) xs (omega arith) in
    let tail : drop n xs ≡ x ∷ [] = drop-cons xs n x inside ∙ (λ i. sym is i ∷ rest i) in
    ap stack_of (sym (take-append-drop n xs) ∙ ap (λ t. take n xs ++ t) tail) ∙ stack_of-push (take n xs) x

-- ---- what is on top, where an operation is possible

value_above : (P : List Item → Type 0) (items : List Item) (next : ArrayValue → List Item → State) → with_value items next ≢ stuck
    → ((v : ArrayValue) (below : List Item) → next v below ≢ stuck → P below) → HasValueAbove P items
value_above P (Some v ∷ below) next possible goes_on = goes_on v below possible
value_above P (None ∷ below) next possible goes_on = possible refl
value_above P [] next possible goes_on = possible refl

axis_above : (P : List Item → Type 0) (axis : Option Brackets) (items : List Item) (next : Option ArrayValue → List Item → State) → with_axis axis items next ≢ stuck
    → ((v : Option ArrayValue) (below : List Item) → next v below ≢ stuck → P below) → HasAxisAbove P axis items
axis_above P None items next possible goes_on = goes_on None items possible
axis_above P (Some brackets) (Some v ∷ below) next possible goes_on = goes_on (Some v) below possible
axis_above P (Some brackets) (None ∷ below) next possible goes_on = possible refl
axis_above P (Some brackets) [] next possible goes_on = possible refl

slots_above : (P : List Item → Type 0) (n : ℕ) (items : List Item) (next : List Item → List Item → State) → with_slots n items next ≢ stuck
    → ((slots below : List Item) → next slots below ≢ stuck → P below) → HasSlotsAbove P n items
slots_above P zero items next possible goes_on = goes_on [] items possible
slots_above P (suc n) [] next possible goes_on = possible refl
slots_above P (suc n) (slot ∷ items) next possible goes_on =
    slots_above P n items (λ slots below. next (slot ∷ slots) below) possible (λ slots below. goes_on (slot ∷ slots) below)

has_this : (items : List Item) (next : ArrayValue → List Item → State) → with_value items next ≢ stuck → HasValue items
has_this items next possible = value_above (λ below. Unit {0}) items next possible (λ v below h. tt)

module _ (w : WorkspaceValue) where
  pub monadic_above : (f : MonadicForm) (axis : Option Brackets) (items : List Item) → step (op.Monadic f axis) items w ≢ stuck → HasAxisAbove HasValue axis items
  monadic_above f axis items possible =
      axis_above HasValue axis items (λ axis items. with_value items (λ right below. onto below (monadic_outcome f axis right w))) possible
      (λ axis items. has_this items (λ right below. onto below (monadic_outcome f axis right w)))

  pub dyadic_above : (f : DyadicForm) (axis : Option Brackets) (items : List Item) → step (op.Dyadic f axis) items w ≢ stuck → HasValueAbove (HasAxisAbove HasValue axis) items
  dyadic_above f axis items possible =
      value_above (HasAxisAbove HasValue axis) items (λ left items. with_axis axis items (λ axis items. with_value items (λ right below. onto below (dyadic_outcome f axis left right w)))) possible
      (λ left items here. axis_above HasValue axis items (λ axis items. with_value items (λ right below. onto below (dyadic_outcome f axis left right w))) here
      (λ axis items. has_this items (λ right below. onto below (dyadic_outcome f axis left right w))))

  pub index_above : (semicolons : List ℕ) (brackets : Brackets) (items : List Item) → step (op.Index semicolons brackets) items w ≢ stuck
      → HasValueAbove (HasSlotsAbove (λ below. Unit {0}) (length semicolons + 1)) items
  index_above semicolons brackets items possible =
      let n = length semicolons + 1 in
      value_above (HasSlotsAbove (λ below. Unit {0}) n) items (λ array items. with_slots n items (λ slots below. onto below (index_outcome brackets.left array slots w))) possible
      (λ array items here. slots_above (λ below. Unit {0}) n items (λ slots below. onto below (index_outcome brackets.left array slots w)) here (λ slots below h. tt))

  pub assign_at_above : (target : IndexedName) (items : List Item) → step (op.AssignAt target) items w ≢ stuck → HasSlotsAbove HasValue (length target.semicolons + 1) items
  assign_at_above target items possible =
      slots_above HasValue (length target.semicolons + 1) items
      (λ slots items. with_value items (λ right below. onto below (assign_at_outcome target.column target.name target.arrow slots right w))) possible
      (λ slots items. has_this items (λ right below. onto below (assign_at_outcome target.column target.name target.arrow slots right w)))

-- ---- an operation takes what is on top

pub has_value : (P : List Item → Type 0) (items : List Item) → HasValueAbove P items → HasValue items
has_value P (Some v ∷ below) h = tt
has_value P (None ∷ below) h = h
has_value P [] h = h

pub below_value : (P : List Item → Type 0) (items : List Item) (v : ArrayValue) (below : List Item) → HasValueAbove P items → items ≡ Some v ∷ below → P below
below_value P items v below h is = subst (HasValueAbove P) is h

pub has_axis : (P : List Item → Type 0) (axis : Option Brackets) (items : List Item) → HasAxisAbove P axis items → HasAxis axis items
has_axis P None items h = tt
has_axis P (Some brackets) items h = has_value P items h

pub below_axis : (P : List Item → Type 0) (axis : Option Brackets) (items : List Item) (v : Option ArrayValue) (below : List Item)
    → HasAxisAbove P axis items → is_some v ≡ is_some axis → items ≡ under_axis v below → P below
below_axis P None items None below h some is = subst P is h
below_axis P None items (Some v) below h some is = absurd cc
below_axis P (Some brackets) items None below h some is = absurd cc
below_axis P (Some brackets) items (Some v) below h some is = below_value P items v below h is

pub with_axis-under : (axis : Option Brackets) (v : Option ArrayValue) (below : List Item) (next : Option ArrayValue → List Item → State)
    → is_some v ≡ is_some axis → with_axis axis (under_axis v below) next ≡ next v below
with_axis-under None None below next some = refl
with_axis-under None (Some v) below next some = absurd cc
with_axis-under (Some brackets) None below next some = absurd cc
with_axis-under (Some brackets) (Some v) below next some = refl

pub enough_slots : (P : List Item → Type 0) (n : ℕ) (items : List Item) → HasSlotsAbove P n items → n ≤ length items
enough_slots P zero items h = omega arith
enough_slots P (suc n) [] h = absurd h
enough_slots P (suc n) (slot ∷ items) h = let others : n ≤ length items = enough_slots P n items h in omega arith

below_these : (P : List Item → Type 0) (slots below : List Item) → HasSlotsAbove P (length slots) (slots ++ below) → P below
below_these P [] below h = h
below_these P (slot ∷ slots) below h = below_these P slots below h

pub below_slots : (P : List Item → Type 0) (n : ℕ) (items slots below : List Item) → HasSlotsAbove P n items → length slots ≡ n → items ≡ slots ++ below → P below
below_slots P n items slots below h count is =
    below_these P slots below (subst (λ (k : ℕ). HasSlotsAbove P k (slots ++ below)) (sym count) (subst (HasSlotsAbove P n) is h))

with_these : (slots below : List Item) (next : List Item → List Item → State) → with_slots (length slots) (slots ++ below) next ≡ next slots below
with_these [] below next = refl
with_these (slot ∷ slots) below next = with_these slots below (λ others below. next (slot ∷ others) below)

pub with_slots-above : (n : ℕ) (slots below : List Item) (next : List Item → List Item → State) → length slots ≡ n → with_slots n (slots ++ below) next ≡ next slots below
with_slots-above n slots below next count = ap (λ k. with_slots k (slots ++ below) next) (sym count) ∙ with_these slots below next

pub some_item : {Z : Type 0} (x : Option (Rc ArrayValue Z)) → is_some (item_of x) ≡ is_some x
some_item None = refl
some_item (Some x) = refl

module _ (w : WorkspaceValue) where
  pub step-monadic : (f : MonadicForm) (brackets : Option Brackets) (axis : Option ArrayValue) (right : ArrayValue) (below items : List Item) → is_some axis ≡ is_some brackets
      → items ≡ under_axis axis (Some right ∷ below) → step (op.Monadic f brackets) items w ≡ onto below (monadic_outcome f axis right w)
  step-monadic f brackets axis right below items some is =
      ap (λ items. step (op.Monadic f brackets) items w) is
      ∙ with_axis-under brackets axis (Some right ∷ below) (λ axis items. with_value items (λ right below. onto below (monadic_outcome f axis right w))) some

  pub step-dyadic : (f : DyadicForm) (brackets : Option Brackets) (left : ArrayValue) (axis : Option ArrayValue) (right : ArrayValue) (below items : List Item) → is_some axis ≡ is_some brackets
      → items ≡ Some left ∷ under_axis axis (Some right ∷ below) → step (op.Dyadic f brackets) items w ≡ onto below (dyadic_outcome f axis left right w)
  step-dyadic f brackets left axis right below items some is =
      ap (λ items. step (op.Dyadic f brackets) items w) is
      ∙ with_axis-under brackets axis (Some right ∷ below) (λ axis items. with_value items (λ right below. onto below (dyadic_outcome f axis left right w))) some

  pub step-index : (semicolons : List ℕ) (brackets : Brackets) (array : ArrayValue) (slots below items : List Item) → length slots ≡ length semicolons + 1
      → items ≡ Some array ∷ slots ++ below → step (op.Index semicolons brackets) items w ≡ onto below (index_outcome brackets.left array slots w)
  step-index semicolons brackets array slots below items count is =
      ap (λ items. step (op.Index semicolons brackets) items w) is
      ∙ with_slots-above (length semicolons + 1) slots below (λ slots below. onto below (index_outcome brackets.left array slots w)) count

  pub step-assign_at : (target : IndexedName) (slots : List Item) (right : ArrayValue) (below items : List Item) → length slots ≡ length target.semicolons + 1
      → items ≡ slots ++ Some right ∷ below → step (op.AssignAt target) items w ≡ onto below (assign_at_outcome target.column target.name target.arrow slots right w)
  step-assign_at target slots right below items count is =
      ap (λ items. step (op.AssignAt target) items w) is
      ∙ with_slots-above (length target.semicolons + 1) slots (Some right ∷ below)
      (λ slots items. with_value items (λ right below. onto below (assign_at_outcome target.column target.name target.arrow slots right w))) count

-- ---- slots taken one after another

pub record IsTaken {Z : Type 0} (all : List Item) (count : ℕ) (slots left : List (Option (Rc ArrayValue Z))) : Type 0 where
  pub counted : length slots ≡ count
  pub split : all ≡ map item_of slots ++ stack_of left

pub taken_more : {Z : Type 0} (all : List Item) (count : ℕ) (slots left rest : List (Option (Rc ArrayValue Z))) (slot : Option (Rc ArrayValue Z))
    → IsTaken all count slots left → left ≡ rest ++ slot ∷ [] → IsTaken all (count + 1) (slots ++ slot ∷ []) rest
taken_more all count slots left rest slot h is = record {
  counted = omega (arith, length-append slots (slot ∷ []), h.counted);
  split =
      h.split ∙ ap (λ items. map item_of slots ++ stack_of items) is ∙ ap (λ items. map item_of slots ++ items) (stack_of-push rest slot)
      ∙ sym (append_assoc (map item_of slots) (item_of slot ∷ []) (stack_of rest)) ∙ ap (λ items. items ++ stack_of rest) (sym (map-append item_of slots (slot ∷ [])));
}

pub taken_left : {Z : Type 0} (all : List Item) (count : ℕ) (slots left : List (Option (Rc ArrayValue Z))) → IsTaken all count slots left → count < length all → 0 < length left
taken_left all count slots left h more =
    let whole = ap length h.split in
    omega (arith, whole, length-append (map item_of slots) (stack_of left), length-map slots item_of, length-map (reverse left) item_of, length-reverse left, h.counted)

pub staged_in-empty : (w : WorkspaceValue) → staged_in empty w ≡ w
staged_in-empty w = ap (λ names. with_names names w) (overlaid-empty w.names)

pub staged_in-insert : (staged : NameValues) (w : WorkspaceValue) (name : List ℕ) (v : ArrayValue) → staged_in (insert staged name v) w ≡ assigned name v (staged_in staged w)
staged_in-insert staged w name v = ap (λ names. with_names names w) (overlaid-insert staged w.names name v)

-- a workspace without names, and names over it
pub staged_in-nameless : (names : NameValues) (w : WorkspaceValue) → staged_in names (with_names empty w) ≡ with_names names w
staged_in-nameless names w = ap (λ all. with_names all w) (overlaid-nothing names)

-- Operations carried out one after another on a stack, the last item first. No contract of a public function cites this file.
use Rattle.std.specs.Prelude.{◌≡◌, ℕ, ◌+◌, zero, suc, List, [], ◌∷◌, length, map, reverse, Option, Some, None, Result, Ok, Err, option_map}
use Rattle.std.specs.declared.rc.Rc.{Rc}
use Rattle.apl_array.specs.Array.{ArrayValue}
use Rattle.apl_grammar.specs.declared.program.Brackets.{Brackets}
use Rattle.apl_grammar.specs.declared.program.IndexedName.{IndexedName}
use Rattle.apl_grammar.specs.declared.program.Operation.{Operation}
use Rattle.apl_grammar.specs.declared.program.Operation.TheVariants as op
use Rattle.apl_print.specs.declared.reports.Report.{Report}
use Rattle.apl_eval.specs.Workspace.{NameValues, WorkspaceValue, with_names}
use Rattle.apl_eval.specs.Meaning.{Outcome, done, failed, name_outcome, monadic_outcome, dyadic_outcome, index_outcome, assign_outcome, assign_at_outcome}
use Rattle.apl_eval.specs.Names.{overlaid}
use Rattle.apl_eval.specs.declared.statement.EvalStop.{EvalStop}
use Rattle.apl_eval.specs.declared.statement.EvalStop.TheVariants.{Error, Memory}

-- what waits for an operation: a value, or none for an empty slot
abbrev pub Item : Type 0
Item = Option ArrayValue

-- the items that wait and the workspace; or the error that ended the line; or not the values that an operation wants
pub data State : Type 0 where
  waiting : List Item → WorkspaceValue → State
  ended : Report → (column : ℕ) → WorkspaceValue → State
  stuck : State

-- an outcome that leaves these items
abbrev pub leaves : {V : Type 0} → (V → List Item) → Outcome V → State
leaves items (done v w) = waiting (items v) w
leaves items (failed report column w) = ended report column w

-- a value on a stack
abbrev pub onto : List Item → Outcome ArrayValue → State
onto below = leaves (λ v. Some v ∷ below)

-- what comes next, with the value on top
abbrev pub with_value : List Item → (ArrayValue → List Item → State) → State
with_value (Some v ∷ below) next = next v below
with_value _ next = stuck

-- with the axis argument on top, if there is one
abbrev pub with_axis : Option Brackets → List Item → (Option ArrayValue → List Item → State) → State
with_axis None items next = next None items
with_axis (Some brackets) (Some v ∷ below) next = next (Some v) below
with_axis (Some brackets) _ next = stuck

-- with this many slots on top, the first of which is the topmost
abbrev pub with_slots : ℕ → List Item → (List Item → List Item → State) → State
with_slots zero items next = next [] items
with_slots (suc n) [] next = stuck
with_slots (suc n) (slot ∷ items) next = with_slots n items (λ slots below. next (slot ∷ slots) below)

abbrev pub step : Operation → List Item → WorkspaceValue → State
step (op.Constant column v) below w = waiting (Some v ∷ below) w
step (op.Name column name) below w = onto below (name_outcome column name w)
step (op.Group brackets) items w = waiting items w
step op.EmptySlot below w = waiting (None ∷ below) w
step (op.Index semicolons brackets) items w =
    with_value items (λ array items. with_slots (length semicolons + 1) items (λ slots below. onto below (index_outcome brackets.left array slots w)))
step (op.Assign column name arrow) items w = with_value items (λ right below. onto below (assign_outcome name right w))
step (op.AssignAt target) items w =
    with_slots (length target.semicolons + 1) items (λ slots items.
    with_value items (λ right below. onto below (assign_at_outcome target.column target.name target.arrow slots right w)))
step (op.Monadic f axis) items w =
    with_axis axis items (λ axis items. with_value items (λ right below. onto below (monadic_outcome f axis right w)))
step (op.Dyadic f axis) items w =
    with_value items (λ left items. with_axis axis items (λ axis items. with_value items (λ right below. onto below (dyadic_outcome f axis left right w))))

-- an indexed assignment at the end of the operations, if there is one
abbrev pub last_assign_at : Option IndexedName → List Operation
last_assign_at (Some target) = op.AssignAt target ∷ []
last_assign_at None = []

abbrev pub go_on : State → (List Item → WorkspaceValue → State) → State
go_on (waiting items w) next = next items w
go_on (ended report column w) next = ended report column w
go_on stuck next = stuck

abbrev pub steps : List Operation → List Item → WorkspaceValue → State
steps [] items w = waiting items w
steps (o ∷ os) items w = go_on (step o items w) (steps os)

-- what an array on a stack is, or an empty slot
abbrev pub item_of : {Z : Type 0} → Option (Rc ArrayValue Z) → Item
item_of = option_map (λ r. r.value)

-- the stack that a vector holds
abbrev pub stack_of : {Z : Type 0} → List (Option (Rc ArrayValue Z)) → List Item
stack_of items = map item_of (reverse items)

-- a value is on top, below which the items have a property
abbrev pub HasValueAbove : (List Item → Type 0) → List Item → Type 0
HasValueAbove P (Some v ∷ below) = P below
HasValueAbove P _ = ⊥

abbrev pub HasValue : List Item → Type 0
HasValue items = HasValueAbove (λ below. Unit {0}) items

-- an axis argument is on top, if there is one, below which the items have a property
abbrev pub HasAxisAbove : (List Item → Type 0) → Option Brackets → List Item → Type 0
HasAxisAbove P None items = P items
HasAxisAbove P (Some brackets) items = HasValueAbove P items

abbrev pub HasAxis : Option Brackets → List Item → Type 0
HasAxis axis items = HasAxisAbove (λ below. Unit {0}) axis items

-- this many slots are on top, below which the items have a property
abbrev pub HasSlotsAbove : (List Item → Type 0) → ℕ → List Item → Type 0
HasSlotsAbove P zero items = P items
HasSlotsAbove P (suc n) [] = ⊥
HasSlotsAbove P (suc n) (slot ∷ items) = HasSlotsAbove P n items

-- the items with an axis argument on top, if there is one
abbrev pub under_axis : Option ArrayValue → List Item → List Item
under_axis None items = items
under_axis (Some axis) items = Some axis ∷ items

-- the workspace with the assignments of the line
abbrev pub staged_in : NameValues → WorkspaceValue → WorkspaceValue
staged_in staged w = with_names (overlaid staged w.names) w

-- The result is the outcome: its value, or its error and column. Lack of memory meets any outcome.
abbrev pub IsOutcome : {Z : Type 0} → Outcome ArrayValue → WorkspaceValue → Result (Rc ArrayValue Z) EvalStop → Type 0
IsOutcome outcome w (Ok value) = outcome ≡ done value.value w
IsOutcome outcome w (Err (Error report column)) = outcome ≡ failed report column w
IsOutcome outcome w (Err Memory) = Unit {0}

-- The result is the state: these items wait, or it is the error and column. Lack of memory meets any state.
abbrev pub IsState : {T : Type 0} → State → List Item → WorkspaceValue → Result T EvalStop → Type 0
IsState state items w (Ok value) = state ≡ waiting items w
IsState state items w (Err (Error report column)) = state ≡ ended report column w
IsState state items w (Err Memory) = Unit {0}

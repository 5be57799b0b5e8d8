-- What a statement's tree means.
use Rattle.std.specs.Prelude.{ℕ, Bool, true, false, List, [], ◌∷◌, Option, Some, None, Result, Ok, Err}
use Rattle.apl_array.specs.Array.{ArrayValue}
use Rattle.apl_grammar.specs.declared.forms.MonadicForm.{MonadicForm}
use Rattle.apl_grammar.specs.declared.forms.DyadicForm.{DyadicForm}
use Rattle.apl_grammar.specs.Tree.{Expr, value, dyadic, monadic, assign, assign_at, Operand, constant, name, group, index, Slots, last, more, Slot, nothing, given, Axis, none, along}
use Rattle.apl_print.specs.declared.reports.Report.{Report}
use Rattle.apl_print.specs.declared.reports.Report.TheVariants.{Value}
use Rattle.apl_eval.specs.Workspace.{WorkspaceValue, value_of, assigned}
use Rattle.apl_eval.specs.Functions.{monadic_column, dyadic_column, monadic_result, dyadic_result, index_result, assign_at_result}

-- a value and the workspace after it, or an error at a column and the workspace that is kept
pub data Outcome (V : Type 0) : Type 0 where
  done : V → WorkspaceValue → Outcome V
  failed : Report → (column : ℕ) → WorkspaceValue → Outcome V

-- what comes next, after a value; an error ends the evaluation
abbrev pub then : {V U : Type 0} → Outcome V → (V → WorkspaceValue → Outcome U) → Outcome U
then (done v w) next = next v w
then (failed report column w) next = failed report column w

-- the outcome in each workspace
abbrev pub Evaluation : Type 0 → Type 0
Evaluation V = WorkspaceValue → Outcome V

-- one after another, as the lines of a block
abbrev pub ◌>>=◌ : {V U : Type 0} → Evaluation V → (V → Evaluation U) → Evaluation U
◌>>=◌ first next = λ w. then (first w) next

-- the value, or the error at this column
abbrev pub outcome_at : (column : ℕ) → Result ArrayValue Report → Evaluation ArrayValue
outcome_at column (Ok v) w = done v w
outcome_at column (Err report) w = failed report column w

-- the value of a name, and Value if it has none
abbrev pub name_result : Option ArrayValue → Result ArrayValue Report
name_result (Some v) = Ok v
name_result None = Err Value

-- a name's value, or the error at the name
abbrev pub name_outcome : (column : ℕ) → (text : List ℕ) → Evaluation ArrayValue
name_outcome column text w = outcome_at column (name_result (value_of text w)) w

-- a function's result of one argument, or the error at its column
abbrev pub monadic_outcome : MonadicForm → (axis : Option ArrayValue) → (right : ArrayValue) → Evaluation ArrayValue
monadic_outcome f axis right w = outcome_at (monadic_column f) (monadic_result w.origin f axis right) w

-- a function's result of two arguments, or the error at its column
abbrev pub dyadic_outcome : DyadicForm → (axis : Option ArrayValue) → (left right : ArrayValue) → Evaluation ArrayValue
dyadic_outcome f axis left right w = outcome_at (dyadic_column f) (dyadic_result w.origin f axis left right) w

-- the elements that the slots choose, or the error at the bracket
abbrev pub index_outcome : (column : ℕ) → (array : ArrayValue) → (slots : List (Option ArrayValue)) → Evaluation ArrayValue
index_outcome column array slots w = outcome_at column (index_result w.origin array slots) w

-- a name gets a value, which is the value of the assignment
abbrev pub assign_outcome : (text : List ℕ) → (right : ArrayValue) → Evaluation ArrayValue
assign_outcome text right w = done right (assigned text right w)

-- the error of an indexed assignment is at its arrow, and Value at the name
abbrev pub assign_at_column : (column arrow : ℕ) → Report → ℕ
assign_at_column column arrow Value = column
assign_at_column column arrow _ = arrow

-- a name gets the changed array; the value of the assignment is the value on its right
abbrev pub assign_at_outcome_of : Result ArrayValue Report → (column : ℕ) → (text : List ℕ) → (arrow : ℕ) → (right : ArrayValue) → Evaluation ArrayValue
assign_at_outcome_of (Ok changed) column text arrow right w = done right (assigned text changed w)
assign_at_outcome_of (Err report) column text arrow right w = failed report (assign_at_column column arrow report) w

-- an indexed assignment: the value on its right, with the name's array changed
abbrev pub assign_at_outcome : (column : ℕ) → (text : List ℕ) → (arrow : ℕ) → (slots : List (Option ArrayValue)) → (right : ArrayValue) → Evaluation ArrayValue
assign_at_outcome column text arrow slots right w =
    assign_at_outcome_of (assign_at_result w.origin (value_of text w) slots right) column text arrow right w

-- Operands come before what they are operands of: the expression on the right first, then the axis, then the left operand.
-- The slots of a list come from the last to the first, and then the array. An error keeps the assignments made before it.
abbrev mutual
  pub meaning_of : Expr → Evaluation ArrayValue
  meaning_of (value o) = meaning_of_operand o
  meaning_of (dyadic o f a e) = do
    right ← meaning_of e
    axis ← meaning_of_axis a
    left ← meaning_of_operand o
    dyadic_outcome f axis left right
  meaning_of (monadic f a e) = do
    right ← meaning_of e
    axis ← meaning_of_axis a
    monadic_outcome f axis right
  meaning_of (assign column text arrow e) = do
    right ← meaning_of e
    assign_outcome text right
  meaning_of (assign_at column text l s r arrow e) = do
    right ← meaning_of e
    slots ← meaning_of_slots s
    assign_at_outcome column text arrow slots right

  pub meaning_of_operand : Operand → Evaluation ArrayValue
  meaning_of_operand (constant column v) = done v
  meaning_of_operand (name column text) = name_outcome column text
  meaning_of_operand (group l e r) = meaning_of e
  meaning_of_operand (index o l s r) = do
    slots ← meaning_of_slots s
    array ← meaning_of_operand o
    index_outcome l array slots

  -- of each slot its value, if it is not empty
  pub meaning_of_slots : Slots → Evaluation (List (Option ArrayValue))
  meaning_of_slots (last s) = do
    slot ← meaning_of_slot s
    done (slot ∷ [])
  meaning_of_slots (more s semicolon ss) = do
    slots ← meaning_of_slots ss
    slot ← meaning_of_slot s
    done (slot ∷ slots)

  pub meaning_of_slot : Slot → Evaluation (Option ArrayValue)
  meaning_of_slot nothing = done None
  meaning_of_slot (given e) = do
    v ← meaning_of e
    done (Some v)

  pub meaning_of_axis : Axis → Evaluation (Option ArrayValue)
  meaning_of_axis none = done None
  meaning_of_axis (along l e r) = do
    v ← meaning_of e
    done (Some v)

-- whether the statement is an assignment, whose value is not printed
abbrev pub is_assignment : Expr → Bool
is_assignment (assign column text arrow e) = true
is_assignment (assign_at column text l s r arrow e) = true
is_assignment _ = false

-- The report of each error of a statement is one of evaluation.
use Rattle.std.proofs.Common.{◌≡◌, ℕ, ℤ, List, Option, Some, None, Result, Ok, Err, subst}
use Rattle.std.specs.Prelude.{IfErr}
use Rattle.apl_array.specs.declared.axis.Axis.{Axis as WorkAxis}
use Rattle.apl_array.specs.declared.axis.Axis.TheVariants.{At}
use Rattle.apl_array.specs.declared.axis.Origin.{Origin}
use Rattle.apl_array.specs.declared.function.ScalarFunction.{ScalarFunction}
use Rattle.apl_array.specs.Array.{ArrayValue}
use Rattle.apl_grammar.specs.declared.forms.Operator.{Operator}
use Rattle.apl_grammar.specs.declared.forms.Operator.TheVariants.{Reduction, Scan}
use Rattle.apl_grammar.specs.declared.forms.MonadicForm.{MonadicForm}
use Rattle.apl_grammar.specs.declared.forms.MonadicForm.TheVariants as one
use Rattle.apl_grammar.specs.declared.forms.DyadicForm.{DyadicForm}
use Rattle.apl_grammar.specs.declared.forms.DyadicForm.TheVariants as two
use Rattle.apl_grammar.specs.Tree.{Expr, value, dyadic, monadic, assign, assign_at, Operand, constant, name, group, index, Slots, last, more, Slot, nothing, given, Axis, none, along}
use Rattle.apl_answer.specs.declared.fault.OpFault.{OpFault}
use Rattle.apl_answer.specs.declared.fault.OpFault.TheVariants as fault
use Rattle.apl_answer.specs.Rows as rows
use Rattle.apl_struct.specs.Axes.{axis_number_of}
use Rattle.apl_struct.specs.Rearranging.{reverse_row}
use Rattle.apl_struct.specs.Indexing.{select_row, replace_row}
use Rattle.apl_reduce.specs.Reducing.{reduce_row}
use Rattle.apl_reduce.specs.Products.{outer_row, inner_row}
use Rattle.apl_scan.specs.Scanning.{scan_row}
use Rattle.apl_print.specs.declared.reports.Report.{Report}
use Rattle.apl_eval.specs.Workspace.{WorkspaceValue, value_of}
use Rattle.apl_eval.specs.Functions.{monadic_column, dyadic_column, error_of, result_of, result_by, default_axis, function_axis, operator_axis, along_number, along as result_along, monadic_plain, dyadic_plain, reversed_along, reduced_along, dyadic_along, monadic_result, dyadic_result, index_result, assign_at_result}
use Rattle.apl_eval.specs.Meaning.{Outcome, done, failed, then, outcome_at, name_result, assign_at_outcome_of, meaning_of, meaning_of_operand, meaning_of_slots, meaning_of_slot, meaning_of_axis}
use Rattle.apl_eval.specs.Reports.{IsOfEvaluation}

-- ---- functions

-- a value, or a report of evaluation
abbrev IsReported : Result ArrayValue Report → Type 0
IsReported result = IfErr result IsOfEvaluation

fault_reported : (fault : OpFault) → IsOfEvaluation (error_of fault)
fault_reported fault.Rank = tt
fault_reported fault.Length = tt
fault_reported fault.Index = tt
fault_reported fault.Domain = tt
fault_reported fault.Limit = tt
fault_reported fault.Memory = tt

answer_reported : (answer : Result ArrayValue OpFault) → IsReported (result_of answer)
answer_reported (Ok array) = tt
answer_reported (Err fault) = fault_reported fault

row_reported : (row : rows.Row) → IsReported (result_by row)
row_reported row = answer_reported (rows.result_of row)

along_number_reported : (origin : Origin) (number : Result ℤ OpFault) (result : WorkAxis → Result ArrayValue Report) → ((axis : WorkAxis) → IsReported (result axis))
    → IsReported (along_number origin number result)
along_number_reported origin (Ok number) result h = h (At number origin)
along_number_reported origin (Err fault) result h = fault_reported fault

along_reported : (origin : Origin) (default : WorkAxis) (axis : Option ArrayValue) (result : WorkAxis → Result ArrayValue Report) → ((axis : WorkAxis) → IsReported (result axis))
    → IsReported (result_along origin default axis result)
along_reported origin default None result h = h default
along_reported origin default (Some axis) result h = along_number_reported origin (axis_number_of axis) result h

reversed_reported : (axis : WorkAxis) (b : ArrayValue) → IsReported (reversed_along axis b)
unfolding reversed_along
reversed_reported axis b = row_reported (reverse_row b axis)

reduced_reported : (operator : Operator) (f : ScalarFunction) (axis : WorkAxis) (b : ArrayValue) → IsReported (reduced_along operator f axis b)
reduced_reported (Reduction default) f axis b = row_reported (reduce_row f b axis)
reduced_reported (Scan default) f axis b = row_reported (scan_row f b axis)

monadic_reported : (origin : Origin) (f : MonadicForm) (axis : Option ArrayValue) (b : ArrayValue) → IsReported (monadic_result origin f axis b)
unfolding monadic_result
monadic_reported origin (one.Plain column f) axis b = answer_reported (monadic_plain origin f b)
monadic_reported origin (one.Reverse column default) axis b = along_reported origin (default_axis default) axis (λ axis. reversed_along axis b) (λ axis. reversed_reported axis b)
monadic_reported origin (one.Reduce column f slash_column operator) axis b =
    along_reported origin (operator_axis operator) axis (λ axis. reduced_along operator f axis b) (λ axis. reduced_reported operator f axis b)

dyadic_reported : (origin : Origin) (f : DyadicForm) (axis : Option ArrayValue) (a b : ArrayValue) → IsReported (dyadic_result origin f axis a b)
unfolding dyadic_result
dyadic_reported origin (two.Plain column f) axis a b = answer_reported (dyadic_plain origin f a b)
dyadic_reported origin (two.Along column f) axis a b =
    along_reported origin (function_axis f) axis (λ axis. result_of (dyadic_along f axis a b)) (λ axis. answer_reported (dyadic_along f axis a b))
dyadic_reported origin (two.Inner left_column f dot right_column g) axis a b = row_reported (inner_row f g a b)
dyadic_reported origin (two.Outer jot dot column f) axis a b = row_reported (outer_row f a b)

index_reported : (origin : Origin) (array : ArrayValue) (slots : List (Option ArrayValue)) → IsReported (index_result origin array slots)
unfolding index_result
index_reported origin array slots = row_reported (select_row array slots origin)

assign_at_reported : (origin : Origin) (array : Option ArrayValue) (slots : List (Option ArrayValue)) (right : ArrayValue) → IsReported (assign_at_result origin array slots right)
unfolding assign_at_result
assign_at_reported origin (Some array) slots right = row_reported (replace_row array slots right origin)
assign_at_reported origin None slots right = tt

name_reported : (found : Option ArrayValue) → IsReported (name_result found)
name_reported (Some v) = tt
name_reported None = tt

-- ---- trees

-- a value, or a report of evaluation at a column
abbrev FailsByEvaluation : {V : Type 0} → Outcome V → Type 0
FailsByEvaluation (done v w) = Unit {0}
FailsByEvaluation (failed report column w) = IsOfEvaluation report

then_fails : {V U : Type 0} (m : Outcome V) (next : V → WorkspaceValue → Outcome U) → FailsByEvaluation m
    → ((v : V) (w : WorkspaceValue) → FailsByEvaluation (next v w)) → FailsByEvaluation (then m next)
then_fails (done v w) next h goes_on = goes_on v w
then_fails (failed report column w) next h goes_on = h

outcome_fails : (column : ℕ) (r : Result ArrayValue Report) (w : WorkspaceValue) → IsReported r → FailsByEvaluation (outcome_at column r w)
outcome_fails column (Ok v) w h = tt
outcome_fails column (Err report) w h = h

assign_at_fails : (r : Result ArrayValue Report) (column : ℕ) (text : List ℕ) (arrow : ℕ) (right : ArrayValue) (w : WorkspaceValue) → IsReported r
    → FailsByEvaluation (assign_at_outcome_of r column text arrow right w)
assign_at_fails (Ok changed) column text arrow right w h = tt
assign_at_fails (Err report) column text arrow right w h = h

mutual
  expression_fails : (e : Expr) (w : WorkspaceValue) → FailsByEvaluation (meaning_of e w)
  expression_fails (value o) w = operand_fails o w
  expression_fails (dyadic o f a e) w =
      then_fails (meaning_of e w) _ (expression_fails e w)
      (λ right u. then_fails (meaning_of_axis a u) _ (axis_fails a u)
      (λ axis v. then_fails (meaning_of_operand o v) _ (operand_fails o v)
      (λ left x. outcome_fails (dyadic_column f) (dyadic_result x.origin f axis left right) x (dyadic_reported x.origin f axis left right))))
  expression_fails (monadic f a e) w =
      then_fails (meaning_of e w) _ (expression_fails e w)
      (λ right u. then_fails (meaning_of_axis a u) _ (axis_fails a u)
      (λ axis v. outcome_fails (monadic_column f) (monadic_result v.origin f axis right) v (monadic_reported v.origin f axis right)))
  expression_fails (assign c n r e) w = then_fails (meaning_of e w) _ (expression_fails e w) (λ right u. tt)
  expression_fails (assign_at c n l s r a e) w =
      then_fails (meaning_of e w) _ (expression_fails e w)
      (λ right u. then_fails (meaning_of_slots s u) _ (slots_fail s u)
      (λ slots v. assign_at_fails (assign_at_result v.origin (value_of n v) slots right) c n a right v (assign_at_reported v.origin (value_of n v) slots right)))

  operand_fails : (o : Operand) (w : WorkspaceValue) → FailsByEvaluation (meaning_of_operand o w)
  operand_fails (constant column v) w = tt
  operand_fails (name column text) w = outcome_fails column (name_result (value_of text w)) w (name_reported (value_of text w))
  operand_fails (group l e r) w = expression_fails e w
  operand_fails (index o l s r) w =
      then_fails (meaning_of_slots s w) _ (slots_fail s w)
      (λ slots u. then_fails (meaning_of_operand o u) _ (operand_fails o u)
      (λ array v. outcome_fails l (index_result v.origin array slots) v (index_reported v.origin array slots)))

  slots_fail : (s : Slots) (w : WorkspaceValue) → FailsByEvaluation (meaning_of_slots s w)
  slots_fail (last s) w = then_fails (meaning_of_slot s w) _ (slot_fails s w) (λ slot u. tt)
  slots_fail (more s c ss) w =
      then_fails (meaning_of_slots ss w) _ (slots_fail ss w)
      (λ slots u. then_fails (meaning_of_slot s u) _ (slot_fails s u) (λ slot v. tt))

  slot_fails : (s : Slot) (w : WorkspaceValue) → FailsByEvaluation (meaning_of_slot s w)
  slot_fails nothing w = tt
  slot_fails (given e) w = then_fails (meaning_of e w) _ (expression_fails e w) (λ v u. tt)

  axis_fails : (a : Axis) (w : WorkspaceValue) → FailsByEvaluation (meaning_of_axis a w)
  axis_fails none w = tt
  axis_fails (along l e r) w = then_fails (meaning_of e w) _ (expression_fails e w) (λ v u. tt)

pub report_of_evaluation : (tree : Expr) (old new : WorkspaceValue) (report : Report) (column : ℕ) → meaning_of tree old ≡ failed report column new → IsOfEvaluation report
report_of_evaluation tree old new report column is =
    let P : Outcome ArrayValue → Type 0 = FailsByEvaluation in
    subst P is (expression_fails tree old)

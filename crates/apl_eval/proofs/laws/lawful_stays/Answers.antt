-- The results of functions keep to all limits, since the answers of the crates below do.
use Rattle.std.proofs.Common.{◌≡◌, ℤ, List, Option, Some, None, Result, Ok, Err, refl}
use Rattle.std.specs.Prelude.{IfOk, IfSome}
use Rattle.apl_array.specs.declared.axis.Axis.{Axis}
use Rattle.apl_array.specs.declared.axis.Axis.TheVariants.{At}
use Rattle.apl_array.specs.declared.axis.Origin.{Origin}
use Rattle.apl_array.specs.Array.{ArrayValue}
use Rattle.apl_array.specs.Limits.{IsWithinLimits}
use Rattle.apl_array.specs.declared.function.ScalarFunction.{ScalarFunction}
use Rattle.apl_grammar.specs.declared.forms.MonadicFunction.{MonadicFunction}
use Rattle.apl_grammar.specs.declared.forms.MonadicFunction.TheVariants as monadic
use Rattle.apl_grammar.specs.declared.forms.DyadicFunction.{DyadicFunction}
use Rattle.apl_grammar.specs.declared.forms.DyadicFunction.TheVariants as dyadic
use Rattle.apl_grammar.specs.declared.forms.AxisFunction.{AxisFunction}
use Rattle.apl_grammar.specs.declared.forms.AxisFunction.TheVariants.{Catenate}
use Rattle.apl_grammar.specs.declared.forms.Operator.{Operator}
use Rattle.apl_grammar.specs.declared.forms.Operator.TheVariants.{Reduction, Scan}
use Rattle.apl_grammar.specs.declared.forms.MonadicForm.{MonadicForm}
use Rattle.apl_grammar.specs.declared.forms.MonadicForm.TheVariants as one
use Rattle.apl_grammar.specs.declared.forms.DyadicForm.{DyadicForm}
use Rattle.apl_grammar.specs.declared.forms.DyadicForm.TheVariants as two
use Rattle.apl_answer.specs.declared.fault.OpFault.{OpFault}
use Rattle.apl_answer.specs.Rows as rows
use Rattle.apl_struct.specs.Axes.{axis_number_of}
use Rattle.apl_struct.specs.Rearranging.{reverse_row}
use Rattle.apl_struct.specs.Indexing.{select_row, replace_row}
use Rattle.apl_reduce.specs.Reducing.{reduce_row}
use Rattle.apl_reduce.specs.Products.{outer_row, inner_row}
use Rattle.apl_scan.specs.Scanning.{scan_row}
use Rattle.apl_print.specs.declared.reports.Report.{Report}
use Rattle.apl_eval.specs.Functions.{result_of, default_axis, function_axis, operator_axis, along_number, along, monadic_plain, dyadic_plain, reversed_along, reduced_along, dyadic_along, monadic_result, dyadic_result, index_result, assign_at_result}
use Rattle.apl_eval.proofs.LawfulLemmas.{ResultsWithinLimits, opening_lawful, origin_lawful, width_lawful, outcome_lawful, evaluated_lawful}
use Rattle.apl_eval.proofs.laws.lawful_stays.Goals as goal

within : (r : Result ArrayValue OpFault) → ((answer : ArrayValue) → r ≡ Ok answer → IsWithinLimits answer) → IfOk (result_of r) IsWithinLimits
within (Ok answer) h = h answer refl
within (Err fault) h = tt

along_number_within : (origin : Origin) (number : Result ℤ OpFault) (result : Axis → Result ArrayValue Report) → ((axis : Axis) → IfOk (result axis) IsWithinLimits)
    → IfOk (along_number origin number result) IsWithinLimits
along_number_within origin (Ok number) result h = h (At number origin)
along_number_within origin (Err fault) result h = tt

along_within : (origin : Origin) (default : Axis) (axis : Option ArrayValue) (result : Axis → Result ArrayValue Report) → ((axis : Axis) → IfOk (result axis) IsWithinLimits)
    → IfOk (along origin default axis result) IsWithinLimits
along_within origin default None result h = h default
along_within origin default (Some axis) result h = along_number_within origin (axis_number_of axis) result h

-- The laws of the crates below. A function that has no line of its own has its law among them.
module _ (laws : goal.After-reduced_answers_are_within_limits) where
  monadic_plain_within : (f : MonadicFunction) → (origin : Origin) (b answer : ArrayValue) → IsWithinLimits b → monadic_plain origin f b ≡ Ok answer → IsWithinLimits answer
  monadic_plain_within (monadic.Scalar f) = λ origin. laws.answers_are_within_limits.ensures.monadic f
  monadic_plain_within _ = assumption

  reversed_within : (axis : Axis) (b : ArrayValue) → IsWithinLimits b → IfOk (reversed_along axis b) IsWithinLimits
  unfolding reversed_along
  reversed_within axis b h = within (rows.result_of (reverse_row b axis)) (λ answer. laws.structural_answers_are_within_limits.ensures.reverse axis b answer h)

  reduced_within : (operator : Operator) (f : ScalarFunction) (axis : Axis) (b : ArrayValue) → IsWithinLimits b → IfOk (reduced_along operator f axis b) IsWithinLimits
  reduced_within (Reduction default) f axis b h = within (rows.result_of (reduce_row f b axis)) (λ answer. laws.reduced_answers_are_within_limits.ensures.reduce f b answer axis h)
  reduced_within (Scan default) f axis b h = within (rows.result_of (scan_row f b axis)) (λ answer. laws.scanned_answers_are_within_limits.ensures f b answer axis h)

  dyadic_plain_within : (f : DyadicFunction) → (origin : Origin) (a b answer : ArrayValue) → IsWithinLimits a → IsWithinLimits b → dyadic_plain origin f a b ≡ Ok answer
      → IsWithinLimits answer
  dyadic_plain_within (dyadic.Scalar f) = λ origin. laws.answers_are_within_limits.ensures.dyadic f
  dyadic_plain_within _ = assumption

  dyadic_along_within : (f : AxisFunction) → (axis : Axis) (a b answer : ArrayValue) → IsWithinLimits a → IsWithinLimits b → dyadic_along f axis a b ≡ Ok answer
      → IsWithinLimits answer
  dyadic_along_within Catenate = assumption
  dyadic_along_within _ = assumption

  monadic_within : (origin : Origin) (f : MonadicForm) (axis : Option ArrayValue) (b : ArrayValue) → IsWithinLimits b → IfOk (monadic_result origin f axis b) IsWithinLimits
  unfolding monadic_result
  monadic_within origin (one.Plain column f) axis b h = within (monadic_plain origin f b) (λ answer. monadic_plain_within f origin b answer h)
  monadic_within origin (one.Reverse column default) axis b h = along_within origin (default_axis default) axis (λ axis. reversed_along axis b) (λ axis. reversed_within axis b h)
  monadic_within origin (one.Reduce column f slash_column operator) axis b h =
      along_within origin (operator_axis operator) axis (λ axis. reduced_along operator f axis b) (λ axis. reduced_within operator f axis b h)

  dyadic_within : (origin : Origin) (f : DyadicForm) (axis : Option ArrayValue) (a b : ArrayValue) → IsWithinLimits a → IsWithinLimits b
      → IfOk (dyadic_result origin f axis a b) IsWithinLimits
  unfolding dyadic_result
  dyadic_within origin (two.Plain column f) axis a b h k = within (dyadic_plain origin f a b) (λ answer. dyadic_plain_within f origin a b answer h k)
  dyadic_within origin (two.Along column f) axis a b h k =
      along_within origin (function_axis f) axis (λ axis. result_of (dyadic_along f axis a b))
      (λ axis. within (dyadic_along f axis a b) (λ answer. dyadic_along_within f axis a b answer h k))
  dyadic_within origin (two.Inner left_column f dot right_column g) axis a b h k = within (rows.result_of (inner_row f g a b)) (λ answer. laws.reduced_answers_are_within_limits.ensures.inner f g a b answer h k)
  dyadic_within origin (two.Outer jot dot column f) axis a b h k = within (rows.result_of (outer_row f a b)) (λ answer. laws.reduced_answers_are_within_limits.ensures.outer f a b answer h k)

  index_within : (origin : Origin) (array : ArrayValue) (slots : List (Option ArrayValue)) → IsWithinLimits array → IfOk (index_result origin array slots) IsWithinLimits
  unfolding index_result
  index_within origin array slots h = within (rows.result_of (select_row array slots origin)) (λ answer. laws.structural_answers_are_within_limits.ensures.select array answer slots origin h)

  assign_at_within : (origin : Origin) (array : Option ArrayValue) (slots : List (Option ArrayValue)) (value : ArrayValue) → IfSome array IsWithinLimits
      → IsWithinLimits value → IfOk (assign_at_result origin array slots value) IsWithinLimits
  unfolding assign_at_result
  assign_at_within origin (Some array) slots value h k =
      within (rows.result_of (replace_row array slots value origin)) (λ answer. laws.structural_answers_are_within_limits.ensures.replace array value answer slots origin h k)
  assign_at_within origin None slots value h k = tt

  results_within_limits : ResultsWithinLimits
  results_within_limits = record { monadic = monadic_within; dyadic = dyadic_within; index = index_within; assign_at = assign_at_within }

pub returns-clause-opening : goal.returns-clause-opening
returns-clause-opening c = opening_lawful

pub returns-clause-origin : goal.returns-clause-origin
returns-clause-origin c = origin_lawful

pub returns-clause-width : goal.returns-clause-width
returns-clause-width c = width_lawful

pub returns-clause-outcome : goal.returns-clause-outcome
returns-clause-outcome c = outcome_lawful (results_within_limits c)

pub returns-clause-evaluated : goal.returns-clause-evaluated
returns-clause-evaluated c = evaluated_lawful (results_within_limits c)

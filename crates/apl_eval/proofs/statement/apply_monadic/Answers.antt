use Rattle.std.proofs.Common.{◌≡◌, ◌∷◌, ◌∙◌, ap, Some}
use Rattle.std.specs.Prelude.{is_some}
use Rattle.apl_eval.specs.Functions.{monadic_column, monadic_result}
use Rattle.apl_eval.specs.Meaning.{outcome_at}
use Rattle.apl_eval.specs.Steps.{item_of, under_axis, HasValue}
use Rattle.apl_eval.proofs.StackLemmas.{has_axis, below_axis, some_item, step-monadic}
use Rattle.apl_eval.proofs.statement.apply_monadic.Goals as goal

pub pop_axis-axis-requires : goal.pop_axis-axis-requires
pop_axis-axis-requires g c = rw c.brackets.ensures (has_axis HasValue c.args.axis.now c.args.stack.now c.requires)

pub pop_value-right-requires : goal.pop_value-right-requires
pop_value-right-requires g c =
    let axis = c.pop_axis-axis.result in
    let some : is_some (item_of axis) ≡ is_some c.args.axis.now = some_item axis ∙ c.pop_axis-axis.ensures.axis ∙ ap is_some c.brackets.ensures in
    below_axis HasValue c.args.axis.now c.args.stack.now (item_of axis) c.pop_axis-axis.new.self c.requires some c.pop_axis-axis.ensures.items

pub returns : goal.returns
returns g c w same_origin =
    let form = c.args.form.now in
    let axis = c.pop_axis-axis.result in
    let right = c.pop_value-right.result.value in
    let below = c.pop_value-right.new.self in
    let some : is_some (item_of axis) ≡ is_some c.args.axis.now = some_item axis ∙ c.pop_axis-axis.ensures.axis ∙ ap is_some c.brackets.ensures in
    let stack : c.args.stack.now ≡ under_axis (item_of axis) (Some right ∷ below) = c.pop_axis-axis.ensures.items ∙ ap (under_axis (item_of axis)) c.pop_value-right.ensures in
    let is = step-monadic w form c.args.axis.now (item_of axis) right below c.args.stack.now some stack in
    let wanted = monadic_result w.origin form (item_of axis) right in
    let answers = rw (← same_origin, c.array_of-axis.ensures, c.deref.ensures) at c.monadic-answer.ensures in
    let outcome = rw c.monadic_column.ensures at (c.outcome_at.ensures wanted w answers) in
    rw is (c.put.ensures (outcome_at (monadic_column form) wanted w) w outcome)

use Rattle.std.proofs.Common.{◌≡◌, ◌∷◌, ◌∙◌, ap, Some}
use Rattle.std.specs.Prelude.{is_some}
use Rattle.apl_eval.specs.Functions.{dyadic_column, dyadic_result}
use Rattle.apl_eval.specs.Meaning.{outcome_at}
use Rattle.apl_eval.specs.Steps.{item_of, under_axis, HasValue, HasAxisAbove}
use Rattle.apl_eval.proofs.StackLemmas.{has_value, below_value, has_axis, below_axis, some_item, step-dyadic}
use Rattle.apl_eval.proofs.statement.apply_dyadic.Goals as goal

pub pop_value-left-requires : goal.pop_value-left-requires
pop_value-left-requires g c = has_value (HasAxisAbove HasValue c.args.axis.now) c.args.stack.now c.requires

pub pop_axis-axis-requires : goal.pop_axis-axis-requires
pop_axis-axis-requires g c =
    let items = c.pop_value-left.new.self in
    let below_left = below_value (HasAxisAbove HasValue c.args.axis.now) c.args.stack.now c.pop_value-left.result.value items c.requires c.pop_value-left.ensures in
    rw c.brackets.ensures (has_axis HasValue c.args.axis.now items below_left)

pub pop_value-right-requires : goal.pop_value-right-requires
pop_value-right-requires g c =
    let items = c.pop_value-left.new.self in
    let axis = c.pop_axis-axis.result in
    let below_left = below_value (HasAxisAbove HasValue c.args.axis.now) c.args.stack.now c.pop_value-left.result.value items c.requires c.pop_value-left.ensures in
    let some : is_some (item_of axis) ≡ is_some c.args.axis.now = some_item axis ∙ c.pop_axis-axis.ensures.axis ∙ ap is_some c.brackets.ensures in
    below_axis HasValue c.args.axis.now items (item_of axis) c.pop_axis-axis.new.self below_left some c.pop_axis-axis.ensures.items

pub returns : goal.returns
returns g c w same_origin =
    let form = c.args.form.now in
    let left = c.pop_value-left.result.value in
    let axis = c.pop_axis-axis.result in
    let right = c.pop_value-right.result.value in
    let below = c.pop_value-right.new.self in
    let some : is_some (item_of axis) ≡ is_some c.args.axis.now = some_item axis ∙ c.pop_axis-axis.ensures.axis ∙ ap is_some c.brackets.ensures in
    let stack : c.args.stack.now ≡ Some left ∷ under_axis (item_of axis) (Some right ∷ below) =
    c.pop_value-left.ensures ∙ ap (λ items. Some left ∷ items) (c.pop_axis-axis.ensures.items ∙ ap (under_axis (item_of axis)) c.pop_value-right.ensures) in
    let is = step-dyadic w form c.args.axis.now left (item_of axis) right below c.args.stack.now some stack in
    let wanted = dyadic_result w.origin form (item_of axis) left right in
    let answers = rw (← same_origin, c.array_of-axis.ensures, c.deref.ensures, c.deref-2.ensures) at c.dyadic-answer.ensures in
    let outcome = rw c.dyadic_column.ensures at (c.outcome_at.ensures wanted w answers) in
    rw is (c.put.ensures (outcome_at (dyadic_column form) wanted w) w outcome)

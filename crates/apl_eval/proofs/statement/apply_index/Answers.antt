use Rattle.std.proofs.Common.{◌≡◌, ◌+◌, ◌∷◌, ◌++◌, List, length, map, ◌∙◌, ap, Some}
use Rattle.std.specs.Prelude.{option_copied}
use Rattle.apl_eval.specs.Functions.{index_result}
use Rattle.apl_eval.specs.Meaning.{outcome_at}
use Rattle.apl_eval.specs.Steps.{Item, HasSlotsAbove}
use Rattle.apl_eval.proofs.StackLemmas.{below_value, enough_slots, step-index}
use Rattle.apl_eval.proofs.statement.apply_index.Goals as goal

pub pop_slots-requires : goal.pop_slots-requires
pop_slots-requires g c =
    let count = length c.args.semicolons.now + 1 in
    let items = c.pop_value-array.new.self in
    let slots = below_value (HasSlotsAbove (λ (below : List Item). Unit {0}) count) c.args.stack.now c.pop_value-array.result.value items c.requires c.pop_value-array.ensures in
    enough_slots (λ (below : List Item). Unit {0}) count items slots

pub returns : goal.returns
returns g c w same_origin =
    let array = c.pop_value-array.result.value in
    let slots = c.in_ok-slots.slots in
    let below = c.pop_slots.new.self in
    let stack : c.args.stack.now ≡ Some array ∷ slots ++ below = c.pop_value-array.ensures ∙ ap (λ items. Some array ∷ items) c.in_ok-slots.ensures.items in
    let count : length slots ≡ length c.args.semicolons.now + 1 = c.in_ok-slots.ensures.count in
    let is = step-index w c.args.semicolons.now c.args.brackets.now array slots below c.args.stack.now count stack in
    let chosen : map option_copied c.as_slice.result.now ≡ slots = ap (map option_copied) c.as_slice.ensures.value ∙ c.in_ok-chosen.ensures in
    let wanted = index_result w.origin array slots in
    let answers = rw (← same_origin, c.deref.ensures, chosen) at c.index-answer.ensures in
    rw is (c.put.ensures (outcome_at c.args.brackets.now.left wanted w) w (c.outcome_at.ensures wanted w answers))

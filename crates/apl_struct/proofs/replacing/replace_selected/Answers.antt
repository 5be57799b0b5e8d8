use Rattle.std.proofs.Common.{◌≡◌, ◌-◌, ℕ, List, ◌∷◌, length, take, drop, Some, refl, ap, ◌∙◌, arith}
use Rattle.std.proofs.lemmas.Result.{on_ok_weaker}
use Rattle.apl_array.specs.declared.array.Elem.{Elem}
use Rattle.apl_array.specs.Shape.{count_of}
use Rattle.apl_walk.specs.Maps.{extent_of, walked}
use Rattle.apl_walk.specs.Walks.{maps_of}
use Rattle.apl_struct.specs.Indexing.{Slots, last_choice, replaced_element}
use Rattle.apl_struct.specs.Numbering.{place_or_zero, chosen_at, last_number, number_at, element_numbered, value_step}
use Rattle.apl_struct.specs.Selecting.{chosen_index, chosen_place}
use Rattle.apl_struct.proofs.Replacement.{same_numbers, joined_parts, last_chosen, own_answer}
use Rattle.apl_struct.proofs.replacing.replace_selected.Goals as goal

pub returns-then-count-eq0-clause-ok : goal.returns-then-count-eq0-clause-ok
returns-then-count-eq0-clause-ok g c =
    let slots : Slots = c.args.slots.now in
    let none : count_of c.args.selected.now ≡ 0 = omega (arith, c.count-count.ensures.count, c.if-count-eq0.true) in
    rw none (own_answer c.answer_is_each_outcome.ensures.array c.args.a.now c.kind-kind.ensures.lawful)

pub write_chosen-requires-clause-within : goal.write_chosen-requires-clause-within
write_chosen-requires-clause-within g c κs lives = λ place inside.
    let shape = c.args.a.now.shape in
    let slots : Slots = c.args.slots.now in
    let maps = c.as_slice.result.now in
    let below = c.places_match_index_lists.ensures.below shape (chosen_index c.args.origin c.args.selected.now slots place) (c.in_ok-walk.ensures.lawful place) in
    let parts : c.last-item.result ∷ take (length maps - 1) (drop 1 maps) ≡ maps_of c.in_ok-walk.walk =
    joined_parts maps c.last-item.result (omega arith) c.last-item.is ∙ c.as_slice.ensures.value ∙ c.in_ok-maps.ensures.maps in
    let reaches = ap (λ ms. walked ms place) parts ∙ c.in_ok-walk.ensures.place place in
    rw reaches below

pub returns-clause-ok : goal.returns-clause-ok
returns-clause-ok g c =
    let a = c.args.a.now in
    let b = c.args.b.now in
    let slots : Slots = c.args.slots.now in
    let selected = c.args.selected.now in
    let law = c.places_match_index_lists.ensures in
    let maps = c.as_slice.result.now in
    let last = c.last-item.result in
    let others = take (length maps - 1) (drop 1 maps) in
    let chosen = chosen_place c.args.origin a.shape selected slots in
    let parts : last ∷ others ≡ maps_of c.in_ok-walk.walk = joined_parts maps last (omega arith) c.last-item.is ∙ c.as_slice.ensures.value ∙ c.in_ok-maps.ensures.maps in
    let extent : extent_of (last ∷ others) ≡ count_of selected = ap extent_of parts ∙ c.in_ok-walk.ensures.extent in
    let reaches : (p : ℕ) → walked (last ∷ others) p ≡ Some (chosen p) = λ p. ap (λ ms. walked ms p) parts ∙ c.in_ok-walk.ensures.place p in
    let element : List ℕ → Elem = λ index. replaced_element a b index (last_choice c.args.origin slots selected index (count_of selected)) in
    on_ok_weaker c.write_chosen.result
    (λ written. written element (λ place inside.
    let step = c.value_step-step.result in
    let number : number_at (last ∷ others) step place ≡ last_number chosen (value_step b) place (count_of selected) =
    same_numbers (chosen_at (last ∷ others)) chosen step place (extent_of (last ∷ others)) (λ m below. ap place_or_zero (reaches m))
    ∙ rw (extent, c.value_step-step.ensures.value) refl in
    ap (λ n. element_numbered a b n place) number
    ∙ last_chosen law.same_index law.lawful law.same_place c.args.origin a b slots selected c.in_ok-walk.ensures.lawful c.requires.values c.kind-kind.ensures.lawful c.value_step-step.ensures.lawful
    place (count_of selected) inside (omega arith)))
    c.write_chosen.ensures.ok

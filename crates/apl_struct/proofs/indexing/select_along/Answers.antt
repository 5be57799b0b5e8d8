use Rattle.std.proofs.Common.{◌≡◌, map, ap, ◌∙◌}
use Rattle.std.specs.Prelude.{option_copied}
use Rattle.apl_array.specs.Array.{element_at}
use Rattle.apl_struct.specs.Indexing.{Slots, select_source, selected_shape}
use Rattle.apl_struct.specs.Selecting.{chosen_index}
use Rattle.apl_struct.proofs.Elements.{filled_within}
use Rattle.apl_struct.proofs.indexing.select_along.Goals as goal

pub returns-then-count-eq0 : goal.returns-then-count-eq0
returns-then-count-eq0 g c =
    let a = c.args.a.now in
    let slots : Slots = map option_copied c.args.slots.now in
    let judged = c.in_ok-slots.ensures in
    let shape_is : c.in_ok-slots.shape ≡ selected_shape a.shape slots = judged.0.1.shape_is ∙ ap (selected_shape a.shape) judged.0.0 in
    rw judged.1 ((rw shape_is at c.empty.ensures) _)

pub returns : goal.returns
returns g c =
    let a = c.args.a.now in
    let slots : Slots = map option_copied c.args.slots.now in
    let judged = c.in_ok-slots.ensures in
    let shape = c.in_ok-slots.shape in
    let shape_is : shape ≡ selected_shape a.shape slots = judged.0.1.shape_is ∙ ap (selected_shape a.shape) judged.0.0 in
    let same : c.as_slice.result.now ≡ slots = c.as_slice.ensures.value ∙ judged.0.0 in
    let given = c.gather.ensures (λ index. element_at a (select_source c.args.origin slots index)) (λ place inside.
    rw (c.in_ok-walk.ensures.place place, same)
    (filled_within c.places_match_index_lists.ensures.below a (chosen_index c.args.origin shape slots place) c.kind-kind.ensures.lawful
    (rw same at (c.in_ok-walk.ensures.lawful place)))) in
    rw judged.1 (rw shape_is at given)

use Rattle.std.proofs.Common.{◌≡◌, ℤ, true, map, slice_index, sym, ap, subst, ◌∙◌, [], ◌∷◌}
use Rattle.std.proofs.lemmas.List.{map-id}
use Rattle.apl_array.specs.Axes.{origin_number}
use Rattle.apl_array.specs.Array.{number_array}
use Rattle.apl_answer.specs.Arguments.{is_numbers, numbers_of}
use Rattle.apl_answer.specs.Pointwise.{IsAnswerAt}
use Rattle.apl_struct.specs.Chosen.{chosen_at}
use Rattle.apl_struct.proofs.Counts.{numbers_kept}
use Rattle.apl_struct.proofs.OneSlot.{one_slot}
use Rattle.apl_struct.proofs.Elements.{one_item}
use Rattle.apl_struct.proofs.chosen.select_of_vector.Goals as goal

pub returns-in-Narrow : goal.returns-in-Narrow
returns-in-Narrow g c =
    let a = c.args.a.now in
    let s = c.args.slot.now in
    let items = c.in-Narrow.numbers.now in
    let result = c.chosen_elements.result in
    let vector : a.shape ≡ slice_index a.shape 0 ∷ [] = one_item a.shape 0 c.requires in
    let shape : c.in_ok-shape.shape ≡ s.shape = c.in_ok-shape.ensures.shape ∙ c.lengths.ensures.lengths ∙ c.shape.ensures.shape in
    let array : s ≡ number_array s.shape items = c.in-Narrow.ensures.elements in
    let numbers : numbers_of s ≡ map (λ (x : ℤ). x) items = ap numbers_of array ∙ numbers_kept items ∙ sym (map-id items) in
    let all : is_numbers s ≡ true = ap is_numbers array in
    one_slot c.args.origin a s (slice_index a.shape 0) c.kind-kind.ensures.lawful c.in-Narrow.ensures.lawful vector result all
    (rw shape at c.in_ok-shape.ensures.test)
    (subst (λ lengths. IsAnswerAt lengths a.kind (chosen_at a.ravel (numbers_of s) (origin_number c.args.origin)) result) shape
    (rw numbers c.chosen_elements.ensures))

pub returns : goal.returns
returns g c =
    let a = c.args.a.now in
    let s = c.args.slot.now in
    let result = c.chosen_elements-2.result in
    let vector : a.shape ≡ slice_index a.shape 0 ∷ [] = one_item a.shape 0 c.requires in
    let shape : c.in_ok-shape.shape ≡ s.shape = c.in_ok-shape.ensures.shape ∙ c.lengths.ensures.lengths ∙ c.shape.ensures.shape in
    let items = c.as_slice.result.now in
    let numbers : numbers_of s ≡ map (λ (x : ℤ). x) items = c.in_ok-numbers.ensures.numbers.1 ∙ sym c.as_slice.ensures ∙ sym (map-id items) in
    one_slot c.args.origin a s (slice_index a.shape 0) c.kind-kind.ensures.lawful c.in_ok-numbers.ensures.lawful vector result c.in_ok-numbers.ensures.numbers.0
    (rw shape at c.in_ok-shape.ensures.test)
    (subst (λ lengths. IsAnswerAt lengths a.kind (chosen_at a.ravel (numbers_of s) (origin_number c.args.origin)) result) shape
    (rw numbers c.chosen_elements-2.ensures))

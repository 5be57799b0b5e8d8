use Rattle.std.proofs.Common.{◌≡◌, ℤ, true, map, ◌==◌, sym, ap, ◌∙◌, rules}
use Rattle.std.specs.Prelude.{◌||◌}
use Rattle.std.specs.List.{list_all}
use Rattle.std.proofs.lemmas.List.{map-id}
use Rattle.apl_array.specs.Axes.{place_number}
use Rattle.apl_array.specs.Shape.{is_shape, count_of, place_of}
use Rattle.apl_array.specs.Array.{element_in}
use Rattle.apl_answer.specs.Arguments.{is_list, is_natural, has_elements, numbers_of, size_of}
use Rattle.apl_struct.specs.Building.{reshape_source, reshape_row}
use Rattle.apl_struct.proofs.Elements.{element_again}
use Rattle.apl_struct.proofs.Passing.{answered}
use Rattle.apl_struct.proofs.building.reshape.Goals as goal

pub returns : goal.returns
returns g c =
    let a = c.args.a.now in
    let b = c.args.b.now in
    let row = reshape_row a b in
    let shape = map place_number (numbers_of a) in
    let numbers : numbers_of a ≡ c.as_slice-numbers.result.now = c.in_ok-numbers.ensures.numbers.1 ∙ sym c.as_slice-numbers.ensures in
    let list : is_list a ≡ true = search rules in
    let judged : list_all is_natural (map (λ (z : ℤ). z) c.as_slice-numbers.result.now) ≡ true = search rules in
    let natural : list_all is_natural (numbers_of a) ≡ true = ap (list_all is_natural) (numbers ∙ sym (map-id c.as_slice-numbers.result.now)) ∙ judged in
    let shapes : c.in_ok-shape.shape ≡ shape = c.in_ok-shape.ensures.1 ∙ ap (map place_number) (sym numbers) in
    let lawful : is_shape shape ≡ true = ap (λ ns. is_shape (map place_number ns)) numbers ∙ c.in_ok-shape.ensures.0 in
    let fits : (has_elements b || (count_of shape == 0)) ≡ true = search rules in
    let repeated =
    c.repeat.ensures (λ index. element_in b (reshape_source (size_of b) (place_of c.in_ok-shape.shape index))) (λ place inside.
    element_again b (count_of c.in_ok-shape.shape) place c.shape-3.ensures.lawful (rw (sym shapes) at fits) inside
    ∙ ap (λ p. element_in b (reshape_source (size_of b) p)) (sym (c.places_match_index_lists.ensures.same_place c.in_ok-shape.shape place inside))) in
    answered row c.repeat.result (list, (c.in_ok-numbers.ensures.numbers.0, (natural, (lawful, (fits, tt))))) (rw shapes at repeated)

use Rattle.std.proofs.Common.{◌≡◌, ℤ, ◌+◌, pos, true, [], ◌∷◌, Ok, map, slice_index, sym, ap, ◌∙◌, rules}
use Rattle.std.specs.List.{list_all}
use Rattle.std.proofs.lemmas.List.{map-id}
use Rattle.apl_array.specs.declared.array.Elem.TheVariants.{Int}
use Rattle.apl_array.specs.Axes.{origin_number, place_number}
use Rattle.apl_array.specs.Shape.{is_shape}
use Rattle.apl_answer.specs.Arguments.{has_one_element, is_list, is_natural, number_of, numbers_of, only_element, size_of}
use Rattle.apl_struct.specs.Building.{iota_row}
use Rattle.apl_struct.proofs.Elements.{only_number, origin_cast, vector_index}
use Rattle.apl_struct.proofs.Passing.{answered}
use Rattle.apl_struct.proofs.building.iota.Goals as goal

pub returns : goal.returns
returns g c =
    let n = c.args.n.now in
    let origin = c.args.origin in
    let row = iota_row n origin in
    let length = place_number (number_of (only_element n)) in
    let list : is_list n ≡ true = search rules in
    let one : size_of n ≡ 1 = search rules in
    let one_element : has_one_element n.shape ≡ true = search rules in
    let numbers : numbers_of n ≡ c.as_slice-numbers.result.now = c.in_ok-numbers.ensures.numbers.1 ∙ sym c.as_slice-numbers.ensures in
    let judged : list_all is_natural (map (λ (z : ℤ). z) c.as_slice-numbers.result.now) ≡ true = search rules in
    let natural : list_all is_natural (numbers_of n) ≡ true = ap (list_all is_natural) (numbers ∙ sym (map-id c.as_slice-numbers.result.now)) ∙ judged in
    let lengths : map place_number c.as_slice-numbers.result.now ≡ length ∷ [] = ap (map place_number) (sym numbers) ∙ only_number n c.shape.ensures.lawful one in
    let shapes : c.in_ok-shape.shape ≡ length ∷ [] = c.in_ok-shape.ensures.1 ∙ lengths in
    let lawful : is_shape (length ∷ []) ≡ true = ap is_shape (sym lengths) ∙ c.in_ok-shape.ensures.0 in
    let first = origin_cast origin c.number-first.result c.number-first.ensures.value in
    answered row c.fill_array.result (list, (one_element, (c.in_ok-numbers.ensures.numbers.0, (natural, (lawful, tt)))))
    (rw shapes at
    (c.fill_array.ensures (λ index. Ok (Int (pos (origin_number origin + slice_index index 0))))
    (λ place inside.
    ap (λ k. Ok (Int (pos (k + place)))) first ∙ ap (λ p. Ok (Int (pos (origin_number origin + p)))) (sym (vector_index c.in_ok-shape.shape length place shapes inside).1))))

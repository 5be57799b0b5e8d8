-- ⍴B, ,B, A⍴B and ⍳N.
use Rattle.std.specs.Prelude.{ℕ, pos, ◌+◌, ◌%◌, [], ◌∷◌, map, ◌||◌, ◌==◌, slice_index}
use Rattle.std.specs.List.{list_all}
use Rattle.apl_array.specs.declared.array.Elem.TheVariants.{Int}
use Rattle.apl_array.specs.declared.array.Kind.TheVariants.{Number}
use Rattle.apl_array.specs.declared.axis.Origin.{Origin}
use Rattle.apl_array.specs.Axes.{origin_number, place_number}
use Rattle.apl_array.specs.Shape.{is_shape, count_of, place_of}
use Rattle.apl_array.specs.Array.{ArrayValue, element_in}
use Rattle.apl_answer.specs.declared.fault.OpFault.TheVariants.{Rank, Length, Domain, Limit}
use Rattle.apl_answer.specs.Arguments.{rank_of, size_of, has_elements, has_one_element, is_list, is_numbers, is_natural, number_of, numbers_of, only_element}
use Rattle.apl_answer.specs.Rows.{Row, array_row}

-- ⍴B: the vector of the axis lengths
abbrev pub shape_of_row : ArrayValue → Row
shape_of_row b = array_row [] (rank_of b ∷ []) Number (λ index. Int (pos (slice_index b.shape (slice_index index 0))))

-- ,B: the vector of the elements in row order
abbrev pub ravel_row : ArrayValue → Row
ravel_row b = array_row [] (size_of b ∷ []) b.kind (λ index. element_in b (slice_index index 0))

-- the place in an argument of this many elements for a place of the result: the same, counted round
abbrev pub reshape_source : (size place : ℕ) → ℕ
reshape_source size place = place % size

-- A⍴B: the shape A with B's elements in row order, again and again
abbrev pub reshape_row : ArrayValue → ArrayValue → Row
reshape_row a b =
    let shape = map place_number (numbers_of a) in
    array_row
    ((is_list a, Rank) ∷ (is_numbers a, Domain) ∷ (list_all is_natural (numbers_of a), Domain) ∷ (is_shape shape, Limit)
    ∷ (has_elements b || (count_of shape == 0), Length) ∷ [])
    shape b.kind (λ index. element_in b (reshape_source (size_of b) (place_of shape index)))

-- ⍳N: N numbers, the first of which is the origin
abbrev pub iota_row : ArrayValue → Origin → Row
iota_row n origin =
    let shape = place_number (number_of (only_element n)) ∷ [] in
    array_row
    ((is_list n, Rank) ∷ (has_one_element n.shape, Length) ∷ (is_numbers n, Domain) ∷ (list_all is_natural (numbers_of n), Domain)
    ∷ (is_shape shape, Limit) ∷ [])
    shape Number (λ index. Int (pos (origin_number origin + slice_index index 0)))

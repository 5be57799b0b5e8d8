-- ⌽B, A⌽B, ⍉B and A⍉B.
use Rattle.std.specs.Prelude.{ℕ, ℤ, pos, ◌+◌, ◌-◌, ◌+ℤ◌, ◌==◌, max, List, [], ◌∷◌, map, reverse, Bool, ◌&&◌, ◌||◌, if◌then◌else◌, slice_index, remove}
use Rattle.std.specs.List.{list_all, list_any, range_with_len}
use Rattle.std.specs.Int.{int_rem_euclid}
use Rattle.apl_array.specs.declared.axis.Axis.{Axis}
use Rattle.apl_array.specs.declared.axis.Origin.{Origin}
use Rattle.apl_array.specs.Axes.{from_origin, place_number, has_axis, axis_of}
use Rattle.apl_array.specs.Array.{ArrayValue, element_at}
use Rattle.apl_array.specs.Transposition.{source_index, transposed_shape}
use Rattle.apl_answer.specs.declared.fault.OpFault.TheVariants.{Rank, Length, Index, Domain}
use Rattle.apl_answer.specs.Arguments.{rank_of, size_of, has_one_element, is_list, is_numbers, is_natural, is_same_shape, number_of, numbers_of, only_element}
use Rattle.apl_answer.specs.Rows.{Row}
use Rattle.apl_struct.specs.Gathering.{gathered_row, along_axis}

-- index i of an axis of length n takes n - 1 - i
abbrev pub reversed_index : (n i : ℕ) → ℕ
reversed_index n i = n - 1 - i

-- ⌽B
abbrev pub reverse_row : ArrayValue → Axis → Row
reverse_row b axis =
    let k = axis_of axis (rank_of b) in
    let n = slice_index b.shape k in
    gathered_row ((has_axis axis (rank_of b), Index) ∷ []) b.shape b (along_axis k (reversed_index n))

-- by how much the line along axis k through an index list is rotated: A's only element serves all lines
abbrev pub rotation_at : ArrayValue → ℕ → List ℕ → ℤ
rotation_at a k index = number_of (if has_one_element a.shape then only_element a else element_at a (remove index k))

-- index i of an axis of length n takes the remainder of i plus the rotation by n
abbrev pub rotated_index : (rotation : ℤ) (n i : ℕ) → ℕ
rotated_index rotation n i = place_number (int_rem_euclid (pos i +ℤ rotation) (pos n))

-- A⌽B
abbrev pub rotate_row : ArrayValue → ArrayValue → Axis → Row
rotate_row a b axis =
    let k = axis_of axis (rank_of b) in
    let n = slice_index b.shape k in
    gathered_row
    ((has_axis axis (rank_of b), Index) ∷ (has_one_element a.shape || (rank_of a + 1 == rank_of b), Rank)
    ∷ (has_one_element a.shape || is_same_shape a.shape (remove b.shape k), Length) ∷ (is_numbers a, Domain) ∷ [])
    b.shape b (λ index. along_axis k (rotated_index (rotation_at a k index) n) index)

-- ⍉B: the axes in reverse order
abbrev pub transpose_row : ArrayValue → Row
transpose_row b = gathered_row [] (reverse b.shape) b reverse

-- ---- A⍉B, where `axes` has for each axis of B the axis of the result that it becomes. Where several become one, it has the
-- least of their lengths, and each takes its index

-- how many axes the result has: one more than the greatest
abbrev pub named_axes : List ℕ → ℕ
named_axes [] = 0
named_axes (j ∷ axes) = max (j + 1) (named_axes axes)

-- the axes are exactly those from 0 to the greatest
abbrev pub are_all_named : List ℕ → Bool
are_all_named axes = list_all (λ j. list_any (λ axis. axis == j) axes) (range_with_len 0 (named_axes axes))

-- A⍉B: axis i of B becomes axis A[i] less the origin
abbrev pub transpose_by_row : ArrayValue → ArrayValue → Origin → Row
transpose_by_row a b origin =
    let numbers = map (from_origin origin) (numbers_of a) in
    let axes = map place_number numbers in
    gathered_row
    ((is_list a, Rank) ∷ (size_of a == rank_of b, Length) ∷ (is_numbers a, Domain) ∷ (list_all is_natural numbers && are_all_named axes, Domain) ∷ [])
    (transposed_shape (named_axes axes) axes b.shape) b (source_index axes)

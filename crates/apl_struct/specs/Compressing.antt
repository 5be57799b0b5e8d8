-- A/B and A\B.
use Rattle.std.specs.Prelude.{ℕ, ℤ, ◌==◌, List, [], ◌∷◌, ◌++◌, map, take, Bool, ◌&&◌, ◌||◌, Option, Some, None, if◌then◌else◌, slice_index, slice_set, replicate, sum, length, flat_map}
use Rattle.std.specs.List.{list_all, range_with_len}
use Rattle.apl_array.specs.declared.axis.Axis.{Axis}
use Rattle.apl_array.specs.Axes.{place_number, has_axis, axis_of}
use Rattle.apl_array.specs.Shape.{is_shape}
use Rattle.apl_array.specs.Array.{ArrayValue}
use Rattle.apl_answer.specs.declared.fault.OpFault.TheVariants.{Rank, Length, Index, Domain, Limit}
use Rattle.apl_answer.specs.Arguments.{rank_of, size_of, has_one_element, is_scalar, is_list, is_numbers, is_natural, is_bit, number_of, numbers_of, only_element}
use Rattle.apl_answer.specs.Rows.{Row, Check}
use Rattle.apl_struct.specs.Gathering.{gathered_row, filled_row, along_axis, along_axis_or_none}

-- a scalar serves as a vector of n
abbrev pub as_vector : ℕ → ArrayValue → ArrayValue
as_vector n b = record { shape = if is_scalar b then n ∷ [] else b.shape; kind = b.kind; ravel = if is_scalar b then replicate n (only_element b) else b.ravel }

-- how often each index of an axis of length n is taken: A's only element serves all
abbrev pub counts_of : ArrayValue → ℕ → List ℕ
counts_of a n = if has_one_element a.shape then replicate n (place_number (number_of (only_element a))) else map place_number (numbers_of a)

-- an axis of b that is there, and A with one such number for each of its indexes or for all of them
abbrev pub counting_checks : ArrayValue → ArrayValue → Axis → (ℤ → Bool) → List Check
counting_checks a b axis is_count =
    (has_axis axis (rank_of b), Index) ∷ (is_list a, Rank) ∷ (has_one_element a.shape || (size_of a == slice_index b.shape (axis_of axis (rank_of b))), Length)
    ∷ (is_numbers a && list_all is_count (numbers_of a), Domain) ∷ []

-- each index as often as its count says, in order
abbrev pub repeated_indexes : List ℕ → List ℕ
repeated_indexes counts = flat_map (λ i. replicate (slice_index counts i) i) (range_with_len 0 (length counts))

-- A/B: index i of the axis is taken A[i] times
abbrev pub replicate_row : ArrayValue → ArrayValue → Axis → Row
replicate_row a b axis =
    let c = as_vector (size_of a) b in
    let k = axis_of axis (rank_of c) in
    let counts = counts_of a (slice_index c.shape k) in
    let shape = slice_set c.shape k (sum counts) in
    gathered_row (counting_checks a c axis is_natural ++ (is_shape shape, Limit) ∷ [])
    shape c (along_axis k (slice_index (repeated_indexes counts)))

-- index i of the axis takes the next index at each 1, and none at a 0
abbrev pub expanded_index : List ℕ → ℕ → Option ℕ
expanded_index bits i = if slice_index bits i == 1 then Some (sum (take i bits)) else None

-- A\B: the axis gets A's count, with fills at the zeros
abbrev pub expand_row : ArrayValue → ArrayValue → Axis → Row
expand_row a b axis =
    let bits = map place_number (numbers_of a) in
    let c = as_vector (sum bits) b in
    let k = axis_of axis (rank_of c) in
    let shape = slice_set c.shape k (size_of a) in
    filled_row
    ((has_axis axis (rank_of c), Index) ∷ (is_list a, Rank) ∷ (is_numbers a && list_all is_bit (numbers_of a), Domain)
    ∷ (sum bits == slice_index c.shape k, Length) ∷ (is_shape shape, Limit) ∷ [])
    shape c (along_axis_or_none k (expanded_index bits))

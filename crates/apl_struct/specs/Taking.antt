-- A↑B and A↓B.
use Rattle.std.specs.Prelude.{ℕ, ℤ, pos, negsuc, suc, ◌+◌, ◌-◌, List, [], ◌∷◌, map, ◌==◌, nat_le, nat_lt, nat_abs, Option, Some, None, option_map, option_and_then, if◌then◌else◌, replicate}
use Rattle.apl_array.specs.Axes.{place_number}
use Rattle.apl_array.specs.Shape.{is_shape, most_axes}
use Rattle.apl_array.specs.Array.{ArrayValue}
use Rattle.apl_answer.specs.declared.fault.OpFault.TheVariants.{Rank, Length, Domain, Limit}
use Rattle.apl_answer.specs.Arguments.{rank_of, size_of, is_scalar, is_list, is_numbers, numbers_of}
use Rattle.apl_answer.specs.Rows.{Row, Check}
use Rattle.apl_struct.specs.Gathering.{gathered_row, filled_row}

-- a scalar serves as an array of one element with this many axes
abbrev pub with_axes : ℕ → ArrayValue → ArrayValue
with_axes rank b = record { shape = if is_scalar b then replicate rank 1 else b.shape; kind = b.kind; ravel = b.ravel }

-- one number for each axis of b, and a result of this shape
abbrev pub taking_checks : ArrayValue → ArrayValue → List ℕ → List Check
taking_checks a b shape =
    (is_list a, Rank) ∷ (size_of a == rank_of b, Length) ∷ (nat_le (rank_of b) most_axes, Limit) ∷ (is_numbers a, Domain) ∷ (is_shape shape, Limit) ∷ []

-- The index on an axis of length n for index i of the result. It is that of the first elements, or of the last for a negative number.
abbrev pub taken_index : (number : ℤ) (n i : ℕ) → Option ℕ
taken_index (pos m) n i = if nat_lt i n then Some i else None
taken_index (negsuc m) n i = if nat_le (suc m) (i + n) then Some (i + n - suc m) else None

-- the index list in an argument of this shape, unless it is beyond an axis
abbrev pub take_source : (numbers : List ℤ) (shape index : List ℕ) → Option (List ℕ)
take_source (m ∷ ms) (n ∷ ns) (i ∷ index) =
    option_and_then (λ j. option_map (λ rest. j ∷ rest) (take_source ms ns index)) (taken_index m n i)
take_source _ _ _ = Some []

-- A↑B: axis k has the length of A[k] without its sign
abbrev pub take_row : ArrayValue → ArrayValue → Row
take_row a b =
    let c = with_axes (size_of a) b in
    let shape = map nat_abs (numbers_of a) in
    filled_row (taking_checks a c shape) shape c (take_source (numbers_of a) c.shape)

-- what is left of each axis
abbrev pub dropped_shape : (numbers : List ℤ) (shape : List ℕ) → List ℕ
dropped_shape (m ∷ ms) (n ∷ ns) = (n - nat_abs m) ∷ dropped_shape ms ns
dropped_shape _ _ = []

-- the index list in the argument: a number drops the first elements, a negative one the last
abbrev pub drop_source : (numbers : List ℤ) (index : List ℕ) → List ℕ
drop_source (m ∷ ms) (i ∷ index) = (i + place_number m) ∷ drop_source ms index
drop_source _ _ = []

-- A↓B
abbrev pub drop_row : ArrayValue → ArrayValue → Row
drop_row a b =
    let c = with_axes (size_of a) b in
    let shape = dropped_shape (numbers_of a) c.shape in
    gathered_row (taking_checks a c shape) shape c (drop_source (numbers_of a))

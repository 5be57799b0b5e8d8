-- A,B: A's slices before B's along an axis.
use Rattle.std.specs.Prelude.{ℕ, ◌+◌, ◌-◌, max, List, [], ◌∷◌, Bool, not, ◌&&◌, ◌||◌, ◌==◌, nat_le, nat_lt, if◌then◌else◌, slice_index, slice_set, insert, remove}
use Rattle.apl_array.specs.declared.array.Elem.{Elem}
use Rattle.apl_array.specs.declared.array.Kind.{Kind}
use Rattle.apl_array.specs.declared.axis.Axis.{Axis}
use Rattle.apl_array.specs.Axes.{has_axis, axis_of}
use Rattle.apl_array.specs.Shape.{is_shape}
use Rattle.apl_array.specs.Array.{ArrayValue, element_at}
use Rattle.apl_answer.specs.declared.fault.OpFault.TheVariants.{Rank, Length, Index, Domain, Limit}
use Rattle.apl_answer.specs.Arguments.{rank_of, has_elements, is_scalar, is_same_kind, is_same_shape}
use Rattle.apl_answer.specs.Rows.{Row, array_row}

-- the larger rank, at least 1: two scalars make a vector
abbrev pub joined_rank : ArrayValue → ArrayValue → ℕ
joined_rank a b = max 1 (max (rank_of a) (rank_of b))

-- the ranks differ by at most 1, or an argument is a scalar
abbrev pub can_join : ArrayValue → ArrayValue → Bool
can_join a b = is_scalar a || (is_scalar b || (nat_le (rank_of a) (rank_of b + 1) && nat_le (rank_of b) (rank_of a + 1)))

-- What an argument is taken for along axis k of this many axes: itself, or one slice if its rank is lower by one. A scalar is taken for
-- one slice of the other's lengths.
abbrev pub slices_shape : (rank k : ℕ) (own other : ArrayValue) → List ℕ
slices_shape rank k own other =
    if rank_of own == rank then own.shape
    else if rank_of own + 1 == rank then insert own.shape k 1
    else slice_set other.shape k 1

-- the index list in an argument for one of its slices
abbrev pub slices_source : (rank k : ℕ) (own : ArrayValue) → List ℕ → List ℕ
slices_source rank k own index = if is_scalar own then [] else if rank_of own == rank then index else remove index k

-- the kind of the argument that has elements, else the left one's
abbrev pub joined_kind : ArrayValue → ArrayValue → Kind
joined_kind a b = if has_elements a || not (has_elements b) then a.kind else b.kind

-- the first n indexes of the axis take A's element, the others B's
abbrev pub catenated_element : (rank k n : ℕ) (a b : ArrayValue) → List ℕ → Elem
catenated_element rank k n a b index =
    let i = slice_index index k in
    if nat_lt i n then element_at a (slices_source rank k a index)
    else element_at b (slices_source rank k b (slice_set index k (i - n)))

abbrev pub catenate_row : ArrayValue → ArrayValue → Axis → Row
catenate_row a b axis =
    let rank = joined_rank a b in
    let k = axis_of axis rank in
    let left = slices_shape rank k a b in
    let right = slices_shape rank k b a in
    let n = slice_index left k in
    let shape = slice_set left k (n + slice_index right k) in
    array_row
    ((has_axis axis rank, Index) ∷ (can_join a b, Rank) ∷ (is_same_shape (remove left k) (remove right k), Length)
    ∷ (not (has_elements a && has_elements b) || is_same_kind a.kind b.kind, Domain) ∷ (is_shape shape, Limit) ∷ [])
    shape (joined_kind a b) (catenated_element rank k n a b)

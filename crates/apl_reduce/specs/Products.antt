-- A∘.fB and A f.g B.
use Rattle.std.specs.Prelude.{ℕ, ◌-◌, List, [], ◌∷◌, ◌++◌, map, take, drop, Bool, ◌||◌, ◌&&◌, ◌==◌, Result, Ok, Err, if◌then◌else◌, slice_index}
use Rattle.std.specs.List.{range_with_len}
use Rattle.apl_array.specs.declared.array.Elem.{Elem}
use Rattle.apl_array.specs.declared.array.Kind.TheVariants.{Number}
use Rattle.apl_array.specs.declared.function.ScalarFunction.{ScalarFunction}
use Rattle.apl_array.specs.Shape.{is_shape}
use Rattle.apl_array.specs.Array.{ArrayValue, element_at}
use Rattle.apl_pool.specs.declared.kernel.Fault.{Fault}
use Rattle.apl_answer.specs.declared.fault.OpFault.TheVariants.{Length, Limit}
use Rattle.apl_answer.specs.Arguments.{rank_of, is_list, has_one_element, only_element}
use Rattle.apl_answer.specs.Pointwise.{collect_outcomes}
use Rattle.apl_answer.specs.Rows.{Row}
use Rattle.apl_reduce.specs.Folding.{pair_of, reduction}

-- A∘.fB: each element of A with each element of B
abbrev pub outer_row : ScalarFunction → ArrayValue → ArrayValue → Row
outer_row f a b =
    let shape = a.shape ++ b.shape in
    record {
      checks = (is_shape shape, Limit) ∷ [];
      shape = shape;
      kind = Number;
      outcome = λ index. pair_of f (element_at a (take (rank_of a) index)) (element_at b (drop (rank_of a) index));
    }

-- ---- A f.g B

-- a scalar, or a vector of one element: it gives that element to every item, and no axis to the result
abbrev pub is_single : ArrayValue → Bool
is_single a = is_list a && has_one_element a.shape

-- the length of A's last axis, and of B's first
abbrev pub last_length : ArrayValue → ℕ
last_length a = slice_index a.shape (rank_of a - 1)

-- the length of the first axis
abbrev pub first_length : ArrayValue → ℕ
first_length b = slice_index b.shape 0

-- how many items are folded for each element of the result
abbrev pub common_length : ArrayValue → ArrayValue → ℕ
common_length a b =
    if is_single a && is_single b then 1
    else if is_single a then first_length b
    else last_length a

-- the arguments have as many items as each other, or one of them serves as each item
abbrev pub is_common : ArrayValue → ArrayValue → Bool
is_common a b = is_single a || (is_single b || (last_length a == first_length b))

-- the axes that A and B give to the result
abbrev pub left_shape : ArrayValue → List ℕ
left_shape a = if is_single a then [] else take (rank_of a - 1) a.shape

-- the axes that the result has of B
abbrev pub right_shape : ArrayValue → List ℕ
right_shape b = if is_single b then [] else drop 1 b.shape

-- the elements of A and B for item i
abbrev pub left_element : ArrayValue → List ℕ → ℕ → Elem
left_element a index i = if is_single a then only_element a else element_at a (take (rank_of a - 1) index ++ i ∷ [])

-- B's element in item i
abbrev pub right_element : ArrayValue → ArrayValue → List ℕ → ℕ → Elem
right_element a b index i = if is_single b then only_element b else element_at b (i ∷ drop (rank_of a - 1) index)

-- all items at an index list of the result
abbrev pub items_of : ScalarFunction → ArrayValue → ArrayValue → List ℕ → List (Result Elem Fault)
items_of g a b index = map (λ i. pair_of g (left_element a index i) (right_element a b index i)) (range_with_len 0 (common_length a b))

-- all items are judged before the fold
abbrev pub judged_reduction : ScalarFunction → Result (List Elem) Fault → Result Elem Fault
judged_reduction f (Ok items) = reduction f items
judged_reduction f (Err fault) = Err fault

-- A f.g B: the reduction by f of A[..;i] g B[i;..]
abbrev pub inner_row : ScalarFunction → ScalarFunction → ArrayValue → ArrayValue → Row
inner_row f g a b =
    let shape = left_shape a ++ right_shape b in
    record {
      checks = (is_common a b, Length) ∷ (is_shape shape, Limit) ∷ [];
      shape = shape;
      kind = Number;
      outcome = λ index. judged_reduction f (collect_outcomes (items_of g a b index));
    }

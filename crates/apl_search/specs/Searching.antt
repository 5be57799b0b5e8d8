-- A⍳B and A∊B.
use Rattle.std.specs.Prelude.{pos, ◌+◌, ◌==◌, [], ◌∷◌, Bool, false, nat_eq, if◌then◌else◌}
use Rattle.std.specs.List.{list_any, position_or_len}
use Rattle.std.specs.Ordering.{int_eq}
use Rattle.apl_array.specs.declared.array.Elem.{Elem}
use Rattle.apl_array.specs.declared.array.Elem.TheVariants.{Int, Chr}
use Rattle.apl_array.specs.declared.array.Kind.TheVariants.{Number}
use Rattle.apl_array.specs.declared.axis.Origin.{Origin}
use Rattle.apl_array.specs.Axes.{origin_number}
use Rattle.apl_array.specs.Array.{ArrayValue, element_at}
use Rattle.apl_answer.specs.declared.fault.OpFault.TheVariants.{Rank}
use Rattle.apl_answer.specs.Arguments.{rank_of}
use Rattle.apl_answer.specs.Rows.{Row, array_row}

-- a character never equals a number
abbrev pub is_same_element : Elem → Elem → Bool
is_same_element (Int m) (Int n) = int_eq m n
is_same_element (Chr c) (Chr d) = nat_eq c d
is_same_element _ _ = false

-- A⍳B: the origin plus the first place in A, or plus A's length where there is none
abbrev pub index_of_row : ArrayValue → ArrayValue → Origin → Row
index_of_row a b origin =
    array_row ((rank_of a == 1, Rank) ∷ []) b.shape Number
    (λ index. Int (pos (origin_number origin + position_or_len (λ x. is_same_element x (element_at b index)) a.ravel)))

-- A∊B: 1 where A's element is in B, else 0
abbrev pub member_row : ArrayValue → ArrayValue → Row
member_row a b =
    array_row [] a.shape Number
    (λ index. Int (pos (if list_any (λ x. is_same_element x (element_at a index)) b.ravel then 1 else 0)))

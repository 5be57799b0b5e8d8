-- Elements of two arguments by their places. No contract of a public function cites this file.
use Rattle.std.specs.Prelude.{◌≡◌, ℕ, ◌+◌, ◌/◌, ◌%◌, ◌⊎◌, true, false, List, Result, MatchResult, slice_index, slice_index_or, slice_set, remove}
use Rattle.apl_array.specs.declared.array.Elem.{Elem}
use Rattle.apl_array.specs.Array.{ArrayValue}
use Rattle.apl_answer.specs.declared.fault.OpFault.{OpFault}
use Rattle.apl_answer.specs.declared.fault.OpFault.TheVariants.{Length, Memory}
use Rattle.apl_answer.specs.Arguments.{fill_of, is_same_shape}
use Rattle.smallvec.specs.SmallVec.{SmallVec}
use Rattle.apl_walk.specs.Seams.{joined_value}
use Rattle.apl_struct.specs.Joining.{joined_kind}

-- The element at a place where each line has the next `left` of A and then the next `right` of B. Past its last one an argument has its first.
abbrev pub joined_at : (a b : ArrayValue) (left right place : ℕ) → Elem
joined_at a b left right place =
    let fill = fill_of (joined_kind a b) in
    joined_value a.ravel b.ravel (slice_index_or a.ravel 0 fill) (slice_index_or b.ravel 0 fill) left right (place / (left + right)) (place % (left + right))

-- the lengths of two arguments that are joined along axis k, and the length of the left one there. Other axes that differ are `Length`
abbrev pub IsJoint : (left right : List ℕ) → (k : ℕ) → Result (SmallVec ℕ × ℕ) OpFault → Type 0
IsJoint left right k result = MatchResult result
    (λ joint. (is_same_shape (remove left k) (remove right k) ≡ true) × (joint.0.items ≡ slice_set left k (slice_index left k + slice_index right k))
    × (joint.1 ≡ slice_index left k))
    (λ fault. (fault ≡ Memory) ⊎ ((fault ≡ Length) × (is_same_shape (remove left k) (remove right k) ≡ false)))

-- Arrays under other shapes, drops as takes, and shapes that are not judged yet. No contract of a public function cites this file.
use Rattle.std.specs.Prelude.{◌≡◌, ℕ, ℤ, pos, negsuc, suc, ◌-◌, neg_ℤ, List, [], ◌∷◌, Result, Ok, Err, if◌then◌else◌}
use Rattle.apl_array.specs.declared.array.Elem.{Elem}
use Rattle.apl_array.specs.declared.array.Kind.{Kind}
use Rattle.apl_array.specs.Shape.{IsIndexOf, is_shape}
use Rattle.apl_array.specs.Array.{ArrayValue}
use Rattle.apl_answer.specs.declared.fault.OpFault.{OpFault}
use Rattle.apl_answer.specs.declared.fault.OpFault.TheVariants.{Limit}
use Rattle.apl_answer.specs.Pointwise.{answer_of, IsAnswerOf}
use Rattle.apl_answer.specs.Rows.{Check, first_failure_or}

-- the elements of an array under another shape of as many elements
abbrev pub with_shape : List ℕ → ArrayValue → ArrayValue
with_shape shape a = record { shape = shape; kind = a.kind; ravel = a.ravel }

-- How many elements are left of an axis of n without m, as what is taken of it. A drop of first ones leaves last ones.
abbrev pub left_number : ℤ → ℕ → ℤ
left_number (pos m) n = neg_ℤ (pos (n - m))
left_number (negsuc m) n = pos (n - suc m)

abbrev pub left_numbers : List ℤ → List ℕ → List ℤ
left_numbers (m ∷ ms) (n ∷ ns) = left_number m n ∷ left_numbers ms ns
left_numbers _ _ = []

-- of checks of a result's shape, those before the last one pass
abbrev pub HavePassedButLimit : (List ℕ → List Check) → Type 0
HavePassedButLimit checks = (shape : List ℕ) (answer : Result ArrayValue OpFault) → first_failure_or (checks shape) answer ≡ (if is_shape shape then answer else Err Limit)

-- the array of this shape and kind whose element is known at each index list, or `Limit` if the shape passes a limit
abbrev pub IsArrayOrLimit : List ℕ → Kind → (List ℕ → Elem) → Result ArrayValue OpFault → Type 0
IsArrayOrLimit shape kind at_index result = (element : List ℕ → Elem) → ((index : List ℕ) → IsIndexOf shape index → at_index index ≡ element index)
    → IsAnswerOf (if is_shape shape then answer_of shape (λ index. Ok (element index)) kind else Err Limit) result

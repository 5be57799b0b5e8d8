-- Values of one type as the elements of an array, place by place.
use Rattle.std.specs.Prelude.{◌≡◌, ℕ, ◌<◌, List, map, Result, Ok, Err, IfOk, IfErr}
use Rattle.std.specs.declared.vec.Vec.{Vec}
use Rattle.apl_array.specs.declared.array.Elem.{Elem}
use Rattle.apl_array.specs.declared.array.Kind.{Kind}
use Rattle.apl_array.specs.Shape.{count_of, index_at}
use Rattle.apl_array.specs.Array.{ArrayValue}
use Rattle.apl_pool.specs.declared.kernel.Fault.{Fault}
use Rattle.apl_pool.specs.declared.kernel.Stop.{Stop}
use Rattle.apl_pool.specs.Pool.{AreValues, IsStopOf}
use Rattle.apl_answer.specs.declared.fault.OpFault.{OpFault}
use Rattle.apl_answer.specs.Pointwise.{Outcomes, answer_of, IsAnswerOf}

module _ {T : Type 0} (elem_of : T → Elem) where
  -- the array of this kind and shape whose elements in row order are these values
  abbrev pub array_with : Kind → List ℕ → List T → ArrayValue
  array_with kind shape values = record { shape = shape; kind = kind; ravel = map elem_of values }

  -- a value as an element, or the fault
  abbrev pub element_outcome : Result T Fault → Result Elem Fault
  element_outcome (Ok value) = Ok (elem_of value)
  element_outcome (Err fault) = Err fault

  -- the outcome at each place of a shape is that at its index list
  abbrev pub HaveOutcomes : (ℕ → Result T Fault) → List ℕ → (List ℕ → Result Elem Fault) → Type 0
  HaveOutcomes at_place shape outcome = (place : ℕ) → place < count_of shape → element_outcome (at_place place) ≡ outcome (index_at shape place)

  -- the answer of this shape and kind for which a pool answered so: by its values, or by its stop
  abbrev pub IsAnswerOfPool : {Z : Type 0} → List ℕ → Kind → Result (Vec T Z) Stop → Result ArrayValue OpFault → Type 0
  IsAnswerOfPool shape kind filled result = (at_place : ℕ → Result T Fault) (outcome : Outcomes) → HaveOutcomes at_place shape outcome
      → IfOk filled (λ values. AreValues at_place (count_of shape) values.items) → IfErr filled (IsStopOf at_place (count_of shape))
      → IsAnswerOf (answer_of shape outcome kind) result

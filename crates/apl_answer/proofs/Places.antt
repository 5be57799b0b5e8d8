-- From the values at the places to the answer over the index lists.
use Rattle.std.proofs.Common.{◌≡◌, ℕ, pos, ◌+◌, ◌<◌, List, [], ◌∷◌, length, map, Result, Ok, Err, get_or, refl, sym, ap, ◌∙◌, subst, arith, inl, inr}
use Rattle.std.specs.Prelude.{IsOk}
use Rattle.std.specs.List.{range_with_len}
use Rattle.std.proofs.lemmas.List.{get_or-map, length-map}
use Rattle.std.proofs.lemmas.List.FromFn.{length-range_with_len, get_or-range_with_len}
use Rattle.apl_array.specs.declared.array.Elem.{Elem}
use Rattle.apl_array.specs.declared.array.Elem.TheVariants.{Int}
use Rattle.apl_array.specs.declared.array.Kind.{Kind}
use Rattle.apl_array.specs.Shape.{count_of, index_at}
use Rattle.apl_pool.specs.declared.kernel.Fault.{Fault}
use Rattle.apl_pool.specs.declared.kernel.Stop.{Stop}
use Rattle.apl_pool.specs.declared.kernel.Stop.TheVariants.{Fault as FaultAt, Memory}
use Rattle.apl_pool.specs.Pool.{AreValues, IsStopOf}
use Rattle.apl_answer.specs.Faults.{op_fault_of_stop}
use Rattle.apl_answer.specs.Pointwise.{index_lists, collect_outcomes, shaped, answer_of, IsAnswerOf}
use Rattle.apl_answer.specs.Elements.{array_with, element_outcome, HaveOutcomes}
use Rattle.apl_answer.proofs.Gathering.{all_from_each, first_from_least}

-- the outcomes at the index lists in row order
module _ (shape : List ℕ) (outcome : List ℕ → Result Elem Fault) where
  pub length-outcomes : length (map outcome (index_lists shape)) ≡ count_of shape
  length-outcomes =
      length-map (index_lists shape) outcome ∙ length-map (range_with_len 0 (count_of shape)) (index_at shape) ∙ length-range_with_len 0 (count_of shape)

  pub get_or-outcomes : (place : ℕ) (e : Result Elem Fault) → place < count_of shape → get_or (map outcome (index_lists shape)) place e ≡ outcome (index_at shape place)
  get_or-outcomes place e inside =
      let places = range_with_len 0 (count_of shape) in
      let in_places : place < length places = omega (arith, length-range_with_len 0 (count_of shape)) in
      let in_lists : place < length (index_lists shape) = omega (arith, in_places, length-map places (index_at shape)) in
      let here : 0 + place ≡ place = omega arith in
      get_or-map outcome (index_lists shape) place (index_at shape 0) e in_lists
      ∙ ap outcome (get_or-map (index_at shape) places place 0 (index_at shape 0) in_places)
      ∙ ap (λ p. outcome (index_at shape p)) (get_or-range_with_len 0 (count_of shape) place 0 inside ∙ here)

-- a list with a place has a value
some_value : {T : Type 0} (values : List T) (place : ℕ) → place < length values → T
some_value [] place inside = absurd (omega arith)
some_value (x ∷ xs) place inside = x

module _ {T : Type 0} (elem_of : T → Elem) where
  IsOk-element_outcome : (r : Result T Fault) → IsOk r → IsOk (element_outcome elem_of r)
  IsOk-element_outcome (Ok value) ok = refl
  IsOk-element_outcome (Err fault) ok = ok

  module _ (at_place : ℕ → Result T Fault) (shape : List ℕ) (outcome : List ℕ → Result Elem Fault) (same : HaveOutcomes elem_of at_place shape outcome) (kind : Kind) where
    pub answer_from_values : (values : List T) → AreValues at_place (count_of shape) values
        → IsAnswerOf (answer_of shape outcome kind) (Ok (array_with elem_of kind shape values))
    answer_from_values values all =
        let e : Result Elem Fault = Ok (Int (pos 0)) in
        let len : length (map outcome (index_lists shape)) ≡ count_of shape = length-outcomes shape outcome in
        let gathered : collect_outcomes (map outcome (index_lists shape)) ≡ Ok (map elem_of values) =
        all_from_each (Int (pos 0)) e (map outcome (index_lists shape)) (map elem_of values) record {
          len = length-map values elem_of ∙ all.len ∙ sym len;
          each = λ place inside.
              let below : place < count_of shape = omega (arith, len) in
              let here : place < length values = omega (arith, all.len) in
              let d = some_value values place here in
              get_or-outcomes shape outcome place e below ∙ sym (same place below) ∙ ap (element_outcome elem_of) (all.each place d below)
              ∙ ap Ok (sym (get_or-map elem_of values place d (Int (pos 0)) here));
        } in
        inl (sym (ap (shaped shape kind) gathered))

    earlier_ok : (k : ℕ) → k < count_of shape → IsOk (at_place k) → IsOk (get_or (map outcome (index_lists shape)) k (Ok (Int (pos 0))))
    earlier_ok k inside ok =
        let P : Result Elem Fault → Type 0 = λ r. IsOk r in
        subst P (same k inside ∙ sym (get_or-outcomes shape outcome k (Ok (Int (pos 0))) inside)) (IsOk-element_outcome (at_place k) ok)

    pub answer_from_stop : (stop : Stop) → IsStopOf at_place (count_of shape) stop → IsAnswerOf (answer_of shape outcome kind) (Err (op_fault_of_stop stop))
    answer_from_stop (FaultAt place fault) least =
        let e : Result Elem Fault = Ok (Int (pos 0)) in
        let len : length (map outcome (index_lists shape)) ≡ count_of shape = length-outcomes shape outcome in
        let first : collect_outcomes (map outcome (index_lists shape)) ≡ Err fault =
        first_from_least (Int (pos 0)) e (map outcome (index_lists shape)) fault place (omega (arith, len, least.below))
        (get_or-outcomes shape outcome place e least.below ∙ sym (same place least.below) ∙ ap (element_outcome elem_of) least.faulty)
        (λ k before. earlier_ok k (omega (arith, before, least.below)) (least.earlier k before)) in
        inl (sym (ap (shaped shape kind) first))
    answer_from_stop Memory none = inr refl

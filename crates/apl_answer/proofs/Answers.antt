-- The answer by each index list and by the least place.
use Rattle.std.proofs.Common.{◌≡◌, ◌↔◌, ℕ, pos, ◌<◌, List, length, map, Result, Ok, Err, get_or, refl, sym, ap, ◌∙◌, subst, arith}
use Rattle.std.specs.Prelude.{IsOk, IfOk}
use Rattle.std.proofs.lemmas.List.Elements.{All-from_get_or}
use Rattle.apl_array.specs.declared.array.Elem.{Elem}
use Rattle.apl_array.specs.declared.array.Elem.TheVariants.{Int}
use Rattle.apl_array.specs.declared.array.Kind.{Kind}
use Rattle.apl_array.specs.Shape.{IsShape, IsIndexOf, count_of, place_of, index_at}
use Rattle.apl_array.specs.Array.{ArrayValue, IsArray, element_in}
use Rattle.apl_array.specs.Range.{IsElementInRange, HasNumbersInRange}
use Rattle.apl_array.specs.Limits.{IsWithinLimits}
use Rattle.apl_pool.specs.declared.kernel.Fault.{Fault}
use Rattle.apl_pool.specs.declared.kernel.Fault.TheVariants.{Domain, Limit, Index}
use Rattle.apl_answer.specs.Faults.{op_fault_of}
use Rattle.apl_answer.specs.Pointwise.{IsArrayOf, IsLeastFaultOf, index_lists, collect_outcomes, shaped, answer_of}
use Rattle.apl_answer.proofs.Gathering.{AreElements, all_from_each, each_from_all, first_from_least, least_from_first}
use Rattle.apl_answer.proofs.Places.{length-outcomes, get_or-outcomes}

made : List ℕ → Kind → List Elem → ArrayValue
made shape kind elements = record { shape = shape; kind = kind; ravel = elements }

same_array : (a : ArrayValue) (shape : List ℕ) (kind : Kind) → a.shape ≡ shape → a.kind ≡ kind → made shape kind a.ravel ≡ a
unfolding made
same_array a shape kind shapes kinds = sym (ap (λ s. made s a.kind a.ravel) shapes ∙ ap (λ k. made shape k a.ravel) kinds)

shaped_elements : (shape : List ℕ) (kind : Kind) (r : Result (List Elem) Fault) (a : ArrayValue) → shaped shape kind r ≡ Ok a
    → (xs : List Elem) × (r ≡ Ok xs) × (a ≡ made shape kind xs)
unfolding made
shaped_elements shape kind (Ok xs) a is = let same : a ≡ made shape kind xs = cc in (xs, refl, same)
shaped_elements shape kind (Err fault) a is = absurd cc

op_fault_of-injective : (first second : Fault) → op_fault_of first ≡ op_fault_of second → first ≡ second
op_fault_of-injective Domain Domain same = refl
op_fault_of-injective Domain Limit same = absurd cc
op_fault_of-injective Domain Index same = absurd cc
op_fault_of-injective Limit Domain same = absurd cc
op_fault_of-injective Limit Limit same = refl
op_fault_of-injective Limit Index same = absurd cc
op_fault_of-injective Index Domain same = absurd cc
op_fault_of-injective Index Limit same = absurd cc
op_fault_of-injective Index Index same = refl

shaped_fault : (shape : List ℕ) (kind : Kind) (r : Result (List Elem) Fault) (fault : Fault) → shaped shape kind r ≡ Err (op_fault_of fault) → r ≡ Err fault
shaped_fault shape kind (Ok xs) fault is = absurd cc
shaped_fault shape kind (Err other) fault is = ap Err (op_fault_of-injective other fault cc)

-- the places and the index lists of a shape correspond one to one
pub record PlacesLaw : Type 0 where
  pub below : (shape index : List ℕ) → IsIndexOf shape index → place_of shape index < count_of shape
  pub same_index : (shape index : List ℕ) → IsIndexOf shape index → index_at shape (place_of shape index) ≡ index
  pub lawful : (shape : List ℕ) (place : ℕ) → place < count_of shape → IsIndexOf shape (index_at shape place)
  pub same_place : (shape : List ℕ) (place : ℕ) → place < count_of shape → place_of shape (index_at shape place) ≡ place

module _ (places : PlacesLaw) (shape : List ℕ) (outcome : List ℕ → Result Elem Fault) where
  d : Elem
  d = Int (pos 0)

  e : Result Elem Fault
  e = Ok (Int (pos 0))

  outcomes : List (Result Elem Fault)
  outcomes = map outcome (index_lists shape)

  len : length outcomes ≡ count_of shape
  unfolding outcomes
  len = length-outcomes shape outcome

  -- the outcome at an index list, among the outcomes in row order
  at_index : (index : List ℕ) → IsIndexOf shape index → get_or outcomes (place_of shape index) e ≡ outcome index
  unfolding outcomes
  at_index index lawful =
      get_or-outcomes shape outcome (place_of shape index) e (places.below shape index lawful) ∙ ap outcome (places.same_index shape index lawful)

  array_each : (kind : Kind) (xs : List Elem) → AreElements d e outcomes xs → IsArrayOf shape outcome kind (made shape kind xs)
  unfolding made d
  array_each kind xs all = record {
    shape_is = refl;
    kind_is = refl;
    each = λ index lawful.
        sym (at_index index lawful) ∙ all.each (place_of shape index) (omega (arith, places.below shape index lawful, len));
  }

  array_from_answer : (kind : Kind) (a : ArrayValue) → answer_of shape outcome kind ≡ Ok a → IsArrayOf shape outcome kind a
  unfolding outcomes
  array_from_answer kind a is =
      let parts = shaped_elements shape kind (collect_outcomes outcomes) a is in
      let P : ArrayValue → Type 0 = λ b. IsArrayOf shape outcome kind b in
      subst P (sym parts.2) (array_each kind parts.0 (each_from_all d e outcomes parts.0 parts.1))

  answer_from_array : (kind : Kind) (a : ArrayValue) → IsArray a → IsArrayOf shape outcome kind a → answer_of shape outcome kind ≡ Ok a
  unfolding outcomes made d
  answer_from_array kind a lawful all =
      let counts : length a.ravel ≡ count_of shape = lawful.len ∙ ap count_of all.shape_is in
      let gathered : collect_outcomes outcomes ≡ Ok a.ravel =
      all_from_each d e outcomes a.ravel record {
        len = counts ∙ sym len;
        each = λ place inside.
            let below : place < count_of shape = omega (arith, len) in
            let index = index_at shape place in
            let own : place_of a.shape index ≡ place = ap (λ s. place_of s index) all.shape_is ∙ places.same_place shape place below in
            get_or-outcomes shape outcome place e below ∙ all.each index (places.lawful shape place below)
            ∙ ap (λ p. Ok (element_in a p)) own;
      } in
      ap (shaped shape kind) gathered ∙ ap Ok (same_array a shape kind all.shape_is all.kind_is)

  fault_from_answer : (kind : Kind) (fault : Fault) → answer_of shape outcome kind ≡ Err (op_fault_of fault) → IsLeastFaultOf shape outcome fault
  unfolding outcomes
  fault_from_answer kind fault is =
      let first = least_from_first d e outcomes fault (shaped_fault shape kind (collect_outcomes outcomes) fault is) in
      let below : first.place < count_of shape = omega (arith, first.below, len) in
      record {
        index = index_at shape first.place;
        lawful = places.lawful shape first.place below;
        faulty = sym (get_or-outcomes shape outcome first.place e below) ∙ first.faulty;
        earlier = λ other lawful before.
            let P : Result Elem Fault → Type 0 = λ r. IsOk r in
            subst P (at_index other lawful) (first.earlier (place_of shape other) (omega (arith, before, places.same_place shape first.place below)));
      }

  answer_from_fault : (kind : Kind) (fault : Fault) → IsLeastFaultOf shape outcome fault → answer_of shape outcome kind ≡ Err (op_fault_of fault)
  unfolding outcomes
  answer_from_fault kind fault least =
      let place = place_of shape least.index in
      let below : place < count_of shape = places.below shape least.index least.lawful in
      let first : collect_outcomes outcomes ≡ Err fault =
      first_from_least d e outcomes fault place (omega (arith, below, len)) (at_index least.index least.lawful ∙ least.faulty)
      (λ k before.
      let inside : k < count_of shape = omega (arith, before, below) in
      let P : Result Elem Fault → Type 0 = λ r. IsOk r in
      subst P (sym (get_or-outcomes shape outcome k e inside))
      (least.earlier (index_at shape k) (places.lawful shape k inside) (omega (arith, before, places.same_place shape k inside)))) in
      ap (shaped shape kind) first

  pub array_iff : (kind : Kind) (a : ArrayValue) → IsArray a → (answer_of shape outcome kind ≡ Ok a) ↔ IsArrayOf shape outcome kind a
  array_iff kind a lawful = (array_from_answer kind a, answer_from_array kind a lawful)

  pub fault_iff : (kind : Kind) (fault : Fault) → (answer_of shape outcome kind ≡ Err (op_fault_of fault)) ↔ IsLeastFaultOf shape outcome fault
  fault_iff kind fault = (fault_from_answer kind fault, answer_from_fault kind fault)

  -- outcomes in the range make an array in the range
  pub in_range_from_answer : (kind : Kind) (a : ArrayValue) → ((index : List ℕ) → IsIndexOf shape index → IfOk (outcome index) IsElementInRange)
      → answer_of shape outcome kind ≡ Ok a → HasNumbersInRange a
  unfolding outcomes made d
  in_range_from_answer kind a each is =
      let parts = shaped_elements shape kind (collect_outcomes outcomes) a is in
      let xs = parts.0 in
      let all = each_from_all d e outcomes xs parts.1 in
      let P : ArrayValue → Type 0 = λ b. HasNumbersInRange b in
      let Q : Result Elem Fault → Type 0 = λ r. IfOk r IsElementInRange in
      subst P (sym parts.2)
      (All-from_get_or IsElementInRange xs d
      (λ k inside.
      let below : k < count_of shape = omega (arith, all.len, len) in
      subst Q (sym (get_or-outcomes shape outcome k e below) ∙ all.each k (omega (arith, below, len))) (each (index_at shape k) (places.lawful shape k below))))

  -- and those of a lawful shape an array within all limits
  pub within_limits_from_answer : (kind : Kind) (a : ArrayValue) → IsShape shape
      → ((index : List ℕ) → IsIndexOf shape index → IfOk (outcome index) IsElementInRange) → answer_of shape outcome kind ≡ Ok a → IsWithinLimits a
  unfolding outcomes made
  within_limits_from_answer kind a lawful each is =
      let parts = shaped_elements shape kind (collect_outcomes outcomes) a is in
      let all = each_from_all d e outcomes parts.0 parts.1 in
      let P : ArrayValue → Type 0 = λ b. IsWithinLimits b in
      let Q : ArrayValue → Type 0 = λ b. HasNumbersInRange b in
      subst P (sym parts.2) record {
        shape = lawful;
        len = all.len ∙ len;
        numbers = subst Q parts.2 (in_range_from_answer kind a each is);
      }

-- The array that a row without faults gives, and an array by its elements.
use Rattle.std.proofs.Common.{◌≡◌, ℕ, pos, ◌<◌, List, [], ◌∷◌, length, map, Result, Ok, get_or, refl, sym, ap, ◌∙◌, ⊎_elim, arith}
use Rattle.std.specs.List.{range_with_len}
use Rattle.std.proofs.lemmas.Bool.{cases_Bool}
use Rattle.std.proofs.lemmas.List.{ext_get_or, length-map, get_or-map}
use Rattle.std.proofs.lemmas.List.FromFn.{length-range_with_len, get_or-map-range_with_len}
use Rattle.apl_array.specs.declared.array.Elem.{Elem}
use Rattle.apl_array.specs.declared.array.Elem.TheVariants.{Int}
use Rattle.apl_array.specs.declared.array.Kind.{Kind}
use Rattle.apl_array.specs.Shape.{IsIndexOf, count_of, place_of, index_at}
use Rattle.apl_array.specs.Array.{ArrayValue, IsArray, element_at, element_in}
use Rattle.apl_answer.specs.declared.fault.OpFault.{OpFault}
use Rattle.apl_answer.specs.Pointwise.{index_lists, and_first, collect_outcomes, shaped, answer_of}
use Rattle.apl_answer.specs.Rows.{Check, HavePassed, first_failure_or, array_row}
use Rattle.apl_laws.specs.Giving.{Gives}

-- the array of this shape and kind with these elements
abbrev pub array_by : List ℕ → Kind → (List ℕ → Elem) → ArrayValue
array_by shape kind element = record { shape = shape; kind = kind; ravel = map element (index_lists shape) }

-- ---- rows

pub all_are_values : (element : List ℕ → Elem) (indexes : List (List ℕ)) → collect_outcomes (map (λ i. Ok (element i)) indexes) ≡ Ok (map element indexes)
all_are_values element [] = refl
all_are_values element (i ∷ is) = ap (and_first (element i)) (all_are_values element is)

row_answer : (shape : List ℕ) (kind : Kind) (element : List ℕ → Elem) → answer_of shape (λ i. Ok (element i)) kind ≡ Ok (array_by shape kind element)
row_answer shape kind element = ap (shaped shape kind) (all_are_values element (index_lists shape))

pub passed_and_answer : (checks : List Check) (answer : Result ArrayValue OpFault) (a : ArrayValue) → first_failure_or checks answer ≡ Ok a → HavePassed checks × (answer ≡ Ok a)
passed_and_answer [] answer a is = (tt, is)
passed_and_answer (check ∷ checks) answer a is =
    ⊎_elim
    (λ yes.
    let rest = passed_and_answer checks answer a (rw yes at is) in
    ((yes, rest.0), rest.1))
    (λ no. absurd (let fails = rw no at is in cc))
    (cases_Bool check.0)

pub all_passed : (checks : List Check) (answer : Result ArrayValue OpFault) → HavePassed checks → first_failure_or checks answer ≡ answer
all_passed [] answer passed = refl
all_passed (check ∷ checks) answer passed = rw passed.0 (all_passed checks answer passed.1)

-- what a row gives
pub given : (checks : List Check) (shape : List ℕ) (kind : Kind) (element : List ℕ → Elem) (a : ArrayValue) → Gives (array_row checks shape kind element) a
    → HavePassed checks × (a ≡ array_by shape kind element)
given checks shape kind element a is =
    let parts = passed_and_answer checks (answer_of shape (λ i. Ok (element i)) kind) a is in
    let same : a ≡ array_by shape kind element = let answer = row_answer shape kind element in let value = parts.1 in cc in
    (parts.0, same)

-- the row gives that array
pub gives : (checks : List Check) (shape : List ℕ) (kind : Kind) (element : List ℕ → Elem) → HavePassed checks → Gives (array_row checks shape kind element) (array_by shape kind element)
gives checks shape kind element passed =
    all_passed checks (answer_of shape (λ i. Ok (element i)) kind) passed ∙ row_answer shape kind element

-- ---- arrays by their elements

-- what there is to know of places and index lists
pub record Places : Type 0 where
  pub below : (shape index : List ℕ) → IsIndexOf shape index → place_of shape index < count_of shape
  pub same_index : (shape index : List ℕ) → IsIndexOf shape index → index_at shape (place_of shape index) ≡ index
  pub lawful : (shape : List ℕ) (place : ℕ) → place < count_of shape → IsIndexOf shape (index_at shape place)
  pub same_place : (shape : List ℕ) (place : ℕ) → place < count_of shape → place_of shape (index_at shape place) ≡ place

pub index_lists_length : (shape : List ℕ) → length (index_lists shape) ≡ count_of shape
index_lists_length shape = length-map (range_with_len 0 (count_of shape)) (index_at shape) ∙ length-range_with_len 0 (count_of shape)

pub elements_length : (shape : List ℕ) (element : List ℕ → Elem) → length (map element (index_lists shape)) ≡ count_of shape
elements_length shape element = length-map (index_lists shape) element ∙ index_lists_length shape

pub element_there : (shape : List ℕ) (element : List ℕ → Elem) (place : ℕ) → place < count_of shape
    → get_or (map element (index_lists shape)) place (Int (pos 0)) ≡ element (index_at shape place)
element_there shape element place below =
    get_or-map element (index_lists shape) place [] (Int (pos 0)) (omega (arith, below, index_lists_length shape))
    ∙ ap element (get_or-map-range_with_len (index_at shape) 0 (count_of shape) place place [] below (omega arith))

module _ (places : Places) where
  -- the element at an index list
  pub element_by : (shape : List ℕ) (kind : Kind) (element : List ℕ → Elem) (index : List ℕ) → IsIndexOf shape index
      → element_at (array_by shape kind element) index ≡ element index
  element_by shape kind element index inside =
      element_there shape element (place_of shape index) (places.below shape index inside) ∙ ap element (places.same_index shape index inside)

  -- the element at a place
  pub element_by_place : (shape : List ℕ) (kind : Kind) (element : List ℕ → Elem) (place : ℕ) → place < count_of shape
      → element_in (array_by shape kind element) place ≡ element (index_at shape place)
  element_by_place shape kind element place below = element_there shape element place below

  same_elements : (shape : List ℕ) (element other : List ℕ → Elem) → ((index : List ℕ) → IsIndexOf shape index → element index ≡ other index)
      → map element (index_lists shape) ≡ map other (index_lists shape)
  same_elements shape element other each =
      ext_get_or (Int (pos 0)) (map element (index_lists shape)) (map other (index_lists shape)) (elements_length shape element ∙ sym (elements_length shape other))
      (λ place inside.
      let below : place < count_of shape = omega (arith, inside, elements_length shape element) in
      element_there shape element place below ∙ each (index_at shape place) (places.lawful shape place below) ∙ sym (element_there shape other place below))

  pub same_arrays : (shape : List ℕ) (kind : Kind) (element other : List ℕ → Elem) → ((index : List ℕ) → IsIndexOf shape index → element index ≡ other index)
      → array_by shape kind element ≡ array_by shape kind other
  same_arrays shape kind element other each =
      let as_array : List Elem → ArrayValue = λ xs. record { shape = shape; kind = kind; ravel = xs } in
      ap as_array (same_elements shape element other each)

  own_elements : (b : ArrayValue) → length b.ravel ≡ count_of b.shape → map (element_at b) (index_lists b.shape) ≡ b.ravel
  own_elements b long =
      ext_get_or (Int (pos 0)) (map (element_at b) (index_lists b.shape)) b.ravel (elements_length b.shape (element_at b) ∙ sym long)
      (λ place inside.
      let below : place < count_of b.shape = omega (arith, inside, elements_length b.shape (element_at b)) in
      element_there b.shape (element_at b) place below ∙ ap (element_in b) (places.same_place b.shape place below))

  -- an array is the one of its elements
  pub by_elements : (b : ArrayValue) (shape : List ℕ) (kind : Kind) (element : List ℕ → Elem) → IsArray b → shape ≡ b.shape → kind ≡ b.kind
      → ((index : List ℕ) → IsIndexOf b.shape index → element index ≡ element_at b index) → array_by shape kind element ≡ b
  by_elements b shape kind element array same_shape same_kind each =
      let as_array : List Elem → ArrayValue = λ xs. record { shape = b.shape; kind = b.kind; ravel = xs } in
      ap (λ s. array_by s kind element) same_shape ∙ ap (λ k. array_by b.shape k element) same_kind
      ∙ ap as_array (same_elements b.shape element (element_at b) each ∙ own_elements b array.len)

  -- a row whose checks have passed gives the array that has its shape, its kind and its elements
  pub gives_array : (checks : List Check) (shape : List ℕ) (kind : Kind) (element : List ℕ → Elem) (b : ArrayValue) → IsArray b → HavePassed checks
      → shape ≡ b.shape → kind ≡ b.kind → ((index : List ℕ) → IsIndexOf b.shape index → element index ≡ element_at b index)
      → Gives (array_row checks shape kind element) b
  gives_array checks shape kind element b array passed same_shape same_kind each =
      gives checks shape kind element passed ∙ ap Ok (by_elements b shape kind element array same_shape same_kind each)

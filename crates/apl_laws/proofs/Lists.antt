-- Vectors by what there is at each index, and rows that give vectors.
use Rattle.std.proofs.Common.{◌≡◌, ℕ, ◌<◌, List, [], ◌∷◌, slice_index, Ok, refl, sym, ap, subst, ◌∙◌, arith}
use Rattle.apl_array.specs.declared.array.Elem.{Elem}
use Rattle.apl_array.specs.declared.array.Kind.{Kind}
use Rattle.apl_array.specs.Shape.{IsIndexOf, count_of, place_of}
use Rattle.apl_array.specs.Array.{ArrayValue, IsArray, element_in, element_at}
use Rattle.apl_answer.specs.Rows.{Check, HavePassed, array_row}
use Rattle.apl_laws.specs.Giving.{Gives}
use Rattle.apl_laws.proofs.Given.{Places, array_by, given, gives, same_arrays, element_by_place, by_elements}
use Rattle.apl_laws.proofs.Vectors.{vector_index}

-- the vector of n elements with this element at each index
abbrev pub vector : ℕ → Kind → (ℕ → Elem) → ArrayValue
vector n kind f = array_by (n ∷ []) kind (λ index. f (slice_index index 0))

-- an index list of a vector has one index
pub only_index : (n : ℕ) (index : List ℕ) → IsIndexOf (n ∷ []) index → index ≡ slice_index index 0 ∷ []
only_index n [] inside = absurd (omega (arith, inside.len))
only_index n (i ∷ []) inside = refl
only_index n (i ∷ j ∷ index) inside = absurd (omega (arith, inside.len))

module _ (places : Places) where
  pub element_of_vector : (n : ℕ) (kind : Kind) (f : ℕ → Elem) (i : ℕ) → i < n → element_in (vector n kind f) i ≡ f i
  element_of_vector n kind f i inside =
      let count : count_of (n ∷ []) ≡ n = omega arith in
      element_by_place places (n ∷ []) kind (λ index. f (slice_index index 0)) i (omega (arith, count)) ∙ ap (λ index. f (slice_index index 0)) (vector_index n i inside)

  -- elements that are the same at each index
  pub by_index : (n : ℕ) (kind : Kind) (element : List ℕ → Elem) (f : ℕ → Elem) → ((i : ℕ) → i < n → element (i ∷ []) ≡ f i)
      → array_by (n ∷ []) kind element ≡ vector n kind f
  by_index n kind element f each =
      same_arrays places (n ∷ []) kind element (λ index. f (slice_index index 0))
      (λ index inside.
      let P : List ℕ → Type 0 = λ z. element z ≡ f (slice_index z 0) in
      subst P (sym (only_index n index inside)) (each (slice_index index 0) (inside.below 0 (omega arith))))

  -- each array of one axis is a vector
  pub is_vector : (b : ArrayValue) (n : ℕ) → IsArray b → b.shape ≡ n ∷ [] → vector n b.kind (element_in b) ≡ b
  is_vector b n array shape =
      by_elements places b (n ∷ []) b.kind (λ index. element_in b (slice_index index 0)) array (sym shape) refl
      (λ index inside.
      let P : List ℕ → Type 0 = λ z. IsIndexOf z index in
      let one : index ≡ slice_index index 0 ∷ [] = only_index n index (subst P shape inside) in
      let place : place_of (n ∷ []) (slice_index index 0 ∷ []) ≡ slice_index index 0 = omega arith in
      ap (element_in b) (sym (ap (λ z. place_of z index) shape ∙ ap (place_of (n ∷ [])) one ∙ place)))

  pub vector_given : (checks : List Check) (n : ℕ) (kind : Kind) (element : List ℕ → Elem) (f : ℕ → Elem) (a : ArrayValue) → Gives (array_row checks (n ∷ []) kind element) a
      → ((i : ℕ) → i < n → element (i ∷ []) ≡ f i) → a ≡ vector n kind f
  vector_given checks n kind element f a is each = (given checks (n ∷ []) kind element a is).1 ∙ by_index n kind element f each

  pub gives_vector : (checks : List Check) (n : ℕ) (kind : Kind) (element : List ℕ → Elem) (f : ℕ → Elem) → HavePassed checks
      → ((i : ℕ) → i < n → element (i ∷ []) ≡ f i) → Gives (array_row checks (n ∷ []) kind element) (vector n kind f)
  gives_vector checks n kind element f passed each = gives checks (n ∷ []) kind element passed ∙ ap Ok (by_index n kind element f each)

  -- the element of a vector at an index list of one index
  pub at_index : (n : ℕ) (kind : Kind) (f : ℕ → Elem) (i : ℕ) → i < n → element_at (vector n kind f) (i ∷ []) ≡ f i
  at_index n kind f i inside =
      let place : place_of (n ∷ []) (i ∷ []) ≡ i = omega arith in
      ap (element_in (vector n kind f)) place ∙ element_of_vector n kind f i inside

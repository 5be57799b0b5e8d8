-- Elements of a vector that are chosen by their indexes.
use Rattle.std.proofs.Common.{◌≡◌, ℕ, ℤ, pos, zero, suc, ◌+◌, ◌<◌, ◌≤◌, true, List, [], ◌∷◌, map, slice_index, refl, sym, ap, subst, ◌∙◌, arith}
use Rattle.std.specs.Prelude.{Bool, Some}
use Rattle.std.specs.List.{list_all, range_with_len}
use Rattle.std.proofs.lemmas.Bool.{and_from, lt-ltb}
use Rattle.std.proofs.lemmas.Int.{ints}
use Rattle.apl_array.specs.declared.array.Elem.{Elem}
use Rattle.apl_array.specs.declared.array.Elem.TheVariants.{Int}
use Rattle.apl_array.specs.declared.array.Kind.{Kind}
use Rattle.apl_array.specs.declared.array.Kind.TheVariants.{Number}
use Rattle.apl_array.specs.declared.axis.Origin.{Origin}
use Rattle.apl_array.specs.declared.axis.Origin.TheVariants.{Zero, One}
use Rattle.apl_array.specs.Axes.{from_origin, origin_number, place_number, is_below}
use Rattle.apl_array.specs.Shape.{IsShape}
use Rattle.apl_array.specs.Array.{ArrayValue, IsArray, element_in, element_at}
use Rattle.apl_answer.specs.Arguments.{number_of, numbers_of}
use Rattle.apl_answer.specs.Rows.{HavePassed}
use Rattle.apl_struct.specs.Building.{shape_of_row, iota_row}
use Rattle.apl_struct.specs.Indexing.{Slots, select_source, select_row}
use Rattle.apl_laws.specs.Giving.{Gives}
use Rattle.apl_laws.proofs.Given.{Places}
use Rattle.apl_laws.proofs.Vectors.{vector_by}
use Rattle.apl_laws.proofs.Lists.{vector, is_vector, at_index, vector_given, gives_vector}
use Rattle.apl_laws.proofs.Shapes.{ShapeLaw}

pub from_origin_back : (origin : Origin) (k : ℕ) → from_origin origin (pos (origin_number origin + k)) ≡ pos k
from_origin_back Zero k = omega (arith, ints)
from_origin_back One k = omega (arith, ints)

-- a test that each index from a on passes
all_pass : (p : ℤ → Bool) (h : ℕ → ℤ) (a n : ℕ) → ((j : ℕ) → a ≤ j → j < a + n → p (h j) ≡ true) → list_all p (map h (range_with_len a n)) ≡ true
all_pass p h a zero each = refl
all_pass p h a (suc n) each =
    and_from (p (h a)) (list_all p (map h (range_with_len (a + 1) n))) (each a (omega arith) (omega arith))
    (all_pass p h (a + 1) n (λ j from below. each j (omega arith) (omega arith)))

numbers_in : (h : ℕ → ℤ) (js : List ℕ) → map number_of (map (λ j. Int (h j)) js) ≡ map h js
numbers_in h [] = refl
numbers_in h (j ∷ js) = ap (λ rest. h j ∷ rest) (numbers_in h js)

-- the numbers of a vector of numbers
pub vector_numbers : (n : ℕ) (h : ℕ → ℤ) → numbers_of (vector n Number (λ j. Int (h j))) ≡ map h (range_with_len 0 n)
vector_numbers n h = ap (map number_of) (vector_by (λ j. Int (h j)) n) ∙ numbers_in h (range_with_len 0 n)

-- the numbers of these indexes
abbrev pub index_number : Origin → (ℕ → ℕ) → ℕ → ℤ
index_number origin g j = pos (origin_number origin + g j)

abbrev pub indexes : Origin → ℕ → (ℕ → ℕ) → ArrayValue
indexes origin m g = vector m Number (λ j. Int (index_number origin g j))

module _ (places : Places) (origin : Origin) (n m : ℕ) (kind : Kind) (f : ℕ → Elem) (g : ℕ → ℕ) (within : (j : ℕ) → j < m → g j < n) where
  abbrev pub slots : Slots
  slots = Some (indexes origin m g) ∷ []

  chosen_element : (j : ℕ) → j < m → element_at (vector n kind f) (select_source origin slots (j ∷ [])) ≡ f (g j)
  chosen_element j inside =
      ap (λ x. element_at (vector n kind f) (place_number (from_origin origin (number_of x)) ∷ [])) (at_index places m Number (λ i. Int (index_number origin g i)) j inside)
      ∙ ap (λ z. element_at (vector n kind f) (place_number z ∷ [])) (from_origin_back origin (g j))
      ∙ at_index places n kind f (g j) (within j inside)

  numbers_within : list_all (λ number. is_below n (from_origin origin number)) (numbers_of (indexes origin m g)) ≡ true
  numbers_within =
      let p : ℤ → Bool = λ number. is_below n (from_origin origin number) in
      ap (list_all p) (vector_numbers m (index_number origin g))
      ∙ all_pass p (index_number origin g) 0 m (λ j from below. ap (is_below n) (from_origin_back origin (g j)) ∙ lt-ltb (g j) n (within j (omega arith)))

  pub gives_chosen : ShapeLaw → IsShape (m ∷ []) → Gives (select_row (vector n kind f) slots origin) (vector m kind (λ j. f (g j)))
  gives_chosen decided lawful =
      let row = select_row (vector n kind f) slots origin in
      let passed : HavePassed row.checks =
      (refl, (refl, (and_from (list_all (λ number. is_below n (from_origin origin number)) (numbers_of (indexes origin m g))) true numbers_within refl, ((decided (m ∷ [])).1 lawful, tt)))) in
      gives_vector places row.checks m kind (λ index. element_at (vector n kind f) (select_source origin slots index)) (λ j. f (g j)) passed chosen_element

  pub chosen : (w : ArrayValue) → Gives (select_row (vector n kind f) slots origin) w → w ≡ vector m kind (λ j. f (g j))
  chosen w is =
      vector_given places (select_row (vector n kind f) slots origin).checks m kind (λ index. element_at (vector n kind f) (select_source origin slots index)) (λ j. f (g j)) w is chosen_element

-- the indexes of a vector in order
pub counted_vector : Places → (n : ℕ) (kind : Kind) (f : ℕ → Elem) (s i : ArrayValue) (origin : Origin)
    → Gives (shape_of_row (vector n kind f)) s → Gives (iota_row s origin) i → i ≡ indexes origin n (λ j. j)
counted_vector places n kind f s i origin shape_is iota_is =
    let length_at : ℕ → Elem = λ j. Int (pos (slice_index (n ∷ []) j)) in
    let lengths = vector 1 Number length_at in
    let Q : ArrayValue → Type 0 = λ z. Gives (iota_row z origin) i in
    let shaped : s ≡ lengths = vector_given places [] 1 Number (λ index. length_at (slice_index index 0)) length_at s shape_is (λ j inside. refl) in
    vector_given places (iota_row lengths origin).checks n Number (λ index. Int (pos (origin_number origin + slice_index index 0))) (λ j. Int (pos (origin_number origin + j))) i
    (subst Q shaped iota_is) (λ j inside. refl)

pub counted : Places → (a s i : ArrayValue) (n : ℕ) (origin : Origin) → IsArray a → a.shape ≡ n ∷ []
    → Gives (shape_of_row a) s → Gives (iota_row s origin) i → i ≡ indexes origin n (λ j. j)
counted places a s i n origin array shape shape_is iota_is =
    let P : ArrayValue → Type 0 = λ z. Gives (shape_of_row z) s in
    counted_vector places n a.kind (element_in a) s i origin (subst P (sym (is_vector places a n array shape)) shape_is) iota_is

pub all_chosen : Places → ShapeLaw → (a s i : ArrayValue) (n : ℕ) (origin : Origin) → IsArray a → a.shape ≡ n ∷ []
    → Gives (shape_of_row a) s → Gives (iota_row s origin) i → Gives (select_row a (Some i ∷ []) origin) a
all_chosen places decided a s i n origin array shape shape_is iota_is =
    let f = element_in a in
    let S : List ℕ → Type 0 = IsShape in
    let R : ArrayValue → Type 0 = λ z. Gives (select_row z (Some i ∷ []) origin) z in
    let T : ArrayValue → Type 0 = λ z. Gives (select_row (vector n a.kind f) (Some z ∷ []) origin) (vector n a.kind f) in
    subst R (is_vector places a n array shape)
    (subst T (sym (counted places a s i n origin array shape shape_is iota_is))
    (gives_chosen places origin n n a.kind f (λ j. j) (λ j inside. inside) decided (subst S shape array.shape)))

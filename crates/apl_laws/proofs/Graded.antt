-- The grade of a vector, and its elements in the order of the grade.
use Rattle.std.proofs.Common.{◌≡◌, ◌↔◌, ℕ, ℤ, pos, zero, suc, ◌+◌, ◌<◌, true, false, Bool, int_eq, int_lt, nat_lt, IsPermutation, List, [], ◌∷◌, map, length, slice_index, slice_index_or, refl, ap, sym, subst, ◌∙◌, ⊎_elim, inl, inr, arith}
use Rattle.std.specs.Prelude.{◌==◌, ◌&&◌, ◌||◌, ◌⊎◌, ◌≤ℤ◌, All, Some}
use Rattle.std.specs.List.{range_with_len}
use Rattle.std.proofs.lemmas.Bool.{and_parts}
use Rattle.std.proofs.lemmas.Bool.Decides.{Decides-int_eq}
use Rattle.std.proofs.lemmas.Int.{ints}
use Rattle.std.proofs.lemmas.List.{length-map, get_or-map}
use Rattle.std.proofs.lemmas.List.FromFn.{fill_by_all, length-range_with_len, get_or-range_with_len}
use Rattle.std.proofs.lemmas.List.Sorted.{IsPermutation-map, All-permutation, length_permutation}
use Rattle.apl_array.specs.declared.array.Elem.{Elem}
use Rattle.apl_array.specs.declared.array.Elem.TheVariants.{Int}
use Rattle.apl_array.specs.declared.array.Kind.TheVariants.{Number}
use Rattle.apl_array.specs.declared.axis.Origin.{Origin}
use Rattle.apl_array.specs.Axes.{origin_number}
use Rattle.apl_array.specs.Shape.{count_of}
use Rattle.apl_array.specs.Array.{ArrayValue, IsArray, element_in}
use Rattle.apl_answer.specs.declared.fault.OpFault.TheVariants.{Rank, Domain}
use Rattle.apl_answer.specs.Arguments.{rank_of, is_numbers, number_of, numbers_of}
use Rattle.apl_answer.specs.Rows.{array_row}
use Rattle.apl_struct.specs.Building.{shape_of_row, iota_row}
use Rattle.apl_struct.specs.Indexing.{select_row}
use Rattle.apl_search.specs.Ordering.{upwards, downwards, IsGrade, grade_of, grade_row}
use Rattle.apl_laws.specs.Giving.{Gives}
use Rattle.apl_laws.specs.Order.{IsAscending, IsDescending}
use Rattle.apl_laws.proofs.Given.{Places, elements_length}
use Rattle.apl_laws.proofs.Lists.{vector, is_vector, element_of_vector, vector_given}
use Rattle.apl_laws.proofs.Chosen.{vector_numbers, index_number, indexes, chosen, counted}

number_in : (xs : List Elem) (i : ℕ) → slice_index_or (map number_of xs) i (pos 0) ≡ number_of (slice_index_or xs i (Int (pos 0)))
number_in [] i = refl
number_in (x ∷ xs) zero = refl
number_in (x ∷ xs) (suc i) = number_in xs i

-- the list of grades of a kind is the grade
abbrev pub GradeLaw : (ℤ → ℤ → Bool) → Type 0
GradeLaw precedes = (values : List ℤ) (grade : List ℕ) → IsGrade precedes values grade ↔ (grade ≡ grade_of precedes values)

module _ (places : Places) (precedes : ℤ → ℤ → Bool) (law : GradeLaw precedes) (v g : ArrayValue) (origin : Origin) (n : ℕ)
    (array : IsArray v) (shape : v.shape ≡ n ∷ []) (is : Gives (grade_row precedes v origin) g) where
  abbrev values : List ℤ
  values = numbers_of v

  abbrev grade : List ℕ
  grade = grade_of precedes values

  long : length values ≡ n
  long =
      let count : count_of (n ∷ []) ≡ n = omega arith in
      length-map v.ravel number_of ∙ array.len ∙ ap count_of shape ∙ count

  graded : IsGrade precedes values grade
  graded = (law values grade).1 refl

  grade_long : length grade ≡ n
  grade_long = length_permutation (range_with_len 0 (length values)) grade graded.all ∙ length-range_with_len 0 (length values) ∙ long

  all_below : All (λ p. p < length values) (range_with_len 0 (length values))
  all_below i d inside = let most = length-range_with_len 0 (length values) in rw (get_or-range_with_len 0 (length values) i d (omega arith)) (omega arith)

  within : (j : ℕ) → j < n → slice_index grade j < n
  within j inside =
      let below = All-permutation (λ p. p < length values) (range_with_len 0 (length values)) grade graded.all all_below in
      omega (arith, below j 0 (omega (arith, grade_long, inside)), long)

  -- the grade's numbers
  given_grade : g ≡ indexes origin n (slice_index grade)
  given_grade =
      let P : List ℕ → Type 0 = λ s. Gives (array_row ((rank_of v == 1, Rank) ∷ (is_numbers v, Domain) ∷ []) s Number (λ index. Int (pos (origin_number origin + slice_index grade (slice_index index 0))))) g in
      vector_given places (grade_row precedes v origin).checks n Number (λ index. Int (pos (origin_number origin + slice_index grade (slice_index index 0))))
      (λ j. Int (pos (origin_number origin + slice_index grade j))) g (subst P shape is) (λ j inside. refl)

  grade_numbers : numbers_of g ≡ map (λ p. pos (origin_number origin + p)) grade
  grade_numbers =
      let number : ℕ → ℤ = λ p. pos (origin_number origin + p) in
      ap numbers_of given_grade ∙ vector_numbers n (index_number origin (slice_index grade))
      ∙ sym (fill_by_all (λ j. number (slice_index grade j)) (map number grade) n (pos 0) (length-map grade number ∙ grade_long)
      (λ k inside. get_or-map number grade k 0 (pos 0) (omega (arith, inside, grade_long))))

  -- the same numbers as all indexes
  pub grade_permutes : (s i : ArrayValue) → Gives (shape_of_row v) s → Gives (iota_row s origin) i → IsPermutation (numbers_of i) (numbers_of g)
  grade_permutes s i shape_is iota_is =
      let number : ℕ → ℤ = λ p. pos (origin_number origin + p) in
      let all : numbers_of i ≡ map number (range_with_len 0 n) = ap numbers_of (counted places v s i n origin array shape shape_is iota_is) ∙ vector_numbers n number in
      let Q : ℕ → Type 0 = λ m. IsPermutation (range_with_len 0 m) grade in
      rw (all, grade_numbers) (IsPermutation-map number (range_with_len 0 n) grade (subst Q long graded.all))

  -- the elements in the order of the grade
  ordered : (w : ArrayValue) → Gives (select_row v (Some g ∷ []) origin) w → w ≡ vector n v.kind (λ j. element_in v (slice_index grade j))
  ordered w select_is =
      let f = element_in v in
      let P : ArrayValue → Type 0 = λ z. Gives (select_row z (Some g ∷ []) origin) w in
      let Q : ArrayValue → Type 0 = λ z. Gives (select_row (vector n v.kind f) (Some z ∷ []) origin) w in
      chosen places origin n n v.kind f (slice_index grade) within w (subst Q given_grade (subst P (sym (is_vector places v n array shape)) select_is))

  ordered_number : (w : ArrayValue) (j : ℕ) → Gives (select_row v (Some g ∷ []) origin) w → j < n
      → slice_index_or (numbers_of w) j (pos 0) ≡ slice_index_or values (slice_index grade j) (pos 0)
  ordered_number w j select_is inside =
      let f = λ (i : ℕ). element_in v (slice_index grade i) in
      number_in w.ravel j ∙ ap (λ z. number_of (element_in z j)) (ordered w select_is) ∙ ap number_of (element_of_vector places n v.kind f j inside)
      ∙ sym (number_in v.ravel (slice_index grade j))

  ordered_long : (w : ArrayValue) → Gives (select_row v (Some g ∷ []) origin) w → length (numbers_of w) ≡ n
  ordered_long w select_is =
      let count : count_of (n ∷ []) ≡ n = omega arith in
      let f = λ (i : ℕ). element_in v (slice_index grade i) in
      length-map w.ravel number_of ∙ ap (λ z. length z.ravel) (ordered w select_is) ∙ elements_length (n ∷ []) (λ index. f (slice_index index 0)) ∙ count

  -- what holds of two numbers of which one comes before the other holds of neighbours
  pub neighbours : (R : ℤ → ℤ → Type 0) → ((x y : ℤ) (later : Bool) → (precedes x y || (int_eq x y && later)) ≡ true → R x y)
      → (w : ArrayValue) → Gives (select_row v (Some g ∷ []) origin) w
      → (i : ℕ) → i + 1 < length (numbers_of w) → R (slice_index_or (numbers_of w) i (pos 0)) (slice_index_or (numbers_of w) (i + 1) (pos 0))
  neighbours R holds w select_is i inside =
      let below : i + 1 < n = omega (arith, ordered_long w select_is) in
      let p = slice_index grade i in
      let q = slice_index grade (i + 1) in
      let next = graded.next i (omega (arith, grade_long, below)) in
      rw (ordered_number w i select_is (omega arith), ordered_number w (i + 1) select_is below)
      (holds (slice_index_or values p (pos 0)) (slice_index_or values q (pos 0)) (nat_lt p q) next)

either : (p q : Bool) → (p || q) ≡ true → (p ≡ true) ⊎ (q ≡ true)
either true q e = inl refl
either false q e = inr e

less_is_most : (x y : ℤ) → int_lt x y ≡ true → x ≤ℤ y
less_is_most x y less = grind (arith, ints)

same_is_most : (x y : ℤ) → x ≡ y → x ≤ℤ y
same_is_most x y same = grind (arith, ints)

at_most : (x y : ℤ) (later : Bool) → (upwards x y || (int_eq x y && later)) ≡ true → x ≤ℤ y
at_most x y later is =
    ⊎_elim (less_is_most x y) (λ same. same_is_most x y ((Decides-int_eq x y).0 (and_parts (int_eq x y) later same).0))
    (either (upwards x y) (int_eq x y && later) is)

at_least : (x y : ℤ) (later : Bool) → (downwards x y || (int_eq x y && later)) ≡ true → y ≤ℤ x
at_least x y later is =
    ⊎_elim (less_is_most y x) (λ same. same_is_most y x (sym ((Decides-int_eq x y).0 (and_parts (int_eq x y) later same).0)))
    (either (downwards x y) (int_eq x y && later) is)

pub ascending : Places → GradeLaw upwards → (v g w : ArrayValue) (n : ℕ) (origin : Origin) → IsArray v → v.shape ≡ n ∷ []
    → Gives (grade_row upwards v origin) g → Gives (select_row v (Some g ∷ []) origin) w → IsAscending (numbers_of w)
ascending places law v g w n origin array shape is select_is = neighbours places upwards law v g origin n array shape is (λ x y. x ≤ℤ y) at_most w select_is

pub descending : Places → GradeLaw downwards → (v g w : ArrayValue) (n : ℕ) (origin : Origin) → IsArray v → v.shape ≡ n ∷ []
    → Gives (grade_row downwards v origin) g → Gives (select_row v (Some g ∷ []) origin) w → IsDescending (numbers_of w)
descending places law v g w n origin array shape is select_is = neighbours places downwards law v g origin n array shape is (λ x y. y ≤ℤ x) at_least w select_is

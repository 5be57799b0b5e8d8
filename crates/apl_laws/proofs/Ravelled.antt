-- Ravel, and reshape to the shape that was.
use Rattle.std.proofs.Common.{◌≡◌, ℕ, pos, ◌%◌, ◌<◌, true, List, [], ◌∷◌, map, slice_index, refl, sym, ap, subst, ◌∙◌, ⊎_elim, arith}
use Rattle.std.specs.Prelude.{◌||◌, ◌==◌, not}
use Rattle.std.specs.List.{list_all}
use Rattle.std.proofs.Math.Nat.{mod-eq_of_lt}
use Rattle.std.proofs.lemmas.Bool.{cases_Bool}
use Rattle.apl_array.specs.declared.array.Elem.{Elem}
use Rattle.apl_array.specs.declared.array.Elem.TheVariants.{Int}
use Rattle.apl_array.specs.declared.array.Kind.TheVariants.{Number}
use Rattle.apl_array.specs.Axes.{place_number}
use Rattle.apl_array.specs.Shape.{is_shape, count_of, place_of}
use Rattle.apl_array.specs.Array.{ArrayValue, IsArray, element_in}
use Rattle.apl_answer.specs.Arguments.{rank_of, size_of, has_elements, is_natural, numbers_of}
use Rattle.apl_answer.specs.Rows.{HavePassed}
use Rattle.apl_struct.specs.Building.{shape_of_row, ravel_row, reshape_source, reshape_row}
use Rattle.apl_laws.specs.Giving.{Gives}
use Rattle.apl_laws.proofs.Given.{Places, array_by, given, element_by_place, gives_array}
use Rattle.apl_laws.proofs.Vectors.{vector_index, numbers_by}
use Rattle.apl_laws.proofs.Shapes.{ShapeLaw}

pub all_natural : (ns : List ℕ) → list_all is_natural (map pos ns) ≡ true
all_natural [] = refl
all_natural (n ∷ ns) = all_natural ns

pub same_places : (ns : List ℕ) → map place_number (map pos ns) ≡ ns
same_places [] = refl
same_places (n ∷ ns) = ap (λ rest. n ∷ rest) (same_places ns)

some_or_none : (m n : ℕ) → m ≡ n → (not (m == 0) || (n == 0)) ≡ true
some_or_none m n same = rw same (⊎_elim (λ yes. rw yes refl) (λ no. rw no refl) (cases_Bool (n == 0)))

pub reshape_back : Places → ShapeLaw → (b r s : ArrayValue) → IsArray b → Gives (ravel_row b) r → Gives (shape_of_row b) s → Gives (reshape_row s r) b
reshape_back places decided b r s array ravel_is shape_is =
    let in_place : List ℕ → Elem = λ index. element_in b (slice_index index 0) in
    let length_at : List ℕ → Elem = λ index. Int (pos (slice_index b.shape (slice_index index 0))) in
    let whole = array_by (size_of b ∷ []) b.kind in_place in
    let lengths = array_by (rank_of b ∷ []) Number length_at in
    let ravelled = given (ravel_row b).checks (size_of b ∷ []) b.kind in_place r ravel_is in
    let shaped = given (shape_of_row b).checks (rank_of b ∷ []) Number length_at s shape_is in
    let numbers : numbers_of lengths ≡ map pos b.shape = numbers_by b.shape in
    let same_shape : map place_number (numbers_of lengths) ≡ b.shape = ap (map place_number) numbers ∙ same_places b.shape in
    let count : size_of whole ≡ size_of b = omega arith in
    let natural : list_all is_natural (numbers_of lengths) ≡ true = ap (list_all is_natural) numbers ∙ all_natural b.shape in
    let lawful : is_shape (map place_number (numbers_of lengths)) ≡ true = ap is_shape same_shape ∙ (decided b.shape).1 array.shape in
    let enough : (has_elements whole || (count_of (map place_number (numbers_of lengths)) == 0)) ≡ true =
    some_or_none (size_of whole) (count_of (map place_number (numbers_of lengths))) (count ∙ sym (ap count_of same_shape)) in
    let passed : HavePassed (reshape_row lengths whole).checks = (refl, (refl, (natural, (lawful, (enough, tt))))) in
    let P : ArrayValue → Type 0 = λ z. Gives (reshape_row s z) b in
    let Q : ArrayValue → Type 0 = λ z. Gives (reshape_row z whole) b in
    subst P (sym ravelled.1)
    (subst Q (sym shaped.1)
    (gives_array places (reshape_row lengths whole).checks (map place_number (numbers_of lengths)) b.kind
    (λ index. element_in whole (reshape_source (size_of whole) (place_of (map place_number (numbers_of lengths)) index))) b array passed same_shape refl
    (λ index inside.
    let place = place_of b.shape index in
    let below : place < size_of b = places.below b.shape index inside in
    ap (λ z. element_in whole (reshape_source (size_of whole) (place_of z index))) same_shape
    ∙ ap (λ m. element_in whole (place % m)) count ∙ ap (element_in whole) (mod-eq_of_lt below)
    ∙ element_by_place places (size_of b ∷ []) b.kind in_place place (omega (arith, below, count))
    ∙ ap in_place (vector_index (size_of b) place below))))

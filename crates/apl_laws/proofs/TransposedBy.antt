-- Transposition by the axes in reverse order.
use Rattle.std.proofs.Common.{◌≡◌, ℕ, ℤ, pos, ◌*◌, true, List, [], ◌∷◌, map, length, reverse, slice_index, refl, ap, sym, subst, ◌∙◌, arith}
use Rattle.std.specs.Prelude.{◌&&◌, ◌==◌, Ok}
use Rattle.std.specs.List.{list_all, range_with_len}
use Rattle.std.proofs.lemmas.Bool.{and_from, eq-eqb}
use Rattle.std.proofs.lemmas.List.{length-reverse}
use Rattle.apl_array.specs.declared.array.Elem.{Elem}
use Rattle.apl_array.specs.declared.array.Elem.TheVariants.{Int}
use Rattle.apl_array.specs.declared.array.Kind.TheVariants.{Number}
use Rattle.apl_array.specs.declared.axis.Axis.TheVariants.{Last}
use Rattle.apl_array.specs.declared.axis.Origin.{Origin}
use Rattle.apl_array.specs.Axes.{from_origin, place_number}
use Rattle.apl_array.specs.Array.{ArrayValue, element_at}
use Rattle.apl_array.specs.Transposition.{source_index, transposed_shape}
use Rattle.apl_answer.specs.declared.fault.OpFault.TheVariants.{Rank, Length, Domain}
use Rattle.apl_answer.specs.Arguments.{rank_of, size_of, is_list, is_numbers, is_natural, numbers_of}
use Rattle.apl_answer.specs.Rows.{Row, HavePassed}
use Rattle.apl_struct.specs.Gathering.{gathered_row, along_axis}
use Rattle.apl_struct.specs.Building.{shape_of_row, iota_row}
use Rattle.apl_struct.specs.Rearranging.{reversed_index, reverse_row, transpose_row, named_axes, are_all_named, transpose_by_row}
use Rattle.apl_laws.specs.Giving.{Gives}
use Rattle.apl_laws.proofs.Given.{Places, array_by, given, gives, same_arrays}
use Rattle.apl_laws.proofs.Lists.{vector, at_index, vector_given}
use Rattle.apl_laws.proofs.Chosen.{from_origin_back, vector_numbers, index_number, indexes, counted_vector}
use Rattle.apl_laws.proofs.Named.{from_end, downward, downward_is, named_all, named, reversed_shape}

-- the axes in reverse order reverse an index list
abbrev pub ReversedSource : Type 0
ReversedSource = (index : List ℕ) → source_index (reverse (range_with_len 0 (length index))) index ≡ reverse index

from_origin_all : (origin : Origin) (g : ℕ → ℕ) (js : List ℕ) → map (from_origin origin) (map (index_number origin g) js) ≡ map pos (map g js)
from_origin_all origin g [] = refl
from_origin_all origin g (j ∷ js) =
    ap (λ z. z ∷ map (from_origin origin) (map (index_number origin g) js)) (from_origin_back origin (g j))
    ∙ ap (λ rest. pos (g j) ∷ rest) (from_origin_all origin g js)

places_of_all : (ns : List ℕ) → map place_number (map pos ns) ≡ ns
places_of_all [] = refl
places_of_all (n ∷ ns) = ap (λ rest. n ∷ rest) (places_of_all ns)

natural_all : (ns : List ℕ) → list_all is_natural (map pos ns) ≡ true
natural_all [] = refl
natural_all (n ∷ ns) = natural_all ns

-- the row by its numbers and its axes
abbrev pub by_axes : ArrayValue → ArrayValue → List ℤ → List ℕ → Row
by_axes a b numbers axes =
    gathered_row
    ((is_list a, Rank) ∷ (size_of a == rank_of b, Length) ∷ (is_numbers a, Domain) ∷ (list_all is_natural numbers && are_all_named axes, Domain) ∷ [])
    (transposed_shape (named_axes axes) axes b.shape) b (source_index axes)

module _ (places : Places) where
  reversed_indexes : (origin : Origin) (n : ℕ) (a : ArrayValue) → Gives (reverse_row (indexes origin n (λ j. j)) Last) a → a ≡ indexes origin n (from_end n)
  reversed_indexes origin n a is =
      let f : ℕ → Elem = λ j. Int (index_number origin (λ i. i) j) in
      vector_given places (reverse_row (vector n Number f) Last).checks n Number (λ index. element_at (vector n Number f) (along_axis 0 (reversed_index n) index))
      (λ j. f (from_end n j)) a is (λ j inside. at_index places n Number f (from_end n j) (omega arith))

  named_given : (b s r i a : ArrayValue) (origin : Origin)
      → Gives (shape_of_row b) s → Gives (shape_of_row s) r → Gives (iota_row r origin) i → Gives (reverse_row i Last) a → a ≡ indexes origin (rank_of b) (from_end (rank_of b))
  named_given b s r i a origin s_is r_is i_is a_is =
      let n = rank_of b in
      let length_at : ℕ → Elem = λ j. Int (pos (slice_index b.shape j)) in
      let shape : s ≡ vector n Number length_at = vector_given places [] n Number (λ index. length_at (slice_index index 0)) length_at s s_is (λ j inside. refl) in
      let P : ArrayValue → Type 0 = λ z. Gives (shape_of_row z) r in
      let all : i ≡ indexes origin n (λ j. j) = counted_vector places n Number length_at r i origin (subst P shape r_is) i_is in
      let Q : ArrayValue → Type 0 = λ z. Gives (reverse_row z Last) a in
      reversed_indexes origin n a (subst Q all a_is)

  pub transposed_alike : ReversedSource → (b s r i a c : ArrayValue) (origin : Origin)
      → Gives (shape_of_row b) s → Gives (shape_of_row s) r → Gives (iota_row r origin) i → Gives (reverse_row i Last) a
      → Gives (transpose_row b) c → Gives (transpose_by_row a b origin) c
  transposed_alike reversed b s r i a c origin s_is r_is i_is a_is c_is =
      let n = rank_of b in
      let names = indexes origin n (from_end n) in
      let axes = downward n in
      let named_is : a ≡ names = named_given b s r i a origin s_is r_is i_is a_is in
      let numbers : map (from_origin origin) (numbers_of names) ≡ map pos axes =
      ap (map (from_origin origin)) (vector_numbers n (index_number origin (from_end n))) ∙ from_origin_all origin (from_end n) (range_with_len 0 n) in
      let whole : c ≡ array_by (reverse b.shape) b.kind (λ index. element_at b (reverse index)) = (given [] (reverse b.shape) b.kind (λ index. element_at b (reverse index)) c c_is).1 in
      let shape : transposed_shape (named_axes axes) axes b.shape ≡ reverse b.shape = ap (λ m. transposed_shape m axes b.shape) (named_all n) ∙ reversed_shape b.shape n refl in
      let count : n * 1 ≡ n = omega arith in
      let passed : HavePassed (by_axes names b (map pos axes) axes).checks =
      (refl, (eq-eqb (size_of names) n count, (refl, (and_from (list_all is_natural (map pos axes)) (are_all_named axes) (natural_all axes) (named n), tt)))) in
      let element : List ℕ → Elem = λ index. element_at b (source_index axes index) in
      let same : array_by (transposed_shape (named_axes axes) axes b.shape) b.kind element ≡ array_by (reverse b.shape) b.kind (λ index. element_at b (reverse index)) =
      ap (λ z. array_by z b.kind element) shape
      ∙ same_arrays places (reverse b.shape) b.kind element (λ index. element_at b (reverse index))
      (λ index inside.
      let long : n ≡ length index = sym (inside.len ∙ length-reverse b.shape) in
      ap (element_at b) (ap (λ z. source_index z index) (downward_is n) ∙ ap (λ m. source_index (reverse (range_with_len 0 m)) index) long ∙ reversed index)) in
      let P : ArrayValue → Type 0 = λ z. Gives (transpose_by_row z b origin) c in
      let Q : List ℤ → Type 0 = λ zs. Gives (by_axes names b zs (map place_number zs)) c in
      let R : List ℕ → Type 0 = λ ns. Gives (by_axes names b (map pos axes) ns) c in
      subst P (sym named_is) (subst Q (sym numbers) (subst R (sym (places_of_all axes))
      (rw whole (gives (by_axes names b (map pos axes) axes).checks (transposed_shape (named_axes axes) axes b.shape) b.kind element passed ∙ ap Ok same))))

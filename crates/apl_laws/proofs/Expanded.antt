-- Expansion, and compression by the same bits.
use Rattle.std.proofs.Common.{◌≡◌, ℕ, ℤ, pos, negsuc, ◌<◌, true, List, [], ◌∷◌, ◌++◌, map, length, slice_index, slice_index_or, refl, ap, sym, subst, ◌∙◌, ⊎_elim, arith}
use Rattle.std.specs.Prelude.{◌&&◌, ◌==◌, Some, option_map, sum, slice_set, replicate}
use Rattle.std.specs.List.{list_all}
use Rattle.std.proofs.lemmas.Bool.{and_parts, and_from, cases_Bool, eqb-true, eq-eqb, ltb-true, false≢true}
use Rattle.std.proofs.lemmas.List.{length-map, length-set, get_or-set_same, set-set, set-get_or}
use Rattle.apl_array.specs.declared.axis.Axis.{Axis}
use Rattle.apl_array.specs.declared.axis.Axis.TheVariants.{First, Last, At}
use Rattle.apl_array.specs.declared.array.Elem.{Elem}
use Rattle.apl_array.specs.declared.array.Elem.TheVariants.{Int}
use Rattle.apl_array.specs.Axes.{place_number, from_origin, is_below, has_axis, axis_of}
use Rattle.apl_array.specs.Shape.{IsIndexOf, is_shape}
use Rattle.apl_array.specs.Array.{ArrayValue, IsArray, element_at}
use Rattle.apl_answer.specs.Arguments.{rank_of, size_of, has_one_element, is_scalar, is_list, is_numbers, is_natural, is_bit, number_of, numbers_of}
use Rattle.apl_answer.specs.declared.fault.OpFault.TheVariants.{Rank, Length, Index, Domain, Limit}
use Rattle.apl_answer.specs.Rows.{Row, HavePassed}
use Rattle.apl_struct.specs.Gathering.{element_or_fill, along_axis, along_axis_or_none, gathered_row, filled_row}
use Rattle.apl_struct.specs.Compressing.{as_vector, counts_of, counting_checks, repeated_indexes, replicate_row, expanded_index, expand_row}
use Rattle.apl_laws.specs.Giving.{Gives}
use Rattle.apl_laws.proofs.Given.{Places, array_by, given, element_by, gives_array}
use Rattle.apl_laws.proofs.Shapes.{ShapeLaw, or_true}
use Rattle.apl_laws.proofs.Ones.{IsOne, one_at, are_bits, bits_natural}

-- ---- axes

below_place : (rank : ℕ) (z : ℤ) → is_below rank z ≡ true → place_number z < rank
below_place rank (pos n) below = ltb-true n rank below
below_place rank (negsuc n) below = absurd (false≢true below)

axis_below : (axis : Axis) (rank : ℕ) → 0 < rank → has_axis axis rank ≡ true → axis_of axis rank < rank
axis_below First rank some has = some
axis_below Last rank some has = omega arith
axis_below (At number origin) rank some has = below_place rank (from_origin origin number) has

-- ---- arguments

itself : (n : ℕ) (b : ArrayValue) → 0 < rank_of b → as_vector n b ≡ b
itself n b some = ⊎_elim (λ is. absurd (omega (arith, some, eqb-true (rank_of b) 0 is))) (λ no. rw no refl) (cases_Bool (is_scalar b))

one_count : (xs : List Elem) (n : ℕ) → length xs ≡ n → n ≡ 1
    → replicate n (place_number (number_of (slice_index_or xs 0 (Int (pos 0))))) ≡ map place_number (map number_of xs)
one_count [] n long one = absurd (omega arith)
one_count (x ∷ []) n long one = rw one refl
one_count (x ∷ y ∷ xs) n long one = absurd (omega arith)

-- one count for each index, as the numbers have them
counts_are : (u : ArrayValue) → IsArray u → counts_of u (size_of u) ≡ map place_number (numbers_of u)
counts_are u array =
    ⊎_elim
    (λ one. rw one (one_count u.ravel (size_of u) array.len (eqb-true (size_of u) 1 one)))
    (λ many. rw many refl)
    (cases_Bool (has_one_element u.shape))

expanded_one : (bits : List ℕ) (p j : ℕ) → IsOne bits j p → expanded_index bits p ≡ Some j
expanded_one bits p j is = rw (is.one, is.before) refl

-- ---- the two rows, by the array that they move and by the counts

abbrev pub expanding : ArrayValue → Axis → List ℕ → ArrayValue → Row
expanding u axis bits c =
    let k = axis_of axis (rank_of c) in
    let shape = slice_set c.shape k (size_of u) in
    filled_row
    ((has_axis axis (rank_of c), Index) ∷ (is_list u, Rank) ∷ (is_numbers u && list_all is_bit (numbers_of u), Domain)
    ∷ (sum bits == slice_index c.shape k, Length) ∷ (is_shape shape, Limit) ∷ [])
    shape c (along_axis_or_none k (expanded_index bits))

abbrev pub replicating : ArrayValue → Axis → ArrayValue → ℕ → List ℕ → Row
replicating u axis c rank counts =
    let k = axis_of axis rank in
    let shape = slice_set c.shape k (sum counts) in
    gathered_row (counting_checks u c axis is_natural ++ (is_shape shape, Limit) ∷ []) shape c (along_axis k (slice_index (repeated_indexes counts)))

-- an index list of a shape in which an axis has another length
abbrev pub ChangedLaw : Type 0
ChangedLaw = (shape index : List ℕ) (k m i : ℕ) → k < length shape → IsIndexOf (slice_set shape k m) index → i < slice_index shape k → IsIndexOf shape (slice_set index k i)

module _ (places : Places) (decided : ShapeLaw) (changed : ChangedLaw) where
  module _ (u b : ArrayValue) (axis : Axis) (of_bits : IsArray u) (array : IsArray b) (some : 0 < rank_of b)
      (has : has_axis axis (rank_of b) ≡ true) (list : is_list u ≡ true) (numbers : is_numbers u ≡ true)
      (all : list_all is_bit (numbers_of u) ≡ true) (total : sum (map place_number (numbers_of u)) ≡ slice_index b.shape (axis_of axis (rank_of b))) where
    abbrev bits : List ℕ
    bits = map place_number (numbers_of u)

    abbrev k : ℕ
    k = axis_of axis (rank_of b)

    abbrev shape : List ℕ
    shape = slice_set b.shape k (size_of u)

    abbrev element : List ℕ → Elem
    element index = element_or_fill b (along_axis_or_none k (expanded_index bits) index)

    abbrev wide : ArrayValue
    wide = array_by shape b.kind element

    there : k < length b.shape
    there = axis_below axis (rank_of b) some has

    width : slice_index shape k ≡ size_of u
    width = get_or-set_same b.shape k (size_of u) 0 there

    bits_long : length bits ≡ size_of u
    bits_long = length-map (numbers_of u) place_number ∙ length-map u.ravel number_of ∙ of_bits.len

    same_rank : rank_of wide ≡ rank_of b
    same_rank = length-set b.shape k (size_of u)

    back_shape : slice_set shape k (slice_index b.shape k) ≡ b.shape
    back_shape = set-set b.shape k (size_of u) (slice_index b.shape k) ∙ set-get_or b.shape k 0

    one_of : (index : List ℕ) → IsIndexOf b.shape index → IsOne bits (slice_index index k) (slice_index (repeated_indexes bits) (slice_index index k))
    one_of index inside = one_at bits (slice_index index k) (are_bits (numbers_of u) all) (omega (arith, inside.below k there, total))

    found : (index : List ℕ) (p : ℕ) → IsIndexOf b.shape index → IsOne bits (slice_index index k) p
        → along_axis_or_none k (expanded_index bits) (slice_set index k p) ≡ Some index
    found index p inside is =
        let j = slice_index index k in
        let long : k < length index = omega (arith, there, inside.len) in
        let here : slice_index (slice_set index k p) k ≡ p = get_or-set_same index k p 0 long in
        let entry : expanded_index bits p ≡ Some j = expanded_one bits p j is in
        ap (λ i. option_map (slice_set (slice_set index k p) k) (expanded_index bits i)) here
        ∙ ap (option_map (slice_set (slice_set index k p) k)) entry ∙ ap Some (set-set index k p j ∙ set-get_or index k 0)

    lawful : (index : List ℕ) (p : ℕ) → IsIndexOf b.shape index → IsOne bits (slice_index index k) p → IsIndexOf shape (slice_set index k p)
    lawful index p inside is =
        let P : List ℕ → Type 0 = λ z. IsIndexOf z index in
        changed shape index k (slice_index b.shape k) p (omega (arith, there, same_rank)) (subst P (sym back_shape) inside) (omega (arith, is.below, bits_long, width))

    each_element : (index : List ℕ) → IsIndexOf b.shape index → element_at wide (along_axis k (slice_index (repeated_indexes bits)) index) ≡ element_at b index
    each_element index inside =
        let p = slice_index (repeated_indexes bits) (slice_index index k) in
        let is = one_of index inside in
        element_by places shape b.kind element (slice_set index k p) (lawful index p inside is) ∙ ap (element_or_fill b) (found index p inside is)

    same_shape : slice_set shape k (sum bits) ≡ b.shape
    same_shape = ap (slice_set shape k) total ∙ back_shape

    passed : HavePassed (replicating u axis wide (rank_of b) bits).checks
    passed = (
      ap (has_axis axis) same_rank ∙ has,
      (
        list,
        (
          or_true (has_one_element u.shape) (size_of u == slice_index shape (axis_of axis (rank_of wide)))
              (eq-eqb (size_of u) (slice_index shape (axis_of axis (rank_of wide))) (sym (ap (λ r. slice_index shape (axis_of axis r)) same_rank ∙ width))),
          (
            and_from (is_numbers u) (list_all is_natural (numbers_of u)) numbers (bits_natural (numbers_of u) all),
            (ap is_shape same_shape ∙ (decided b.shape).1 array.shape, tt),
          ),
        ),
      ),
    )

    gives_back : Gives (replicating u axis wide (rank_of b) bits) b
    gives_back =
        gives_array places (replicating u axis wide (rank_of b) bits).checks (slice_set shape k (sum bits)) b.kind
        (λ index. element_at wide (along_axis k (slice_index (repeated_indexes bits)) index)) b array passed same_shape refl each_element

    pub compressed_back : Gives (replicate_row u wide axis) b
    compressed_back =
        let itself_is : as_vector (size_of u) wide ≡ wide = itself (size_of u) wide (omega (arith, some, same_rank)) in
        let counts_at : ArrayValue → List ℕ = λ c. counts_of u (slice_index c.shape (axis_of axis (rank_of c))) in
        let P : ArrayValue → Type 0 = λ c. Gives (replicating u axis c (rank_of c) (counts_at c)) b in
        let Q : ℕ → Type 0 = λ r. Gives (replicating u axis wide r (counts_at wide)) b in
        let R : List ℕ → Type 0 = λ counts. Gives (replicating u axis wide (rank_of b) counts) b in
        let counts : counts_at wide ≡ bits =
        ap (λ r. counts_of u (slice_index shape (axis_of axis r))) same_rank ∙ ap (counts_of u) width ∙ counts_are u of_bits in
        subst P (sym itself_is) (subst Q (sym same_rank) (subst R (sym counts) gives_back))

  pub expand_back : (u b e : ArrayValue) (axis : Axis) → IsArray u → IsArray b → 0 < rank_of b → Gives (expand_row u b axis) e → Gives (replicate_row u e axis) b
  expand_back u b e axis of_bits array some is =
      let bits = map place_number (numbers_of u) in
      let P : ArrayValue → Type 0 = λ c. Gives (expanding u axis bits c) e in
      let k = axis_of axis (rank_of b) in
      let row = expanding u axis bits b in
      let parts = given row.checks row.shape b.kind (λ index. element_or_fill b (along_axis_or_none k (expanded_index bits) index)) e (subst P (itself (sum bits) b some) is) in
      let tests = and_parts (is_numbers u) (list_all is_bit (numbers_of u)) parts.0.1.1.0 in
      let total : sum bits ≡ slice_index b.shape k = eqb-true (sum bits) (slice_index b.shape k) parts.0.1.1.1.0 in
      let Q : ArrayValue → Type 0 = λ z. Gives (replicate_row u z axis) b in
      subst Q (sym parts.1) (compressed_back u b axis of_bits array some parts.0.0 parts.0.1.0 tests.0 tests.1 total)

-- Scalars that serve as vectors, and the elements of a result along an axis whose indexes are taken.
use Rattle.std.proofs.Common.{◌≡◌, ℕ, zero, suc, ◌<◌, true, false, Bool, List, [], ◌∷◌, length, refl, arith, ◌↔◌, pos, ◌+◌, ◌*◌, ◌/◌, ◌%◌, ◌≤◌, inl, inr, Result, drop, take, slice_index, slice_index_or, ap, sym, subst, ◌∙◌}
use Rattle.std.specs.Prelude.{Some, IfSome, max, All, replicate, if◌then◌else◌, slice_set, None, Option, option_map}
use Rattle.std.proofs.lemmas.Bool.Decides.{nat_tests}
use Rattle.std.proofs.lemmas.List.Elements.{All-get_or, All-replicate}
use Rattle.apl_array.specs.declared.array.Elem.{Elem}
use Rattle.apl_array.specs.Range.{IsElementInRange, HasNumbersInRange}
use Rattle.apl_array.specs.Array.{ArrayValue, IsArray, element_at}
use Rattle.apl_answer.specs.Arguments.{is_scalar, only_element, rank_of, fill_of}
use Rattle.apl_struct.specs.Compressing.{as_vector}
use Rattle.apl_struct.specs.Along.{taking_extent, taking_index, IsTakingOf}
use Rattle.apl_struct.proofs.Limits.{element_in_in}
use Rattle.std.proofs.lemmas.Bool.{cases_Bool, eqb-true, eqb-false}
use Rattle.std.proofs.lemmas.List.{nil_from_length, get_or-replicate, set-get_or, get_or_default}
use Rattle.std.proofs.Math.Nat.{mod-one, div-eq_of_lt, div-eq_of_eq-mul_left, div-lt_iff_lt-mul, le-mul_of_pos_right}
use Rattle.apl_array.specs.declared.array.Elem.TheVariants.{Int}
use Rattle.apl_array.specs.Shape.{IsShape, IsIndexOf, is_shape, count_of, place_of, index_at}
use Rattle.apl_answer.specs.declared.fault.OpFault.{OpFault}
use Rattle.apl_answer.specs.Pointwise.{IsArrayBy}
use Rattle.apl_walk.specs.Gathered.{filled_at}
use Rattle.apl_walk.specs.Steps.{and_step}
use Rattle.apl_walk.specs.Ones.{one_of, one_index, next_index, ones_before}
use Rattle.apl_struct.specs.declared.along.Taking.{Taking}
use Rattle.apl_struct.specs.declared.along.Taking.TheVariants.{Reversed, Rotated, Repeated, Listed, Ones, Expanded}
use Rattle.apl_struct.specs.Gathering.{element_or_fill}
use Rattle.apl_struct.specs.Shaped.{IsArrayOrLimit}
use Rattle.apl_struct.proofs.Elements.{filled_within}
use Rattle.apl_struct.proofs.Taken.{pos_right}
use Rattle.apl_struct.proofs.Rotations.{wrapped_below}

-- ---- scalars that serve as vectors

pub axis_of_vector : (n k : ℕ) (b : ArrayValue) → k < max 1 (length b.shape) → k < length (as_vector n b).shape
axis_of_vector n k b axis = by_test (is_scalar b) refl
  where
    by_test : (scalar : Bool) → is_scalar b ≡ scalar → k < length (if scalar then n ∷ [] else b.shape)
    by_test true is = grind (arith, nat_tests)
    by_test false is = grind (arith, nat_tests)

either_all : (c : Bool) (xs ys : List Elem) → All IsElementInRange xs → All IsElementInRange ys → All IsElementInRange (if c then xs else ys)
either_all true xs ys h k = h
either_all false xs ys h k = k

pub as_vector_in : (n : ℕ) (b : ArrayValue) → HasNumbersInRange b → HasNumbersInRange (as_vector n b)
as_vector_in n b h = either_all (is_scalar b) (replicate n (only_element b)) b.ravel (All-replicate IsElementInRange n (only_element b) (element_in_in b 0 h)) h

-- ---- indexes that are taken

one_below : (bits : List Bool) (n : ℕ) → n < ones_before bits (length bits) → one_index bits n < length bits
one_below [] n below = absurd (omega (arith, below))
one_below (false ∷ bits) n below = omega (arith, one_below bits n (omega (arith, below)))
one_below (true ∷ bits) zero below = omega arith
one_below (true ∷ bits) (suc n) below = omega (arith, one_below bits n (omega (arith, below)))

ones_first : (bits : List Bool) → ones_before bits 0 ≡ 0
ones_first [] = refl
ones_first (b ∷ bits) = refl

one_ahead : (bits : List Bool) (i : ℕ) → i < length bits → slice_index_or bits i false ≡ true → ones_before bits i < ones_before bits (length bits)
one_ahead [] i inside one = absurd (omega (arith, inside))
one_ahead (b ∷ bits) zero inside one = omega (arith, ap one_of one)
one_ahead (b ∷ bits) (suc i) inside one = omega (arith, one_ahead bits i (omega (arith, inside)) one)

next_below : (n : ℕ) (bits : List Bool) (i : ℕ) → ones_before bits (length bits) ≡ n → i < length bits → IfSome (next_index bits i) (λ j. j < n)
next_below n bits i all inside = by_bit (slice_index_or bits i false) refl
  where
    by_bit : (b : Bool) → slice_index_or bits i false ≡ b → IfSome (if b then Some (ones_before bits i) else None) (λ j. j < n)
    by_bit true is = omega (arith, one_ahead bits i inside is, all)
    by_bit false is = grind arith

pub taking_below : (n : ℕ) (taking : Taking) (i : ℕ) → IsTakingOf n taking → i < taking_extent n taking → IfSome (taking_index n taking i) (λ j. j < n)
taking_below n Reversed i is inside = omega (arith, inside)
taking_below n (Rotated by) i is inside = wrapped_below n i by inside is
taking_below n (Repeated times) i is inside = (div-lt_iff_lt-mul (pos_right n times (omega (arith, inside)))).1 inside
taking_below n (Listed indexes) i is inside = All-get_or (λ j. j < n) indexes.now i 0 inside is
taking_below n (Ones counted) i is inside = omega (arith, one_below counted.bits.now i (omega (arith, counted.all, inside)), is)
taking_below n (Expanded counted) i is inside = next_below n counted.bits.now i (omega (arith, counted.all, is)) inside

-- an array that is no scalar is its own vector
pub vector_is : (n k : ℕ) (b : ArrayValue) → k < length b.shape → as_vector n b ≡ b
vector_is n k b axis = let vector : is_scalar b ≡ false = grind (arith, axis) in rw vector refl

-- and of its own shape where as many indexes of an axis are taken as there are
pub own_array : ((lengths : List ℕ) → (is_shape lengths ≡ true) ↔ IsShape lengths) → (n k : ℕ) (b : ArrayValue) (at_index : ArrayValue → List ℕ → Elem) (result : Result ArrayValue OpFault)
    → k < length b.shape → n ≡ slice_index b.shape k → IsShape b.shape → IsArrayOrLimit (slice_set (as_vector n b).shape k n) b.kind (at_index (as_vector n b)) result
    → IsArrayBy b.shape b.kind (at_index b) result
own_array decided n k b at_index result axis n_is lawful given = λ element told.
    let same : slice_set b.shape k n ≡ b.shape = ap (slice_set b.shape k) n_is ∙ set-get_or b.shape k 0 in
    let own = subst (λ v. IsArrayOrLimit (slice_set v.shape k n) b.kind (at_index v) result) (vector_is n k b axis) given in
    rw ((decided b.shape).1 lawful) at (subst (λ s. IsArrayOrLimit s b.kind (at_index b) result) same own element told)

-- and what serves as a vector is as long as its axis
pub vector_at : (b : ArrayValue) (m k n : ℕ) → k < max 1 (rank_of b) → n ≡ slice_index (as_vector m b).shape k → as_vector n b ≡ as_vector m b
vector_at b m k n axis is =
    elim (cases_Bool (is_scalar b)) [
      | inl scalar ↦
          let first : k ≡ 0 = grind (arith, axis, eqb-true (rank_of b) 0 scalar) in
          let same : n ≡ m = rw (scalar, first) at is in
          ap (λ l. as_vector l b) same
      | inr vector ↦ rw vector refl
    ]

-- how far apart neighbours along an axis are: those of a scalar are its only element
abbrev pub stride_of : ArrayValue → ℕ → ℕ
stride_of b inner = if is_scalar b then 0 else inner

-- they are within an argument
pub stride_most : ((shape : List ℕ) (k : ℕ) → k < length shape → count_of shape ≡ count_of (take k shape) * slice_index shape k * count_of (drop (k + 1) shape))
    → (b : ArrayValue) (n k apart : ℕ) → k < max 1 (rank_of b) → n ≡ slice_index (as_vector n b).shape k → apart ≡ count_of (drop (k + 1) (as_vector n b).shape)
    → 0 < count_of (take k (as_vector n b).shape) → n * stride_of b apart ≤ count_of b.shape
stride_most counted b n k apart axis n_is apart_is some =
    elim (cases_Bool (is_scalar b)) [
      | inl scalar ↦ rw scalar (omega arith)
      | inr vector ↦
          let several : rank_of b ≡ 0 → ⊥ = eqb-false (rank_of b) 0 vector in
          let length_is : n ≡ slice_index b.shape k = rw vector at n_is in
          let inner : apart ≡ count_of (drop (k + 1) b.shape) = rw vector at apart_is in
          let some' : 0 < count_of (take k b.shape) = rw vector at some in
          let whole : count_of b.shape ≡ count_of (take k b.shape) * (n * apart) = rw (length_is, inner) (omega (arith, counted b.shape k (omega (arith, axis, several)))) in
          rw vector (omega (arith, whole, le-mul_of_pos_right (n * apart) some'))
    ]

module _ (below : (shape index : List ℕ) → IsIndexOf shape index → place_of shape index < count_of shape)
    (lawful : (shape : List ℕ) (place : ℕ) → place < count_of shape → IsIndexOf shape (index_at shape place))
    (counted : (shape : List ℕ) (k : ℕ) → k < length shape → count_of shape ≡ count_of (take k shape) * slice_index shape k * count_of (drop (k + 1) shape))
    (changed : (shape index : List ℕ) (k m i : ℕ) → k < length shape → IsIndexOf (slice_set shape k m) index → i < slice_index shape k → IsIndexOf shape (slice_set index k i))
    (placed : (shape : List ℕ) (k m place i : ℕ) → k < length shape → place < count_of (slice_set shape k m)
    → place_of shape (slice_set (index_at (slice_set shape k m) place) k i)
    ≡ (place / (m * count_of (drop (k + 1) shape)) * slice_index shape k + i) * count_of (drop (k + 1) shape) + place % count_of (drop (k + 1) shape)) where
  taken_element : (b : ArrayValue) (n k m place i : ℕ) → IsArray b → k < max 1 (rank_of b) → n ≡ slice_index (as_vector n b).shape k → 0 < count_of (take k (as_vector n b).shape)
      → place < count_of (slice_set (as_vector n b).shape k m) → i < n
      → let shape = (as_vector n b).shape in let inner = count_of (drop (k + 1) shape) in
      filled_at b (Some (place % inner + i * stride_of b inner + place / (m * inner) * (count_of b.shape / count_of (take k shape))))
      ≡ element_at (as_vector n b) (slice_set (index_at (slice_set shape k m) place) k i)
  taken_element b n k m place i array axis n_is some inside within =
      elim (cases_Bool (is_scalar b)) [
        | inl scalar ↦
            let none : b.shape ≡ [] = nil_from_length b.shape (eqb-true (rank_of b) 0 scalar) in
            let first : k ≡ 0 = omega (arith, axis, ap length none) in
            let here : place < m * 1 = rw (scalar, first) at inside in
            let one : length b.ravel ≡ 1 = array.len ∙ ap count_of none in
            let at_first : place % 1 + i * 0 + place / (m * 1) * (count_of b.shape / 1) ≡ 0 =
            omega (arith, mod-one place, ap (λ q. q * (count_of b.shape / 1)) (div-eq_of_lt here)) in
            let is_only = get_or_default b.ravel 0 (fill_of b.kind) (Int (pos 0)) (omega (arith, one)) in
            rw (scalar, first) (ap (λ p. filled_at b (Some p)) at_first ∙ is_only ∙ sym (get_or-replicate n (i * 1 + 0) (only_element b) (Int (pos 0)) (omega (arith, within))))
        | inr vector ↦
            let inner = count_of (drop (k + 1) b.shape) in
            let outer = count_of (take k b.shape) in
            let several : rank_of b ≡ 0 → ⊥ = eqb-false (rank_of b) 0 vector in
            let axis' : k < length b.shape = omega (arith, axis, several) in
            let length_is : n ≡ slice_index b.shape k = rw vector at n_is in
            let some' : 0 < outer = rw vector at some in
            let inside' : place < count_of (slice_set b.shape k m) = rw vector at inside in
            let index = slice_set (index_at (slice_set b.shape k m) place) k i in
            let block : count_of b.shape / outer ≡ slice_index b.shape k * inner = div-eq_of_eq-mul_left some' (omega (arith, counted b.shape k axis')) in
            let is : IsIndexOf b.shape index = changed b.shape (index_at (slice_set b.shape k m) place) k m i axis' (lawful (slice_set b.shape k m) place inside') (omega (arith, within, length_is)) in
            let there : place % inner + i * inner + place / (m * inner) * (count_of b.shape / outer) ≡ place_of b.shape index =
            omega (arith, placed b.shape k m place i axis' inside', ap (λ x. place / (m * inner) * x) block) in
            rw vector (ap (λ p. filled_at b (Some p)) there ∙ filled_within below b index array is)
      ]

  -- the element at a place of the result is that of its source, or the fill
  pub along_element : (b : ArrayValue) (n k m place : ℕ) (step j : Option ℕ) → IsArray b → k < max 1 (rank_of b) → n ≡ slice_index (as_vector n b).shape k → 0 < count_of (take k (as_vector n b).shape)
      → place < count_of (slice_set (as_vector n b).shape k m) → IfSome j (λ i. i < n)
      → let shape = (as_vector n b).shape in let inner = count_of (drop (k + 1) shape) in step ≡ option_map (λ i. i * stride_of b inner) j
      → filled_at b (and_step (and_step (Some (place % inner)) step) (Some (place / (m * inner) * (count_of b.shape / count_of (take k shape)))))
      ≡ element_or_fill (as_vector n b) (option_map (slice_set (index_at (slice_set shape k m) place) k) j)
  along_element b n k m place step None array axis n_is some inside within is = rw is refl
  along_element b n k m place step (Some i) array axis n_is some inside within is = rw is (taken_element b n k m place i array axis n_is some inside within)

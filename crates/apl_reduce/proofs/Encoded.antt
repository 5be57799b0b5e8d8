-- The digits at the places of an encoded array.
use Rattle.std.proofs.Common.{◌≡◌, ℕ, zero, suc, ◌+◌, ◌*◌, ◌/◌, ◌%◌, ◌<◌, ◌≤◌, ℤ, pos, List, [], ◌∷◌, ◌++◌, Result, Err, length, map, take, drop, get_or, slice_index, refl, sym, ap, subst, ◌∙◌, arith, length-drop}
use Rattle.std.proofs.Math.Nat.{div-one, div-lt_iff_lt-mul, mod-eq_of_lt, mod-lt}
use Rattle.std.proofs.Math.ListN.{get_or-map}
use Rattle.std.proofs.lemmas.Nat.{div_below}
use Rattle.std.proofs.lemmas.List.{take_at, drop_at, get_or-drop, get_or-take, length-take}
use Rattle.std.proofs.lemmas.List.Elements.{All-get_or}
use Rattle.apl_array.specs.declared.array.Elem.{Elem}
use Rattle.apl_array.specs.declared.array.Elem.TheVariants.{Int, Chr}
use Rattle.apl_array.specs.declared.array.Kind.{Kind}
use Rattle.apl_array.specs.declared.array.Kind.TheVariants.{Number, Character}
use Rattle.apl_array.specs.Array.{ArrayValue, IsArray, kind_of, element_in, element_at, number_array}
use Rattle.apl_array.specs.Shape.{IsIndexOf, count_of, place_of, index_at}
use Rattle.apl_pool.specs.declared.kernel.Fault.{Fault}
use Rattle.apl_pool.specs.declared.kernel.Fault.TheVariants.{Domain}
use Rattle.apl_answer.specs.Arguments.{rank_of, numbers_of}
use Rattle.apl_reduce.specs.declared.carry_divisor.CarryDivisor.{CarryDivisor}
use Rattle.apl_reduce.specs.declared.carry_divisor.CarryDivisor.TheVariants.{Nothing, Product}
use Rattle.apl_reduce.specs.Encoding.{encoded}
use Rattle.apl_reduce.specs.Carrying.{digit_in, digit_number, StandsFor}
use Rattle.apl_reduce.proofs.Carries.{get_inside}
use Rattle.apl_reduce.proofs.Numbers.{numbers_of_numbers, count_of_numbers}
use Rattle.apl_reduce.proofs.OuterRows.{same_row}

-- the only index of a place of a list, and of the place of a scalar
pub list_index : (shape : List ℕ) (place : ℕ) → length shape ≤ 1 → place < count_of shape → slice_index (index_at shape place) 0 ≡ place
list_index [] place list inside = omega (arith, inside)
list_index (n ∷ []) place list inside = ap (λ p. p % n) (div-one place) ∙ mod-eq_of_lt (omega (arith, inside))
list_index (n ∷ m ∷ ns) place list inside = absurd (omega (arith, list))

some_width : (n m place : ℕ) → place < n * m → 0 < m
some_width n zero place within = absurd (omega (arith, within))
some_width n (suc m) place within = omega arith

-- ---- characters

refused_kind : (kind : Kind) (radices : List ℤ) (k : ℕ) (x : Elem) → (kind ≡ Number → ⊥) → Err Domain ≡ encoded kind radices k x
refused_kind Number radices k x other = absurd (other refl)
refused_kind Character radices k x other = refl

refused_element : (kind : Kind) (radices : List ℤ) (k : ℕ) (x : Elem) → (kind_of x ≡ Number → ⊥) → Err Domain ≡ encoded kind radices k x
refused_element Number radices k (Int z) other = absurd (other refl)
refused_element Number radices k (Chr c) other = refl
refused_element Character radices k x other = refl

-- what is encoded at an index list
abbrev pub encoded_at : ArrayValue → ArrayValue → List ℕ → Result Elem Fault
encoded_at a b index = encoded a.kind (numbers_of a) (slice_index (take (rank_of a) index) 0) (element_at b (drop (rank_of a) index))

pub refused_left : (a b : ArrayValue) (index : List ℕ) → (a.kind ≡ Number → ⊥) → Err Domain ≡ encoded_at a b index
refused_left a b index other = refused_kind a.kind (numbers_of a) (slice_index (take (rank_of a) index) 0) (element_at b (drop (rank_of a) index)) other

module _ (below : (shape index : List ℕ) → IsIndexOf shape index → place_of shape index < count_of shape)
    (lawful : (shape : List ℕ) (place : ℕ) → place < count_of shape → IsIndexOf shape (index_at shape place))
    (same_place : (shape : List ℕ) (place : ℕ) → place < count_of shape → place_of shape (index_at shape place) ≡ place)
    (count : (a b : List ℕ) → count_of (a ++ b) ≡ count_of a * count_of b)
    (back : (a b index : List ℕ) → IsIndexOf (a ++ b) index → IsIndexOf b (drop (length a) index))
    (joined : (a b : List ℕ) (place : ℕ) → place < count_of a * count_of b → index_at (a ++ b) place ≡ index_at a (place / count_of b) ++ index_at b (place % count_of b)) where
  pub refused_right : (a b : ArrayValue) (place : ℕ) → IsArray b → place < count_of (a.shape ++ b.shape) → (b.kind ≡ Number → ⊥)
      → Err Domain ≡ encoded_at a b (index_at (a.shape ++ b.shape) place)
  refused_right a b place array inside other =
      let index = index_at (a.shape ++ b.shape) place in
      let own = back a.shape b.shape index (lawful (a.shape ++ b.shape) place inside) in
      let there = below b.shape (drop (rank_of a) index) own in
      let kind : kind_of (element_at b (drop (rank_of a) index)) ≡ b.kind =
      All-get_or (λ x. kind_of x ≡ b.kind) b.ravel (place_of b.shape (drop (rank_of a) index)) (Int (pos 0)) (omega (arith, array.len, there)) array.kinds in
      refused_element a.kind (numbers_of a) (slice_index (take (rank_of a) index) 0) (element_at b (drop (rank_of a) index)) (λ e. other (sym kind ∙ e))

  pub digit_there : (a b : ArrayValue) (radices numbers : List ℤ) (place : ℕ) → IsArray b → a ≡ number_array a.shape radices → b ≡ number_array b.shape numbers → rank_of a ≤ 1
      → place < count_of (a.shape ++ b.shape) → digit_in radices numbers place ≡ encoded_at a b (index_at (a.shape ++ b.shape) place)
  digit_there a b radices numbers place array left right list inside =
      let m = count_of b.shape in
      let ravel : b.ravel ≡ map Int numbers = ap (λ v. v.ravel) right in
      let many : length numbers ≡ m = count_of_numbers b numbers array right in
      let within : place < count_of a.shape * m = omega (arith, inside, count a.shape b.shape) in
      let some = some_width (count_of a.shape) m place within in
      let k = place / m in
      let j = place % m in
      let first : k < count_of a.shape = div_below place m (count_of a.shape) some within in
      let second : j < m = mod-lt place some in
      let i = index_at a.shape k in
      let long : length i ≡ rank_of a = (lawful a.shape k first).len in
      let front : take (rank_of a) (i ++ index_at b.shape j) ≡ i = take_at i (index_at b.shape j) (rank_of a) long in
      let rest : drop (rank_of a) (i ++ index_at b.shape j) ≡ index_at b.shape j = drop_at i (index_at b.shape j) (rank_of a) long in
      let element : element_at b (index_at b.shape j) ≡ Int (get_or numbers j (pos 0)) =
      ap (element_in b) (same_place b.shape j second) ∙ ap (λ r. get_or r j (Int (pos 0))) ravel ∙ get_or-map Int numbers j (pos 0) in
      let kind : a.kind ≡ Number = ap (λ v. v.kind) left in
      let are : numbers_of a ≡ radices = ap numbers_of left ∙ numbers_of_numbers radices in
      rw (many, joined a.shape b.shape place within, front, rest, list_index a.shape k list first, element, kind, are) refl

-- ---- digits of neighbours at one radix

pub row_digit : (radices numbers : List ℤ) (from k first m j : ℕ) → k ≡ from / length numbers → first ≡ from % length numbers → j < length (take m (drop first numbers))
    → digit_number radices ((from + j) / length numbers) (get_or numbers ((from + j) % length numbers) (pos 0)) ≡ digit_number radices k (get_or (take m (drop first numbers)) j (pos 0))
row_digit radices numbers from k first m j row column inside =
    let taken = length-take m (drop first numbers) in
    let rest = length-drop first numbers in
    let below : from % length numbers + j < length numbers = omega (arith, taken, rest, column) in
    let same = same_row (length numbers) from j below in
    let there : (from + j) % length numbers ≡ first + j = same.1 ∙ ap (λ c. c + j) (sym column) in
    let read : get_or (take m (drop first numbers)) j (pos 0) ≡ get_or numbers (first + j) (pos 0) =
    get_or-take m (drop first numbers) j (pos 0) (omega (arith, taken)) ∙ get_or-drop first numbers j (pos 0) in
    ap (λ i. digit_number radices i (get_or numbers ((from + j) % length numbers) (pos 0))) (same.0 ∙ sym row)
    ∙ ap (λ i. digit_number radices k (get_or numbers i (pos 0))) there ∙ ap (digit_number radices k) (sym read)

pub radix_of_place : (radices numbers : List ℤ) (from k : ℕ) → 0 < length numbers → k ≡ from / length numbers → from < length radices * length numbers → k < length radices
radix_of_place radices numbers from k some row within = omega (arith, (div-lt_iff_lt-mul {k = length numbers} {x = from} {y = length radices} some).1 within, row)

pub product_there : (radices : List ℤ) (behind : List CarryDivisor) (k : ℕ) (d : CarryDivisor) (p : ℤ) → k < length behind → get_or behind k d ≡ Product p
    → StandsFor (get_or behind k Nothing) (drop (k + 1) radices) → StandsFor (Product p) (drop (k + 1) radices)
product_there radices behind k d p inside is stands = subst (λ x. StandsFor x (drop (k + 1) radices)) (get_inside behind k Nothing d inside ∙ is) stands

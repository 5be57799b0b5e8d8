-- The places of elements whose axes are permuted.
use Rattle.std.proofs.Common.{◌≡◌, ℕ, suc, ◌+◌, ◌-◌, ◌*◌, ◌/◌, ◌%◌, ◌^◌, ◌<◌, ◌≤◌, Bool, true, false, List, [], ◌∷◌, length, map, reverse, slice_index, refl, sym, ap, ◌∙◌, arith, if◌then◌else◌, zero, ◌==◌, slice_index_or, get_or, All, subst}
use Rattle.std.specs.Prelude.{sum, Option, Some}
use Rattle.std.specs.List.{range_with_len, Contains, list_any}
use Rattle.std.proofs.lemmas.Bool.{eqb-true}
use Rattle.std.proofs.lemmas.List.Sums.{sum_by-cons, AllPass-from_list_all}
use Rattle.std.proofs.lemmas.List.{get_or-reverse, get_or_default, length-reverse, ext_get_or}
use Rattle.std.proofs.lemmas.List.FromFn.{length-range_with_len, get_or-range_with_len, length-map-range_with_len, get_or-map-range_with_len}
use Rattle.std.proofs.Math.Nat.{mod-lt, mul-le-mul_right}
use Rattle.apl_array.specs.Shape.{count_of, index_at, IsShape}
use Rattle.apl_array.specs.Transposition.{AreAxesInto, strides, items_onto, inner_product, transposed_shape}
use Rattle.apl_walk.specs.declared.window.Window.{Window}
use Rattle.apl_walk.specs.Steps.{and_step}
use Rattle.apl_walk.specs.Maps.{step_of}
use Rattle.apl_struct.proofs.Taken.{are_factors}
use Rattle.std.proofs.lemmas.Map.Views.{Contains-from_any}
use Rattle.apl_struct.specs.Rearranging.{named_axes, are_all_named}

pub sum-items_onto : (axis a x : ℕ) (axes items : List ℕ)
    → sum (items_onto axis (a ∷ axes) (x ∷ items)) ≡ (if a == axis then x else 0) + sum (items_onto axis axes items)
sum-items_onto axis a x axes items = by_test (a == axis)
  where
    by_test : (b : Bool) → sum (if b then x ∷ items_onto axis axes items else items_onto axis axes items) ≡ (if b then x else 0) + sum (items_onto axis axes items)
    by_test true = sum_by-cons (λ n. n) x (items_onto axis axes items)
    by_test false = omega arith

-- the steps along an axis of the result stay near
pub stride_near : (axis m : ℕ) (axes source : List ℕ) → length axes ≡ length source
    → ((k : ℕ) → k < length source → slice_index axes k ≡ axis → m ≤ slice_index source k) → 0 < count_of source → count_of source ≤ 2 ^ 30
    → m * sum (items_onto axis axes (strides source)) ≤ length source * 2 ^ 30
stride_near axis m [] [] len fits some most = omega arith
stride_near axis m [] (n ∷ ns) len fits some most = absurd (omega (arith, len))
stride_near axis m (a ∷ axes) [] len fits some most = absurd (omega (arith, len))
stride_near axis m (a ∷ axes) (n ∷ ns) len fits some most =
    let both = are_factors n (count_of ns) (2 ^ 30) some most in
    let rest = stride_near axis m axes ns (omega (arith, len)) (λ k inside is. fits (suc k) (omega arith) is) both.rest_some both.rest_less in
    rw (sum-items_onto axis a (count_of ns) axes (strides ns)) (near (a == axis) refl rest)
  where
    near : (b : Bool) → (a == axis) ≡ b → m * sum (items_onto axis axes (strides ns)) ≤ length ns * 2 ^ 30
        → m * ((if b then count_of ns else 0) + sum (items_onto axis axes (strides ns))) ≤ length (n ∷ ns) * 2 ^ 30
    near true test rest = omega (arith, rest, most, mul-le-mul_right (count_of ns) (fits 0 (omega arith) (eqb-true a axis test)))
    near false test rest = omega (arith, rest)

-- one more axis, all of whose indexes are taken
pub permuted_step : (m : ℕ) (ms : List ℕ) (s : ℕ) (ss : List ℕ) (w : Window) (rest : Option ℕ) (e place : ℕ)
    → w.extent ≡ m → e ≡ count_of ms → ((i : ℕ) → i < m → step_of w i ≡ Some (i * s)) → rest ≡ Some (inner_product (index_at ms place) ss)
    → and_step rest (step_of w (place / e % w.extent)) ≡ Some (inner_product (index_at (m ∷ ms) place) (s ∷ ss))
permuted_step m ms s ss w rest e place extent count steps is =
    let inside : place / count_of ms % m < m = mod-lt (place / count_of ms) (omega (arith, w.extent_some, extent)) in
    rw (is, count, extent, steps _ inside) (ap Some (omega arith))

-- ---- the axes in reverse order

counted_down : (rank k : ℕ) → k < rank → slice_index (reverse (range_with_len 0 rank)) k ≡ rank - 1 - k
counted_down rank k inside =
    let counted = range_with_len 0 rank in
    let long : length counted ≡ rank = length-range_with_len 0 rank in
    get_or-reverse counted k 0 (omega (arith, long)) ∙ ap (λ m. slice_index counted (m - 1 - k)) long ∙ omega (arith, get_or-range_with_len 0 rank (rank - 1 - k) 0 (omega arith))

length-counted_down : (rank : ℕ) → length (reverse (range_with_len 0 rank)) ≡ rank
length-counted_down rank = length-reverse (range_with_len 0 rank) ∙ length-range_with_len 0 rank

pub reversed_axes : (rank : ℕ) → map (λ k. rank - 1 - k) (range_with_len 0 rank) ≡ reverse (range_with_len 0 rank)
reversed_axes rank =
    let turned : ℕ → ℕ = λ k. rank - 1 - k in
    ext_get_or 0 (map turned (range_with_len 0 rank)) (reverse (range_with_len 0 rank)) (length-map-range_with_len turned 0 rank ∙ sym (length-counted_down rank))
    (λ k inside.
    let here : k < rank = omega (arith, inside, length-map-range_with_len turned 0 rank) in
    get_or-map-range_with_len turned 0 rank k k 0 here (omega arith) ∙ sym (counted_down rank k here))

pub AreAxesInto-reverse : (source : List ℕ) → AreAxesInto source (reverse (range_with_len 0 (length source))) (reverse source)
AreAxesInto-reverse source =
    record {
      len = length-counted_down (length source);
      below = λ k inside. omega (arith, counted_down (length source) k inside, length-reverse source);
      fits = λ k inside.
          let there : length source - 1 - k < length source = omega arith in
          let turned : slice_index (reverse source) (slice_index (reverse (range_with_len 0 (length source))) k) ≡ slice_index source k =
          ap (slice_index (reverse source)) (counted_down (length source) k inside) ∙ get_or-reverse source (length source - 1 - k) 0 there ∙ ap (slice_index source) (omega arith) in
          omega (arith, turned);
    }

-- ---- axes that become axes of the result

pub axes_below : (source axes result index : List ℕ) → AreAxesInto source axes result → length index ≡ length result → All (λ axis. axis < length index) axes
axes_below source axes result index into len = λ k d inside. omega (arith, get_or_default axes k d 0 inside, into.below k (omega (arith, inside, into.len)), len)

-- ---- the shape of a transposition by axes that are all named

pub names_below : (axes : List ℕ) (k d : ℕ) → k < length axes → get_or axes k d < named_axes axes
names_below [] k d inside = absurd (omega (arith, inside))
names_below (axis ∷ axes) zero d inside = omega arith
names_below (axis ∷ axes) (suc k) d inside = omega (arith, names_below axes k d (omega (arith, inside)))

each_named : (axes : List ℕ) → are_all_named axes ≡ true → (j : ℕ) → j < named_axes axes → Contains axes j
each_named axes all j below =
    let n = named_axes axes in
    let each = AllPass-from_list_all (λ i. list_any (λ axis. axis == i) axes) (range_with_len 0 n) all in
    let at_j : slice_index_or (range_with_len 0 n) j 0 ≡ j = get_or-range_with_len 0 n j 0 below ∙ (let e : 0 + j ≡ j = omega arith in e) in
    let named : list_any (λ axis. axis == j) axes ≡ true =
    subst (λ i. list_any (λ axis. axis == i) axes ≡ true) at_j (each j 0 (omega (arith, below, length-range_with_len 0 n))) in
    Contains-from_any {eq = λ q axis. axis == q} (λ q axis e. sym (eqb-true axis q e)) j axes named

-- where each axis of the result is one that an axis of the source becomes, the result's shape is lawful
abbrev pub ShapeLaw : Type 0
ShapeLaw = (source axes : List ℕ) (rank : ℕ) → IsShape source → length axes ≡ length source → All (λ axis. axis < rank) axes
    → ((axis : ℕ) → axis < rank → Contains axes axis) → IsShape (transposed_shape rank axes source)

pub lawful_transposed : ShapeLaw → (axes source : List ℕ) → length axes ≡ length source → are_all_named axes ≡ true → IsShape source
    → IsShape (transposed_shape (named_axes axes) axes source)
lawful_transposed law axes source len all lawful = law source axes (named_axes axes) lawful len (λ k d inside. names_below axes k d inside) (each_named axes all)

-- The places of a source whose axes become axes of a result.
use Rattle.std.proofs.Common.{◌≡◌, ℕ, zero, suc, ◌+◌, ◌-◌, ◌*◌, ◌<◌, ◌≤◌, Bool, true, false, List, [], ◌∷◌, ◌++◌, length, map, reverse, slice_index, refl, sym, ap, ◌∙◌, arith}
use Rattle.std.specs.Prelude.{◌==◌, if◌then◌else◌, sum, All}
use Rattle.std.specs.List.{range_with_len}
use Rattle.std.proofs.lemmas.Bool.{ne_eqb, eq-eqb}
use Rattle.std.proofs.lemmas.List.{get_or-map, get_or-reverse, length-map, length-reverse, reverse-append, reverse-reverse, ext_get_or}
use Rattle.std.proofs.lemmas.List.Sums.{sum_by-cons}
use Rattle.std.proofs.lemmas.List.FromFn.{length-range_with_len, get_or-range_with_len, length-map-range_with_len, get_or-map-range_with_len}
use Rattle.apl_array.specs.Shape.{IsIndexOf, count_of, place_of}
use Rattle.apl_array.specs.Transposition.{strides, inner_product, source_index, items_onto, least, transposed_shape, source_strides, AreAxesInto}

pub place_of-strides : (shape index : List ℕ) → place_of shape index ≡ inner_product index (strides shape)
place_of-strides [] [] = refl
place_of-strides [] (i ∷ is) = refl
place_of-strides (n ∷ ns) [] = refl
place_of-strides (n ∷ ns) (i ∷ is) = ap (λ p. i * count_of ns + p) (place_of-strides ns is)

-- ---- the axes in reverse order

length-strides : (shape : List ℕ) → length (strides shape) ≡ length shape
length-strides [] = refl
length-strides (n ∷ ns) = ap suc (length-strides ns)

inner_product-append : (xs ys : List ℕ) (x y : ℕ) → length xs ≡ length ys → inner_product (xs ++ x ∷ []) (ys ++ y ∷ []) ≡ inner_product xs ys + x * y
inner_product-append [] [] x y len = omega arith
inner_product-append [] (b ∷ bs) x y len = absurd (omega (arith, len))
inner_product-append (a ∷ more) [] x y len = absurd (omega (arith, len))
inner_product-append (a ∷ more) (b ∷ bs) x y len = omega (arith, inner_product-append more bs x y (omega (arith, len)))

inner_product-reverse : (xs ys : List ℕ) → length xs ≡ length ys → inner_product (reverse xs) (reverse ys) ≡ inner_product xs ys
inner_product-reverse [] [] len = refl
inner_product-reverse [] (y ∷ ys) len = absurd (omega (arith, len))
inner_product-reverse (x ∷ xs) [] len = absurd (omega (arith, len))
inner_product-reverse (x ∷ xs) (y ∷ ys) len =
    let same : length (reverse xs) ≡ length (reverse ys) = omega (arith, length-reverse xs, length-reverse ys, len) in
    let left : reverse (x ∷ xs) ≡ reverse xs ++ x ∷ [] = reverse-append (x ∷ []) xs in
    let right : reverse (y ∷ ys) ≡ reverse ys ++ y ∷ [] = reverse-append (y ∷ []) ys in
    ap (λ l. inner_product l (reverse (y ∷ ys))) left
    ∙ ap (inner_product (reverse xs ++ x ∷ [])) right
    ∙ omega (arith, inner_product-append (reverse xs) (reverse ys) x y same, inner_product-reverse xs ys (omega (arith, len)))

pub place_of-reverse : (shape index : List ℕ) → length index ≡ length shape → place_of shape (reverse index) ≡ inner_product index (reverse (strides shape))
place_of-reverse shape index len =
    let back : reverse (reverse index) ≡ index = reverse-reverse index in
    let turned = inner_product-reverse (reverse index) (strides shape) (omega (arith, len, length-reverse index, length-strides shape)) in
    place_of-strides shape (reverse index) ∙ sym turned ∙ ap (λ is. inner_product is (reverse (strides shape))) back

-- ---- an index list weighted by a function of the axis, the axes counted from `first` on

abbrev pub weighted : List ℕ → ℕ → (ℕ → ℕ) → ℕ
weighted index first weight = inner_product index (map weight (range_with_len first (length index)))

weighted_zero : (index : List ℕ) (first : ℕ) (weight : ℕ → ℕ) → ((axis : ℕ) → first ≤ axis → weight axis ≡ 0) → weighted index first weight ≡ 0
weighted_zero [] first weight none = refl
weighted_zero (i ∷ is) first weight none =
    let rest = weighted_zero is (first + 1) weight (λ axis from. none axis (omega (arith, from))) in
    omega (arith, rest, ap (λ w. i * w) (none first (omega arith)))

weighted_sum : (index : List ℕ) (first : ℕ) (left right both : ℕ → ℕ) → ((axis : ℕ) → both axis ≡ left axis + right axis)
    → weighted index first both ≡ weighted index first left + weighted index first right
weighted_sum [] first left right both is = refl
weighted_sum (i ∷ js) first left right both is =
    let rest = weighted_sum js (first + 1) left right both is in
    omega (arith, rest, ap (λ w. i * w) (is first))

-- a weight on one axis alone
weighted_one : (index : List ℕ) (first k one stride : ℕ) → first + k ≡ one → k < length index
    → weighted index first (λ axis. if one == axis then stride else 0) ≡ slice_index index k * stride
weighted_one [] first k one stride at inside = absurd (omega arith)
weighted_one (i ∷ is) first zero one stride at inside =
    let here : (if one == first then stride else 0) ≡ stride = ap (λ b. if b then stride else 0) (eq-eqb one first (omega (arith, at))) in
    let rest = weighted_zero is (first + 1) (λ axis. if one == axis then stride else 0)
    (λ axis from. ap (λ b. if b then stride else 0) (ne_eqb one axis (λ e. omega (arith, e, at, from)))) in
    omega (arith, rest, ap (λ w. i * w) here)
weighted_one (i ∷ is) first (suc k) one stride at inside =
    let here : (if one == first then stride else 0) ≡ 0 = ap (λ b. if b then stride else 0) (ne_eqb one first (λ e. omega (arith, e, at))) in
    let rest = weighted_one is (first + 1) k one stride (omega (arith, at)) (omega arith) in
    omega (arith, rest, ap (λ w. i * w) here)

sum-items_onto : (axis a x : ℕ) (axes items : List ℕ)
    → sum (items_onto axis (a ∷ axes) (x ∷ items)) ≡ (if a == axis then x else 0) + sum (items_onto axis axes items)
sum-items_onto axis a x axes items = by_test (a == axis)
  where
    by_test : (b : Bool) → sum (if b then x ∷ items_onto axis axes items else items_onto axis axes items) ≡ (if b then x else 0) + sum (items_onto axis axes items)
    by_test true = sum_by-cons (λ n. n) x (items_onto axis axes items)
    by_test false = omega arith

-- the items of the source's axes, summed by the axes that they become
pub weighted-items_onto : (axes items index : List ℕ) → All (λ axis. axis < length index) axes
    → inner_product (source_index axes index) items ≡ weighted index 0 (λ axis. sum (items_onto axis axes items))
weighted-items_onto [] items index below = sym (weighted_zero index 0 (λ axis. 0) (λ axis from. refl))
weighted-items_onto (a ∷ axes) [] index below = sym (weighted_zero index 0 (λ axis. 0) (λ axis from. refl))
weighted-items_onto (a ∷ axes) (x ∷ items) index below =
    let rest = weighted-items_onto axes items index (λ k d inside. below (suc k) d (omega arith)) in
    let here = weighted_one index 0 a a x (omega arith) (below 0 0 (omega arith)) in
    let both = weighted_sum index 0 (λ axis. if a == axis then x else 0) (λ axis. sum (items_onto axis axes items)) (λ axis. sum (items_onto axis (a ∷ axes) (x ∷ items)))
    (λ axis. sum-items_onto axis a x axes items) in
    omega (arith, rest, here, both)

-- the place in the source, counted in steps along the result's axes
pub place_of-source_index : (source axes index : List ℕ) → All (λ axis. axis < length index) axes
    → place_of source (source_index axes index) ≡ inner_product index (source_strides (length index) axes source)
place_of-source_index source axes index below =
    place_of-strides source (source_index axes index) ∙ weighted-items_onto axes (strides source) index below

pub IsIndexOf-source_index : (source axes result index : List ℕ) → AreAxesInto source axes result → IsIndexOf result index
    → IsIndexOf source (source_index axes index)
IsIndexOf-source_index source axes result index into lawful =
    record {
      len = length-map axes (slice_index index) ∙ into.len;
      below = λ k inside.
          let there = get_or-map (slice_index index) axes k 0 0 (omega (arith, into.len)) in
          omega (arith, there, lawful.below (slice_index axes k) (into.below k inside), into.fits k inside);
    }

-- ---- the shape of the result

least-bound : (ns : List ℕ) (i : ℕ) → i < length ns → least ns ≤ slice_index ns i
least-bound [] i inside = absurd (omega arith)
least-bound (n ∷ []) zero inside = omega arith
least-bound (n ∷ []) (suc i) inside = absurd (omega arith)
least-bound (n ∷ m ∷ ns) zero inside = omega arith
least-bound (n ∷ m ∷ ns) (suc i) inside = omega (arith, least-bound (m ∷ ns) i (omega arith))

-- each item is among those of the axis that it becomes
pub items_onto-has : (axes items : List ℕ) (k : ℕ) → k < length items → length axes ≡ length items
    → (i : ℕ) × (i < length (items_onto (slice_index axes k) axes items)) × (slice_index (items_onto (slice_index axes k) axes items) i ≡ slice_index items k)
items_onto-has axes [] k inside len = absurd (omega arith)
items_onto-has [] (x ∷ items) k inside len = absurd (omega (arith, len))
items_onto-has (a ∷ axes) (x ∷ items) zero inside len =
    rw (eq-eqb a a refl) (0, omega arith, refl)
items_onto-has (a ∷ axes) (x ∷ items) (suc k) inside len = by_test (a == slice_index axes k) (items_onto-has axes items k (omega arith) (omega (arith, len)))
  where
    rest : List ℕ
    rest = items_onto (slice_index axes k) axes items

    by_test : (b : Bool) → ((i : ℕ) × (i < length rest) × (slice_index rest i ≡ slice_index items k))
        → (i : ℕ) × (i < length (if b then x ∷ rest else rest)) × (slice_index (if b then x ∷ rest else rest) i ≡ slice_index items k)
    by_test true (i, below, is) = (suc i, omega (arith, below), is)
    by_test false found = found

pub AreAxesInto-transposed_shape : (source axes : List ℕ) (rank : ℕ) → length axes ≡ length source → All (λ axis. axis < rank) axes
    → AreAxesInto source axes (transposed_shape rank axes source)
AreAxesInto-transposed_shape source axes rank len below =
    let shortest : ℕ → ℕ = λ axis. least (items_onto axis axes source) in
    record {
      len = len;
      below = λ k inside. omega (arith, below k 0 (omega (arith, len)), length-map-range_with_len shortest 0 rank);
      fits = λ k inside.
          let axis = slice_index axes k in
          let (i, there, is) = items_onto-has axes source k inside len in
          let long : slice_index (transposed_shape rank axes source) axis ≡ shortest axis = get_or-map-range_with_len shortest 0 rank axis axis 0 (below k 0 (omega (arith, len))) (omega arith) in
          omega (arith, long, least-bound (items_onto axis axes source) i there, is);
    }

-- ---- an index list in reverse order is that of the axes in reverse order

pub source_index-reverse : (index : List ℕ) → source_index (reverse (range_with_len 0 (length index))) index ≡ reverse index
source_index-reverse index =
    let n = length index in
    let counted = range_with_len 0 n in
    let long : length counted ≡ n = length-range_with_len 0 n in
    let axes_long : length (reverse counted) ≡ n = length-reverse counted ∙ long in
    let left_long : length (source_index (reverse counted) index) ≡ n = length-map (reverse counted) (slice_index index) ∙ axes_long in
    ext_get_or 0 (source_index (reverse counted) index) (reverse index) (left_long ∙ sym (length-reverse index))
    (λ k inside.
    let here : k < n = omega (arith, inside, left_long) in
    let taken = get_or-map (slice_index index) (reverse counted) k 0 0 (omega (arith, axes_long)) in
    let turned : slice_index (reverse counted) k ≡ n - 1 - k =
    get_or-reverse counted k 0 (omega (arith, long)) ∙ ap (λ m. slice_index counted (m - 1 - k)) long ∙ omega (arith, get_or-range_with_len 0 n (n - 1 - k) 0 (omega arith)) in
    taken ∙ ap (slice_index index) turned ∙ sym (get_or-reverse index k 0 here))

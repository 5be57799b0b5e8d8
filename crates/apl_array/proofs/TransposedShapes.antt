-- The shape of a transposition is a shape where each of its axes is named: it has no more axes than the source, and no more elements.
use Rattle.std.proofs.Common.{◌≡◌, ℕ, zero, suc, ◌+◌, ◌*◌, ◌<◌, ◌≤◌, Bool, true, false, List, [], ◌∷◌, length, map, replicate, slice_index, refl, sym, ap, ◌∙◌, arith}
use Rattle.std.specs.Prelude.{◌==◌, if◌then◌else◌, sum, All, Contains}
use Rattle.std.specs.List.{range_with_len}
use Rattle.std.proofs.lemmas.Bool.{ne_eqb, eq-eqb}
use Rattle.std.proofs.lemmas.List.{length-map, length-replicate, get_or-map, get_or_default}
use Rattle.std.proofs.lemmas.List.Sums.{get_or-le-sum_by}
use Rattle.std.proofs.lemmas.List.FromFn.{length-map-range_with_len}
use Rattle.std.proofs.Math.Nat.{mul-le-mul_left, mul-le-mul_right}
use Rattle.apl_array.specs.Shape.{IsShape, count_of}
use Rattle.apl_array.specs.Transposition.{inner_product, source_index, items_onto, least, transposed_shape}
use Rattle.apl_array.proofs.Transpositions.{weighted, weighted-items_onto, items_onto-has, AreAxesInto-transposed_shape}

-- each axis below the rank is that of some source axis
abbrev pub AreNamed : ℕ → List ℕ → Type 0
AreNamed rank axes = (axis : ℕ) → axis < rank → Contains axes axis

abbrev Named : ℕ → List ℕ → Type 0
Named axis axes = (k : ℕ) × (k < length axes) × (slice_index axes k ≡ axis)

named : (rank : ℕ) (axes : List ℕ) → AreNamed rank axes → (axis : ℕ) → axis < rank → Named axis axes
named rank axes all axis inside =
    let (k, below, is) = all axis inside in
    (k, below, get_or_default axes k 0 axis below ∙ is)

-- an item that becomes a named axis
named_item : (axes items : List ℕ) (axis : ℕ) → length axes ≡ length items → Named axis axes
    → (i : ℕ) × (k : ℕ) × (i < length (items_onto axis axes items)) × (k < length items) × (slice_index (items_onto axis axes items) i ≡ slice_index items k)
named_item axes items axis len (k, below, is) =
    let (i, there, same) = items_onto-has axes items k (omega (arith, len)) len in
    (i, k, rw is at there, omega (arith, len), rw is at same)

-- ---- no more axes

one-or-none : (n k : ℕ) → slice_index (replicate n 1) k ≤ 1
one-or-none zero k = omega arith
one-or-none (suc n) zero = omega arith
one-or-none (suc n) (suc k) = one-or-none n k

ones-within : (axes index : List ℕ) → ((k : ℕ) → slice_index index k ≤ 1) → inner_product (source_index axes index) (map (λ axis. 1) axes) ≤ length axes
ones-within [] index most = omega arith
ones-within (a ∷ axes) index most = omega (arith, most a, ones-within axes index most)

weighted-least : (n first : ℕ) (weight : ℕ → ℕ) → ((axis : ℕ) → first ≤ axis → axis < first + n → 1 ≤ weight axis) → n ≤ weighted (replicate n 1) first weight
weighted-least zero first weight some = omega arith
weighted-least (suc n) first weight some =
    let rest = weighted-least n (first + 1) weight (λ axis from to. some axis (omega (arith, from)) (omega (arith, to))) in
    omega (arith, rest, some first (omega arith) (omega arith))

pub rank-within : (rank : ℕ) (axes : List ℕ) → All (λ axis. axis < rank) axes → AreNamed rank axes → rank ≤ length axes
rank-within rank axes below all =
    let one : ℕ → ℕ = λ axis. 1 in
    let ones : List ℕ = map one axes in
    let ones_long : length ones ≡ length axes = length-map axes one in
    let index : List ℕ = replicate rank 1 in
    let long : length index ≡ rank = length-replicate rank 1 in
    let counted = weighted-items_onto axes ones index (λ k d inside. omega (arith, long, below k d inside)) in
    let each : (axis : ℕ) → 0 ≤ axis → axis < 0 + rank → 1 ≤ sum (items_onto axis axes ones) =
    λ axis from to.
    (let (i, k, there, here, is) = named_item axes ones axis (sym ones_long) (named rank axes all axis (omega (arith, to))) in
    let item : slice_index ones k ≡ 1 = get_or-map one axes k 0 0 (omega (arith, here, ones_long)) in
    omega (arith, is, item, get_or-le-sum_by (λ n. n) (items_onto axis axes ones) i 0 there)) in
    omega (arith, counted, ones-within axes index (one-or-none rank), weighted-least rank 0 (λ axis. sum (items_onto axis axes ones)) each)

-- ---- no more elements

-- the product of what a function gives of n axes from `first` on
abbrev product : (ℕ → ℕ) → ℕ → ℕ → ℕ
product f first n = count_of (map f (range_with_len first n))

product-ones : (f : ℕ → ℕ) (first n : ℕ) → ((axis : ℕ) → first ≤ axis → f axis ≡ 1) → product f first n ≡ 1
product-ones f first zero ones = refl
product-ones f first (suc n) ones =
    let rest = product-ones f (first + 1) n (λ axis from. ones axis (omega (arith, from))) in
    rw (ones first (omega arith), rest) refl

product-times : (f g both : ℕ → ℕ) (first n : ℕ) → ((axis : ℕ) → both axis ≡ f axis * g axis) → product both first n ≡ product f first n * product g first n
product-times f g both first zero is = refl
product-times f g both first (suc n) is =
    let rest = product-times f g both (first + 1) n is in
    omega (arith, ap (λ w. w * product both (first + 1) n) (is first), ap (λ w. f first * g first * w) rest)

product-one : (first k one x n : ℕ) → first + k ≡ one → k < n → product (λ axis. if one == axis then x else 1) first n ≡ x
product-one first k one x zero at inside = absurd (omega arith)
product-one first zero one x (suc n) at inside =
    let here : (if one == first then x else 1) ≡ x = ap (λ b. if b then x else 1) (eq-eqb one first (omega (arith, at))) in
    let rest = product-ones (λ axis. if one == axis then x else 1) (first + 1) n
    (λ axis from. ap (λ b. if b then x else 1) (ne_eqb one axis (λ e. omega (arith, e, at, from)))) in
    rw (here, rest) (omega arith)
product-one first (suc k) one x (suc n) at inside =
    let here : (if one == first then x else 1) ≡ 1 = ap (λ b. if b then x else 1) (ne_eqb one first (λ e. omega (arith, e, at))) in
    let rest = product-one (first + 1) k one x n (omega (arith, at)) (omega arith) in
    rw (here, rest) (omega arith)

product-within : (f g : ℕ → ℕ) (first n : ℕ) → ((axis : ℕ) → first ≤ axis → axis < first + n → f axis ≤ g axis) → product f first n ≤ product g first n
product-within f g first zero within = omega arith
product-within f g first (suc n) within =
    let rest = product-within f g (first + 1) n (λ axis from to. within axis (omega (arith, from)) (omega (arith, to))) in
    omega (arith, mul-le-mul_left (f first) rest, mul-le-mul_right (product g (first + 1) n) (within first (omega arith) (omega arith)))

count-items_onto : (axis a x : ℕ) (axes items : List ℕ)
    → count_of (items_onto axis (a ∷ axes) (x ∷ items)) ≡ (if a == axis then x else 1) * count_of (items_onto axis axes items)
count-items_onto axis a x axes items = by_test (a == axis)
  where
    by_test : (b : Bool) → count_of (if b then x ∷ items_onto axis axes items else items_onto axis axes items) ≡ (if b then x else 1) * count_of (items_onto axis axes items)
    by_test true = refl
    by_test false = omega arith

-- the items of the source's axes, multiplied by the axes that they become
product-items_onto : (axes items : List ℕ) (rank : ℕ) → length axes ≡ length items → All (λ axis. axis < rank) axes
    → count_of items ≡ product (λ axis. count_of (items_onto axis axes items)) 0 rank
product-items_onto [] [] rank len below = sym (product-ones (λ axis. 1) 0 rank (λ axis from. refl))
product-items_onto [] (x ∷ items) rank len below = absurd (omega (arith, len))
product-items_onto (a ∷ axes) [] rank len below = absurd (omega (arith, len))
product-items_onto (a ∷ axes) (x ∷ items) rank len below =
    let rest = product-items_onto axes items rank (omega (arith, len)) (λ k d inside. below (suc k) d (omega arith)) in
    let here = product-one 0 a a x rank (omega arith) (below 0 0 (omega arith)) in
    let both = product-times (λ axis. if a == axis then x else 1) (λ axis. count_of (items_onto axis axes items)) (λ axis. count_of (items_onto axis (a ∷ axes) (x ∷ items))) 0 rank
    (λ axis. count-items_onto axis a x axes items) in
    sym (both ∙ ap (λ w. w * product (λ axis. count_of (items_onto axis axes items)) 0 rank) here ∙ ap (λ w. x * w) (sym rest))

least-count : (ns : List ℕ) → 0 < length ns → least ns ≤ count_of ns
least-count [] some = absurd (omega arith)
least-count (n ∷ []) some = omega arith
least-count (zero ∷ m ∷ ns) some = omega arith
least-count (suc n ∷ m ∷ ns) some = omega (arith, least-count (m ∷ ns) (omega arith))

pub count_of-transposed_shape : (source axes : List ℕ) (rank : ℕ) → length axes ≡ length source → All (λ axis. axis < rank) axes → AreNamed rank axes
    → count_of (transposed_shape rank axes source) ≤ count_of source
count_of-transposed_shape source axes rank len below all =
    let all_of = product-items_onto axes source rank len below in
    let each = product-within (λ axis. least (items_onto axis axes source)) (λ axis. count_of (items_onto axis axes source)) 0 rank
    (λ axis from to.
    (let (i, k, there, here, is) = named_item axes source axis len (named rank axes all axis (omega (arith, to))) in
    least-count (items_onto axis axes source) (omega (arith, there)))) in
    omega (arith, all_of, each)

pub IsShape-transposed_shape : (source axes : List ℕ) (rank : ℕ) → IsShape source → length axes ≡ length source → All (λ axis. axis < rank) axes → AreNamed rank axes
    → IsShape (transposed_shape rank axes source)
IsShape-transposed_shape source axes rank shape len below all =
    let shortest : ℕ → ℕ = λ axis. least (items_onto axis axes source) in
    let long : length (transposed_shape rank axes source) ≡ rank = length-map-range_with_len shortest 0 rank in
    let into = AreAxesInto-transposed_shape source axes rank len below in
    record {
      rank = omega (arith, long, rank-within rank axes below all, len, shape.rank);
      axes = λ axis d inside.
          (let (k, here, is) = named rank axes all axis (omega (arith, inside, long)) in
          let fits = rw is at (into.fits k (omega (arith, here, len))) in
          let same = get_or_default (transposed_shape rank axes source) axis 0 d inside in
          omega (arith, same, fits, shape.axes k 0 (omega (arith, here, len))));
      count = omega (arith, count_of-transposed_shape source axes rank len below all, shape.count);
    }

-- The axes named in reverse order.
use Rattle.std.proofs.Common.{◌≡◌, ℕ, zero, suc, ◌+◌, ◌-◌, ◌<◌, ◌≤◌, ◌≢◌, true, false, Bool, List, [], ◌∷◌, map, length, reverse, slice_index, refl, ap, sym, ◌∙◌, ⊎_elim, arith}
use Rattle.std.specs.Prelude.{◌==◌}
use Rattle.std.specs.List.{list_all, list_any, range_with_len}
use Rattle.std.proofs.lemmas.Bool.{and_from, eq-eqb, cases_Bool, eqb-true}
use Rattle.std.proofs.lemmas.List.{ext_get_or, get_or-reverse, length-reverse}
use Rattle.std.proofs.lemmas.List.Folds.{list_any_at}
use Rattle.std.proofs.lemmas.List.FromFn.{length-range_with_len, length-map-range_with_len, get_or-range_with_len, get_or-map-range_with_len}
use Rattle.apl_array.specs.Transposition.{items_onto, least, transposed_shape}
use Rattle.apl_struct.specs.Rearranging.{named_axes, are_all_named}

-- axis n - 1 - j
abbrev pub from_end : (n j : ℕ) → ℕ
from_end n j = n - 1 - j

-- the axes n - 1, n - 2 .. 0
abbrev pub downward : ℕ → List ℕ
downward n = map (from_end n) (range_with_len 0 n)

pub downward_is : (n : ℕ) → downward n ≡ reverse (range_with_len 0 n)
downward_is n =
    let all = range_with_len 0 n in
    let long : length all ≡ n = length-range_with_len 0 n in
    ext_get_or 0 (downward n) (reverse all) (length-map-range_with_len (from_end n) 0 n ∙ sym (length-reverse all ∙ long))
    (λ k inside.
    let below : k < n = omega (arith, inside, length-map-range_with_len (from_end n) 0 n) in
    get_or-map-range_with_len (from_end n) 0 n k k 0 below (omega arith)
    ∙ sym (get_or-reverse all k 0 (omega (arith, long, below)) ∙ ap (λ m. slice_index all (m - 1 - k)) long
    ∙ get_or-range_with_len 0 n (n - 1 - k) 0 (omega (arith, below)) ∙ omega arith))

at_downward : (n k : ℕ) → k < n → slice_index (downward n) k ≡ from_end n k
at_downward n k below = get_or-map-range_with_len (from_end n) 0 n k k 0 below (omega arith)

-- ---- each axis is named

named_most : (n : ℕ) (g : ℕ → ℕ) (js : List ℕ) → ((j : ℕ) → g j < n) → named_axes (map g js) ≤ n
named_most n g [] below = omega arith
named_most n g (j ∷ js) below = let rest = named_most n g js below in let here = below j in omega arith

pub named_all : (n : ℕ) → named_axes (downward n) ≡ n
named_all zero = refl
named_all (suc n) =
    let below : (j : ℕ) → from_end (suc n) j < suc n = λ j. omega arith in
    let rest = named_most (suc n) (from_end (suc n)) (range_with_len 1 n) below in
    omega arith

named_at : (n j : ℕ) → j < n → list_any (λ axis. axis == j) (downward n) ≡ true
named_at n j below =
    let i = from_end n j in
    let inside : i < n = omega arith in
    let back : from_end n i ≡ j = omega arith in
    list_any_at (λ axis. axis == j) (downward n) i 0 (omega (arith, inside, length-map-range_with_len (from_end n) 0 n))
    (eq-eqb (slice_index (downward n) i) j (at_downward n i inside ∙ back))

all_true : (p : ℕ → Bool) (a n : ℕ) → ((j : ℕ) → a ≤ j → j < a + n → p j ≡ true) → list_all p (range_with_len a n) ≡ true
all_true p a zero each = refl
all_true p a (suc n) each =
    and_from (p a) (list_all p (range_with_len (a + 1) n)) (each a (omega arith) (omega arith)) (all_true p (a + 1) n (λ j from below. each j (omega arith) (omega arith)))

pub named : (n : ℕ) → are_all_named (downward n) ≡ true
named n =
    let test : ℕ → Bool = λ j. list_any (λ axis. axis == j) (downward n) in
    ap (λ m. list_all test (range_with_len 0 m)) (named_all n) ∙ all_true test 0 n (λ j from below. named_at n j (omega arith))

-- ---- the lengths

apart : (a b : ℕ) → a ≢ b → (a == b) ≡ false
apart a b other = ⊎_elim (λ same. absurd (other (eqb-true a b same))) (λ no. no) (cases_Bool (a == b))

becoming_none : (axis : ℕ) (axes items : List ℕ) → ((k : ℕ) → k < length axes → slice_index axes k ≢ axis) → items_onto axis axes items ≡ []
becoming_none axis [] items others = refl
becoming_none axis (a ∷ axes) [] others = refl
becoming_none axis (a ∷ axes) (x ∷ items) others =
    let no = apart a axis (others 0 (omega arith)) in
    rw no (becoming_none axis axes items (λ k inside. others (suc k) (omega arith)))

becoming_one : (axis : ℕ) (axes items : List ℕ) (i : ℕ) → length axes ≡ length items → i < length axes → slice_index axes i ≡ axis
    → ((k : ℕ) → k < length axes → k ≢ i → slice_index axes k ≢ axis) → items_onto axis axes items ≡ slice_index items i ∷ []
becoming_one axis [] items i long inside is others = absurd (omega arith)
becoming_one axis (a ∷ axes) [] i long inside is others = absurd (omega arith)
becoming_one axis (a ∷ axes) (x ∷ items) zero long inside is others =
    let here : (a == axis) ≡ true = eq-eqb a axis is in
    rw here (ap (λ rest. x ∷ rest) (becoming_none axis axes items (λ k below. others (suc k) (omega arith) (λ same. omega (arith, same)))))
becoming_one axis (a ∷ axes) (x ∷ items) (suc i) long inside is others =
    let no = apart a axis (others 0 (omega arith) (λ same. omega (arith, same))) in
    rw no (becoming_one axis axes items i (omega arith) (omega arith) is (λ k below other. others (suc k) (omega arith) (λ same. other (omega (arith, same)))))

becoming_downward : (n axis : ℕ) (items : List ℕ) → length items ≡ n → axis < n → items_onto axis (downward n) items ≡ slice_index items (from_end n axis) ∷ []
becoming_downward n axis items long below =
    let i = from_end n axis in
    let count = length-map-range_with_len (from_end n) 0 n in
    let inside : i < n = omega arith in
    let back : from_end n i ≡ axis = omega arith in
    becoming_one axis (downward n) items i (omega (arith, count, long)) (omega (arith, count, inside)) (at_downward n i inside ∙ back)
    (λ k within other same.
    let k_inside : k < n = omega (arith, count, within) in
    let ends : from_end n k ≡ axis = sym (at_downward n k k_inside) ∙ same in
    other (omega (arith, ends, k_inside)))

pub reversed_shape : (shape : List ℕ) (n : ℕ) → length shape ≡ n → transposed_shape n (downward n) shape ≡ reverse shape
reversed_shape shape n long =
    let shortest : ℕ → ℕ = λ axis. least (items_onto axis (downward n) shape) in
    ext_get_or 0 (map shortest (range_with_len 0 n)) (reverse shape) (length-map-range_with_len shortest 0 n ∙ sym (length-reverse shape ∙ long))
    (λ k inside.
    let below : k < n = omega (arith, inside, length-map-range_with_len shortest 0 n) in
    get_or-map-range_with_len shortest 0 n k k 0 below (omega arith) ∙ ap least (becoming_downward n k shape long below)
    ∙ sym (get_or-reverse shape k 0 (omega (arith, long, below)) ∙ ap (λ m. slice_index shape (m - 1 - k)) long))

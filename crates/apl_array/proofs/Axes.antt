-- The places along an axis: what replacing one index, inserting one and leaving one out does to a place.
use Rattle.std.proofs.Common.{◌≡◌, ℕ, zero, suc, ◌+◌, ◌*◌, ◌/◌, ◌%◌, ◌<◌, List, [], ◌∷◌, length, take, drop, slice_index, sym, ap, ◌∙◌, arith}
use Rattle.std.specs.Prelude.{insert, remove, slice_set}
use Rattle.std.proofs.Math.Nat.{mod-lt, mod-eq_of_lt, div-eq_of_lt, add-mul-div_right, div-div-eq-div-mul}
use Rattle.std.proofs.lemmas.Nat.{div-add-mod'}
use Rattle.std.proofs.Math.Arith.{mod-mul}
use Rattle.apl_array.specs.Shape.{IsIndexOf, count_of, place_of, index_at}
use Rattle.apl_array.proofs.Shapes.{pos_left, pos_right, IsIndexOf-cons, IsIndexOf-tail, IsIndexOf-index_at, place_of-index_at, place_of-index_at-mod, slice_index-index_at}

-- the count is that of the axes to the left, times the axis, times that of the axes to the right
pub count_of-split : (shape : List ℕ) (k : ℕ) → k < length shape
    → count_of shape ≡ count_of (take k shape) * slice_index shape k * count_of (drop (suc k) shape)
count_of-split [] k inside = absurd (omega arith)
count_of-split (n ∷ ns) zero inside = omega arith
count_of-split (n ∷ ns) (suc k) inside =
    let rest = count_of-split ns k (omega arith) in
    omega (arith, ap (λ c. n * c) rest)

pub count_of-remove : (shape : List ℕ) (k : ℕ) → k < length shape
    → count_of (remove shape k) ≡ count_of (take k shape) * count_of (drop (suc k) shape)
count_of-remove [] k inside = absurd (omega arith)
count_of-remove (n ∷ ns) zero inside = omega arith
count_of-remove (n ∷ ns) (suc k) inside =
    let rest = count_of-remove ns k (omega arith) in
    omega (arith, ap (λ c. n * c) rest)

-- ---- index lists in which one index is replaced, inserted or left out

pub IsIndexOf-slice_set : (shape index : List ℕ) (k i : ℕ) → IsIndexOf shape index → i < slice_index shape k → IsIndexOf shape (slice_set index k i)
IsIndexOf-slice_set [] [] k i lawful below = lawful
IsIndexOf-slice_set [] (j ∷ js) k i lawful below = absurd (omega (arith, lawful.len))
IsIndexOf-slice_set (n ∷ ns) [] k i lawful below = absurd (omega (arith, lawful.len))
IsIndexOf-slice_set (n ∷ ns) (j ∷ js) zero i lawful below = IsIndexOf-cons n i ns js below (IsIndexOf-tail n j ns js lawful)
IsIndexOf-slice_set (n ∷ ns) (j ∷ js) (suc k) i lawful below =
    IsIndexOf-cons n j ns (slice_set js k i) (lawful.below 0 (omega arith)) (IsIndexOf-slice_set ns js k i (IsIndexOf-tail n j ns js lawful) below)

pub IsIndexOf-insert : (shape index : List ℕ) (k i : ℕ) → k < length shape → IsIndexOf (remove shape k) index → i < slice_index shape k
    → IsIndexOf shape (insert index k i)
IsIndexOf-insert [] index k i inside lawful below = absurd (omega arith)
IsIndexOf-insert (n ∷ ns) index zero i inside lawful below = IsIndexOf-cons n i ns index below lawful
IsIndexOf-insert (n ∷ ns) [] (suc k) i inside lawful below = absurd (omega (arith, lawful.len))
IsIndexOf-insert (n ∷ ns) (j ∷ js) (suc k) i inside lawful below =
    IsIndexOf-cons n j ns (insert js k i) (lawful.below 0 (omega arith))
    (IsIndexOf-insert ns js k i (omega arith) (IsIndexOf-tail n j (remove ns k) js lawful) below)

pub IsIndexOf-remove : (shape index : List ℕ) (k : ℕ) → k < length shape → IsIndexOf shape index → IsIndexOf (remove shape k) (remove index k)
IsIndexOf-remove [] index k inside lawful = absurd (omega arith)
IsIndexOf-remove (n ∷ ns) [] k inside lawful = absurd (omega (arith, lawful.len))
IsIndexOf-remove (n ∷ ns) (j ∷ js) zero inside lawful = IsIndexOf-tail n j ns js lawful
IsIndexOf-remove (n ∷ ns) (j ∷ js) (suc k) inside lawful =
    IsIndexOf-cons n j (remove ns k) (remove js k) (lawful.below 0 (omega arith))
    (IsIndexOf-remove ns js k (omega arith) (IsIndexOf-tail n j ns js lawful))

-- ---- the places of such index lists

-- an index that is replaced moves the place by a step of the axis for each 1
pub place_of-slice_set-index : (shape index : List ℕ) (k i : ℕ) → k < length shape → length index ≡ length shape
    → place_of shape (slice_set index k i) + slice_index index k * count_of (drop (suc k) shape) ≡ place_of shape index + i * count_of (drop (suc k) shape)
place_of-slice_set-index [] index k i inside len = absurd (omega arith)
place_of-slice_set-index (n ∷ ns) [] k i inside len = absurd (omega (arith, len))
place_of-slice_set-index (n ∷ ns) (j ∷ js) zero i inside len = omega arith
place_of-slice_set-index (n ∷ ns) (j ∷ js) (suc k) i inside len =
    let rest = place_of-slice_set-index ns js k i (omega arith) (omega (arith, len)) in
    omega (arith, rest)

place_of-insert-mod : (shape : List ℕ) (k place i : ℕ) → k < length shape → 0 < count_of (remove shape k)
    → place_of shape (insert (index_at (remove shape k) place) k i)
    ≡ (place % count_of (remove shape k) / count_of (drop (suc k) shape) * slice_index shape k + i) * count_of (drop (suc k) shape)
    + place % count_of (drop (suc k) shape)
place_of-insert-mod [] k place i inside some = absurd (omega arith)
place_of-insert-mod (n ∷ ns) zero place i inside some =
    let c = count_of ns in
    let rest = place_of-index_at-mod ns place some in
    let below : place % c < c = mod-lt place some in
    let none : place % c / c ≡ 0 = div-eq_of_lt below in
    rw none (omega (arith, rest))
place_of-insert-mod (m ∷ ns) (suc j) place i inside some =
    let c = count_of (remove ns j) in
    let inner = count_of (drop (suc j) ns) in
    let q = count_of (take j ns) in
    let n = slice_index ns j in
    let h = place / c % m in
    let c_some : 0 < c = pos_right m c some in
    let rest = place_of-insert-mod ns j place i (omega arith) c_some in
    let c_is : c ≡ q * inner = count_of-remove ns j (omega arith) in
    let all_is : count_of ns ≡ q * n * inner = count_of-split ns j (omega arith) in
    let inner_some : 0 < inner = pos_right q inner (omega (arith, c_is, c_some)) in
    let wide : place % (m * c) ≡ place % c + h * q * inner = omega (arith, mod-mul place (pos_left m c some) c_some, ap (λ w. h * w) c_is) in
    let split : place % (m * c) / inner ≡ place % c / inner + h * q = ap (λ w. w / inner) wide ∙ add-mul-div_right (place % c) (h * q) inner_some in
    rw split (omega (arith, rest, ap (λ w. h * w) all_is))

-- item i of axis k, at the index list of a place of the shape without that axis
pub place_of-insert : (shape : List ℕ) (k place i : ℕ) → k < length shape → place < count_of (remove shape k)
    → place_of shape (insert (index_at (remove shape k) place) k i)
    ≡ (place / count_of (drop (suc k) shape) * slice_index shape k + i) * count_of (drop (suc k) shape) + place % count_of (drop (suc k) shape)
place_of-insert shape k place i inside below =
    let whole : place % count_of (remove shape k) ≡ place = mod-eq_of_lt below in
    rw whole at (place_of-insert-mod shape k place i inside (omega arith))

div_split : (place n inner : ℕ) → place ≡ (place / (n * inner) * n + place / inner % n) * inner + place % inner
div_split place n inner =
    let q = place / inner in
    let turned : n * inner ≡ inner * n = omega arith in
    let outer : place / (n * inner) ≡ q / n = ap (λ w. place / w) turned ∙ sym (div-div-eq-div-mul place inner n) in
    let both : q ≡ place / (n * inner) * n + q % n = sym (div-add-mod' q n) ∙ ap (λ o. o * n + q % n) (sym outer) in
    sym (div-add-mod' place inner) ∙ ap (λ w. w * inner + place % inner) both

replaced : (outer n inner i j rest place moved : ℕ) → moved + j * inner ≡ place + i * inner → place ≡ (outer * n + j) * inner + rest
    → moved ≡ (outer * n + i) * inner + rest
replaced outer n inner i j rest place moved h e = omega arith

-- index i of axis k in place of that at a place
pub place_of-slice_set : (shape : List ℕ) (k place i : ℕ) → k < length shape → place < count_of shape
    → place_of shape (slice_set (index_at shape place) k i)
    ≡ (place / (slice_index shape k * count_of (drop (suc k) shape)) * slice_index shape k + i) * count_of (drop (suc k) shape) + place % count_of (drop (suc k) shape)
place_of-slice_set shape k place i inside below =
    let n = slice_index shape k in
    let inner = count_of (drop (suc k) shape) in
    let lawful = IsIndexOf-index_at shape place (omega arith) in
    let moves = place_of-slice_set-index shape (index_at shape place) k i inside lawful.len in
    let moves' = rw (place_of-index_at shape place below, slice_index-index_at shape place k inside) at moves in
    replaced (place / (n * inner)) n inner i (place / inner % n) (place % inner) place (place_of shape (slice_set (index_at shape place) k i)) moves' (div_split place n inner)

-- The places of joined index lists, index lists in reverse order, the places of the parts of an index list on both sides of an axis, and of one whose axis has another length.
use Rattle.std.proofs.Common.{◌≡◌, ℕ, zero, suc, ◌+◌, ◌-◌, ◌*◌, ◌/◌, ◌%◌, ◌<◌, List, [], ◌∷◌, ◌++◌, length, reverse, take, drop, slice_index, refl, sym, ap, ◌∙◌, arith}
use Rattle.std.specs.Prelude.{slice_set}
use Rattle.std.proofs.lemmas.List.{get_or-reverse, length-reverse, reverse-append}
use Rattle.std.proofs.Math.Nat.{mod-lt, mod-eq_of_lt, div-eq_of_lt, add-mul-div_right, div-div-eq-div-mul}
use Rattle.std.proofs.lemmas.Nat.{div-add-mod'}
use Rattle.std.proofs.Math.Arith.{mod-mul}
use Rattle.apl_array.specs.Shape.{IsIndexOf, count_of, place_of, index_at}
use Rattle.apl_array.proofs.Shapes.{pos_left, pos_right, IsIndexOf-cons, IsIndexOf-tail, place_of-index_at-mod, index_at-shift, count_of-drop_pos}
use Rattle.apl_array.proofs.Axes.{count_of-split}

-- ---- joined index lists

pub count_of-append : (a b : List ℕ) → count_of (a ++ b) ≡ count_of a * count_of b
count_of-append [] b = omega arith
count_of-append (n ∷ ns) b = omega (arith, ap (λ c. n * c) (count_of-append ns b))

pub IsIndexOf-append : (a b i j : List ℕ) → IsIndexOf a i → IsIndexOf b j → IsIndexOf (a ++ b) (i ++ j)
IsIndexOf-append [] b [] j left right = right
IsIndexOf-append [] b (x ∷ xs) j left right = absurd (omega (arith, left.len))
IsIndexOf-append (n ∷ ns) b [] j left right = absurd (omega (arith, left.len))
IsIndexOf-append (n ∷ ns) b (x ∷ xs) j left right =
    IsIndexOf-cons n x (ns ++ b) (xs ++ j) (left.below 0 (omega arith)) (IsIndexOf-append ns b xs j (IsIndexOf-tail n x ns xs left) right)

pub IsIndexOf-front : (a b index : List ℕ) → IsIndexOf (a ++ b) index → IsIndexOf a (take (length a) index)
IsIndexOf-front [] b index lawful = record { len = refl; below = λ k inside. absurd (omega arith) }
IsIndexOf-front (n ∷ ns) b [] lawful = absurd (omega (arith, lawful.len))
IsIndexOf-front (n ∷ ns) b (x ∷ xs) lawful =
    IsIndexOf-cons n x ns (take (length ns) xs) (lawful.below 0 (omega arith)) (IsIndexOf-front ns b xs (IsIndexOf-tail n x (ns ++ b) xs lawful))

pub IsIndexOf-back : (a b index : List ℕ) → IsIndexOf (a ++ b) index → IsIndexOf b (drop (length a) index)
IsIndexOf-back [] b index lawful = lawful
IsIndexOf-back (n ∷ ns) b [] lawful = absurd (omega (arith, lawful.len))
IsIndexOf-back (n ∷ ns) b (x ∷ xs) lawful = IsIndexOf-back ns b xs (IsIndexOf-tail n x (ns ++ b) xs lawful)

pub place_of-append : (a b i j : List ℕ) → length i ≡ length a → place_of (a ++ b) (i ++ j) ≡ place_of a i * count_of b + place_of b j
place_of-append [] b [] j len = omega arith
place_of-append [] b (x ∷ xs) j len = absurd (omega (arith, len))
place_of-append (n ∷ ns) b [] j len = absurd (omega (arith, len))
place_of-append (n ∷ ns) b (x ∷ xs) j len =
    omega (arith, ap (λ c. x * c) (count_of-append ns b), place_of-append ns b xs j (omega (arith, len)))

index_at-append-whole : (a b : List ℕ) (place : ℕ) → index_at (a ++ b) place ≡ index_at a (place / count_of b) ++ index_at b place
index_at-append-whole [] b place = refl
index_at-append-whole (n ∷ ns) b place =
    let turned : count_of (ns ++ b) ≡ count_of b * count_of ns = omega (arith, count_of-append ns b) in
    let head : place / count_of (ns ++ b) % n ≡ place / count_of b / count_of ns % n =
    ap (λ c. place / c % n) turned ∙ ap (λ q. q % n) (sym (div-div-eq-div-mul place (count_of b) (count_of ns))) in
    ap (λ i. i ∷ index_at (ns ++ b) place) head
    ∙ ap (λ is. place / count_of b / count_of ns % n ∷ is) (index_at-append-whole ns b place)

-- an index list depends on the place's remainder alone
index_at-mod : (shape : List ℕ) (place : ℕ) → 0 < count_of shape → index_at shape place ≡ index_at shape (place % count_of shape)
index_at-mod shape place some =
    let c = count_of shape in
    let e : place ≡ place % c + place / c * c = omega (arith, div-add-mod' place c) in
    ap (index_at shape) e ∙ index_at-shift shape (place / c) (place % c) some

pub index_at-append : (a b : List ℕ) (place : ℕ) → place < count_of a * count_of b
    → index_at (a ++ b) place ≡ index_at a (place / count_of b) ++ index_at b (place % count_of b)
index_at-append a b place below =
    let some : 0 < count_of b = pos_right (count_of a) (count_of b) (omega arith) in
    index_at-append-whole a b place ∙ ap (λ is. index_at a (place / count_of b) ++ is) (index_at-mod b place some)

-- ---- index lists in reverse order

pub count_of-reverse : (shape : List ℕ) → count_of (reverse shape) ≡ count_of shape
count_of-reverse [] = refl
count_of-reverse (n ∷ ns) =
    let last : count_of (reverse (n ∷ ns)) ≡ count_of (reverse ns ++ (n ∷ [])) = ap count_of (reverse-append (n ∷ []) ns) in
    omega (arith, last, count_of-append (reverse ns) (n ∷ []), ap (λ c. c * n) (count_of-reverse ns))

pub IsIndexOf-reverse : (shape index : List ℕ) → IsIndexOf (reverse shape) index → IsIndexOf shape (reverse index)
IsIndexOf-reverse shape index lawful =
    let len : length index ≡ length shape = lawful.len ∙ length-reverse shape in
    record {
      len = length-reverse index ∙ len;
      below = λ k inside.
          let j = length shape - 1 - k in
          let here : k < length index = omega (arith, len) in
          let j_inside : j < length shape = omega arith in
          let there : j < length (reverse shape) = omega (arith, length-reverse shape) in
          let back : length shape - 1 - j ≡ k = omega arith in
          let left : slice_index (reverse index) k ≡ slice_index index j = get_or-reverse index k 0 here ∙ ap (λ n. slice_index index (n - 1 - k)) len in
          let right : slice_index (reverse shape) j ≡ slice_index shape k = get_or-reverse shape j 0 j_inside ∙ ap (slice_index shape) back in
          omega (arith, left, right, lawful.below j there);
    }

-- ---- the parts of an index list on both sides of an axis

pub place_of-split : (shape index : List ℕ) (k : ℕ) → k < length shape → length index ≡ length shape
    → place_of shape index
    ≡ (place_of (take k shape) (take k index) * slice_index shape k + slice_index index k) * count_of (drop (suc k) shape)
    + place_of (drop (suc k) shape) (drop (suc k) index)
place_of-split [] index k inside len = absurd (omega arith)
place_of-split (n ∷ ns) [] k inside len = absurd (omega (arith, len))
place_of-split (n ∷ ns) (j ∷ js) zero inside len = omega arith
place_of-split (n ∷ ns) (j ∷ js) (suc k) inside len =
    omega (arith, place_of-split ns js k (omega arith) (omega (arith, len)), ap (λ c. j * c) (count_of-split ns k (omega arith)))

count_of-drop : (shape : List ℕ) (k : ℕ) → k < length shape → count_of (drop k shape) ≡ slice_index shape k * count_of (drop (suc k) shape)
count_of-drop [] k inside = absurd (omega arith)
count_of-drop (n ∷ ns) zero inside = refl
count_of-drop (n ∷ ns) (suc k) inside = count_of-drop ns k (omega arith)

count_of-take-drop : (shape : List ℕ) (k : ℕ) → count_of shape ≡ count_of (take k shape) * count_of (drop k shape)
count_of-take-drop shape zero = omega arith
count_of-take-drop [] (suc k) = omega arith
count_of-take-drop (n ∷ ns) (suc k) = omega (arith, ap (λ c. n * c) (count_of-take-drop ns k))

take-index_at : (shape : List ℕ) (k place : ℕ) → take k (index_at shape place) ≡ index_at (take k shape) (place / count_of (drop k shape))
take-index_at shape zero place = refl
take-index_at [] (suc k) place = refl
take-index_at (n ∷ ns) (suc k) place =
    let inner = count_of (drop k ns) in
    let outer = count_of (take k ns) in
    let turned : count_of ns ≡ inner * outer = omega (arith, count_of-take-drop ns k) in
    let head : place / count_of ns % n ≡ place / inner / outer % n =
    ap (λ c. place / c % n) turned ∙ ap (λ q. q % n) (sym (div-div-eq-div-mul place inner outer)) in
    ap (λ i. i ∷ take k (index_at ns place)) head ∙ ap (λ is. place / inner / outer % n ∷ is) (take-index_at ns k place)

drop-index_at : (shape : List ℕ) (k place : ℕ) → drop k (index_at shape place) ≡ index_at (drop k shape) place
drop-index_at shape zero place = refl
drop-index_at [] (suc k) place = refl
drop-index_at (n ∷ ns) (suc k) place = drop-index_at ns k place

pub outer-index_at : (shape : List ℕ) (k place : ℕ) → k < length shape
    → take k (index_at shape place) ≡ index_at (take k shape) (place / (slice_index shape k * count_of (drop (suc k) shape)))
outer-index_at shape k place inside =
    take-index_at shape k place ∙ ap (λ c. index_at (take k shape) (place / c)) (count_of-drop shape k inside)

pub inner-index_at : (shape : List ℕ) (k place : ℕ) → place < count_of shape
    → drop (suc k) (index_at shape place) ≡ index_at (drop (suc k) shape) (place % count_of (drop (suc k) shape))
inner-index_at shape k place below =
    drop-index_at shape (suc k) place ∙ index_at-mod (drop (suc k) shape) place (count_of-drop_pos shape (suc k) (omega arith))

-- ---- an axis of another length

pub count_of-slice_set : (shape : List ℕ) (k m : ℕ) → k < length shape
    → count_of (slice_set shape k m) ≡ count_of (take k shape) * m * count_of (drop (suc k) shape)
count_of-slice_set [] k m inside = absurd (omega arith)
count_of-slice_set (n ∷ ns) zero m inside = omega arith
count_of-slice_set (n ∷ ns) (suc k) m inside = omega (arith, ap (λ c. n * c) (count_of-slice_set ns k m (omega arith)))

pub slice_index-changed : (shape : List ℕ) (k m place : ℕ) → k < length shape
    → slice_index (index_at (slice_set shape k m) place) k ≡ place / count_of (drop (suc k) shape) % m
slice_index-changed [] k m place inside = absurd (omega arith)
slice_index-changed (n ∷ ns) zero m place inside = refl
slice_index-changed (n ∷ ns) (suc k) m place inside = slice_index-changed ns k m place (omega arith)

pub IsIndexOf-changed : (shape index : List ℕ) (k m i : ℕ) → k < length shape → IsIndexOf (slice_set shape k m) index → i < slice_index shape k
    → IsIndexOf shape (slice_set index k i)
IsIndexOf-changed [] index k m i inside lawful below = absurd (omega arith)
IsIndexOf-changed (n ∷ ns) [] zero m i inside lawful below = absurd (omega (arith, lawful.len))
IsIndexOf-changed (n ∷ ns) [] (suc k) m i inside lawful below = absurd (omega (arith, lawful.len))
IsIndexOf-changed (n ∷ ns) (j ∷ js) zero m i inside lawful below = IsIndexOf-cons n i ns js below (IsIndexOf-tail m j ns js lawful)
IsIndexOf-changed (n ∷ ns) (j ∷ js) (suc k) m i inside lawful below =
    IsIndexOf-cons n j ns (slice_set js k i) (lawful.below 0 (omega arith))
    (IsIndexOf-changed ns js k m i (omega arith) (IsIndexOf-tail n j (slice_set ns k m) js lawful) below)

place_of-changed-mod : (shape : List ℕ) (k m place i : ℕ) → k < length shape → 0 < count_of (slice_set shape k m)
    → place_of shape (slice_set (index_at (slice_set shape k m) place) k i)
    ≡ (place % count_of (slice_set shape k m) / count_of (drop (suc k) shape) / m * slice_index shape k + i) * count_of (drop (suc k) shape)
    + place % count_of (drop (suc k) shape)
place_of-changed-mod [] k m place i inside some = absurd (omega arith)
place_of-changed-mod (n ∷ ns) zero m place i inside some =
    let c = count_of ns in
    let rest = place_of-index_at-mod ns place (pos_right m c some) in
    let below : place % (m * c) < c * m = omega (arith, mod-lt place some) in
    let none : place % (m * c) / c / m ≡ 0 = div-div-eq-div-mul (place % (m * c)) c m ∙ div-eq_of_lt below in
    rw none (omega (arith, rest))
place_of-changed-mod (h ∷ ns) (suc k) m place i inside some =
    let c = count_of (slice_set ns k m) in
    let inner = count_of (drop (suc k) ns) in
    let q = count_of (take k ns) in
    let n = slice_index ns k in
    let g = place / c % h in
    let c_some : 0 < c = pos_right h c some in
    let rest = place_of-changed-mod ns k m place i (omega arith) c_some in
    let c_is : c ≡ q * m * inner = count_of-slice_set ns k m (omega arith) in
    let all_is : count_of ns ≡ q * n * inner = count_of-split ns k (omega arith) in
    let outer_some : 0 < q * m = pos_left (q * m) inner (omega (arith, c_is, c_some)) in
    let inner_some : 0 < inner = pos_right (q * m) inner (omega (arith, c_is, c_some)) in
    let m_some : 0 < m = pos_right q m outer_some in
    let wide : place % (h * c) ≡ place % c + g * q * m * inner = omega (arith, mod-mul place (pos_left h c some) c_some, ap (λ w. g * w) c_is) in
    let split : place % (h * c) / inner / m ≡ place % c / inner / m + g * q =
    ap (λ w. w / inner / m) wide ∙ ap (λ w. w / m) (add-mul-div_right (place % c) (g * q * m) inner_some) ∙ add-mul-div_right (place % c / inner) (g * q) m_some in
    rw split (omega (arith, rest, ap (λ w. g * w) all_is))

pub place_of-changed : (shape : List ℕ) (k m place i : ℕ) → k < length shape → place < count_of (slice_set shape k m)
    → place_of shape (slice_set (index_at (slice_set shape k m) place) k i)
    ≡ (place / (m * count_of (drop (suc k) shape)) * slice_index shape k + i) * count_of (drop (suc k) shape) + place % count_of (drop (suc k) shape)
place_of-changed shape k m place i inside below =
    let inner = count_of (drop (suc k) shape) in
    let whole : place % count_of (slice_set shape k m) ≡ place = mod-eq_of_lt below in
    let turned : inner * m ≡ m * inner = omega arith in
    let outer : place / inner / m ≡ place / (m * inner) = div-div-eq-div-mul place inner m ∙ ap (λ c. place / c) turned in
    rw whole at (place_of-changed-mod shape k m place i inside (omega arith))
    ∙ ap (λ o. (o * slice_index shape k + i) * inner + place % inner) outer

-- The places of joined arrays.
use Rattle.std.proofs.Common.{◌≡◌, true, false, pos, ℕ, zero, suc, ◌+◌, ◌-◌, ◌*◌, ◌/◌, ◌%◌, ◌<◌, ◌≤◌, ◌==◌, inl, inr, List, [], ◌∷◌, length, map, drop, take, slice_index, refl, sym, ap, subst, ◌∙◌, arith}
use Rattle.std.specs.Prelude.{◌||◌, ◌&&◌, max, insert, remove, slice_set, slice_index_or, nat_le, nat_lt}
use Rattle.std.proofs.Math.Arith.{mod-mul}
use Rattle.std.proofs.Math.Nat.{mod-lt, mul-le-mul_right}
use Rattle.std.proofs.Math.ListN.{get_or-map}
use Rattle.std.proofs.lemmas.Bool.{cases_Bool, cases_lt, eqb-true, eqb-false, eq-eqb, lt-ltb, le-ltb}
use Rattle.std.proofs.lemmas.Bool.Decides.{nat_tests}
use Rattle.std.proofs.lemmas.List.{nil_from_length, set-get_or, length-set, drop-set-lt, get_or-set_same, get_or_default}
use Rattle.std.specs.Cmp.Lexicographic.{same_text}
use Rattle.std.proofs.lemmas.List.Edits.{length-insert, get_or-insert_at}
use Rattle.apl_array.specs.declared.array.Elem.{Elem}
use Rattle.apl_array.specs.declared.array.Elem.TheVariants.{Int}
use Rattle.apl_array.specs.Array.{ArrayValue, IsArray, element_at}
use Rattle.apl_array.specs.Shape.{IsIndexOf, count_of, place_of, index_at}
use Rattle.apl_answer.specs.Arguments.{rank_of, is_scalar, is_same_shape, fill_of}
use Rattle.apl_walk.specs.Seams.{joined_value}
use Rattle.apl_struct.specs.Joined.{joined_at}
use Rattle.apl_struct.specs.Joining.{joined_rank, can_join, joined_kind, slices_shape, slices_source, catenated_element}
use Rattle.apl_struct.proofs.Elements.{axis_facts}

-- ---- values of one type as elements

pub joined_of_map : {X Y : Type 0} (f : X → Y) (xs ys : List X) (x y : X) (left right line i : ℕ)
    → joined_value (map f xs) (map f ys) (f x) (f y) left right line i ≡ f (joined_value xs ys x y left right line i)
joined_of_map f xs ys x y left right line i =
    elim (cases_Bool (nat_lt i left)) [
      | inl first ↦ rw first (get_or-map f xs (line * left + i) x)
      | inr later ↦ rw later (get_or-map f ys (line * right + (i - left)) y)
    ]

-- ---- the axes that an argument is taken for

-- where one rank is lower by two or more, the other has all axes
other_has_all : (own other rank : ℕ) → rank ≡ max 1 (max own other) → (own ≡ rank → ⊥) → (own + 1 ≡ rank → ⊥) → other ≡ rank
other_has_all own other rank is not_all not_one = grind (arith, nat_tests)

pub slices_length : (own other : ArrayValue) (rank k : ℕ) → rank ≡ joined_rank own other → k < rank → length (slices_shape rank k own other) ≡ rank
slices_length own other rank k is axis =
    elim (cases_Bool (rank_of own == rank)) [
      | inl all ↦ rw all (eqb-true (rank_of own) rank all)
      | inr not_all ↦
          elim (cases_Bool (rank_of own + 1 == rank)) [
            | inl one ↦
                let count : rank_of own + 1 ≡ rank = eqb-true (rank_of own + 1) rank one in
                rw (not_all, one) (length-insert own.shape k 1 (omega arith) ∙ count)
            | inr not_one ↦
                rw (not_all, not_one)
                (length-set other.shape k 1
                ∙ other_has_all (rank_of own) (rank_of other) rank is (eqb-false (rank_of own) rank not_all) (eqb-false (rank_of own + 1) rank not_one))
          ]
    ]

-- ---- an axis of length 1

count_with : (xs : List ℕ) (k : ℕ) → k ≤ length xs → count_of (insert xs k 1) ≡ count_of xs
count_with xs zero inside = omega arith
count_with [] (suc k) inside = absurd (omega arith)
count_with (x ∷ xs) (suc k) inside = ap (λ c. x * c) (count_with xs k (omega arith))

place_without : (xs index : List ℕ) (k : ℕ) → k ≤ length xs → length index ≡ length xs + 1 → slice_index index k ≡ 0
    → place_of xs (remove index k) ≡ place_of (insert xs k 1) index
place_without xs [] k inside len first = absurd (omega (arith, len))
place_without xs (i ∷ is) zero inside len first = rw first (omega arith)
place_without [] (i ∷ is) (suc k) inside len first = absurd (omega arith)
place_without (x ∷ xs) (i ∷ is) (suc k) inside len first =
    omega (arith, place_without xs is k (omega arith) (omega (arith, len)) first, ap (λ c. i * c) (count_with xs k (omega arith)))

-- ---- the element of a slice

only_value : {T : Type 0} (xs : List T) (fill d : T) (place : ℕ) → length xs ≡ 1 → slice_index_or xs place (slice_index_or xs 0 fill) ≡ slice_index_or xs 0 d
only_value [] fill d place one = absurd (omega arith)
only_value (x ∷ []) fill d zero one = refl
only_value (x ∷ []) fill d (suc place) one = refl
only_value (x ∷ y ∷ xs) fill d place one = absurd (omega arith)

element_there : (own : ArrayValue) (source : List ℕ) (place : ℕ) (past : Elem) → IsArray own → place_of own.shape source < count_of own.shape → place ≡ place_of own.shape source
    → slice_index_or own.ravel place past ≡ element_at own source
element_there own source place past array within there =
    ap (λ p. slice_index_or own.ravel p past) there ∙ get_or_default own.ravel (place_of own.shape source) past (Int (pos 0)) (omega (arith, array.len, within))

-- an argument that is no scalar and has not all axes has one less
one_less : (own other rank : ℕ) → rank ≡ max 1 (max own other) → ((own == 0) || ((other == 0) || (nat_le own (other + 1) && nat_le other (own + 1)))) ≡ true
    → (own == 0) ≡ false → (own == rank) ≡ false → own + 1 ≡ rank
one_less own other rank is joins some not_all = grind (arith, nat_tests)

module _ (below : (shape index : List ℕ) → IsIndexOf shape index → place_of shape index < count_of shape) where
  pub slices_element : (own other : ArrayValue) (rank k : ℕ) (index : List ℕ) (place : ℕ) (fill : Elem) → IsArray own → rank ≡ joined_rank own other → can_join own other ≡ true → k < rank
      → IsIndexOf (slices_shape rank k own other) index → place ≡ place_of (slices_shape rank k own other) index
      → slice_index_or own.ravel place (slice_index_or own.ravel 0 fill) ≡ element_at own (slices_source rank k own index)
  slices_element own other rank k index place fill array is joins axis lawful there =
      elim (cases_Bool (is_scalar own)) [
        | inl scalar ↦
            let none : own.shape ≡ [] = nil_from_length own.shape (eqb-true (rank_of own) 0 scalar) in
            let one : length own.ravel ≡ 1 = array.len ∙ ap count_of none in
            let first : place_of own.shape [] ≡ 0 = ap (λ s. place_of s []) none in
            rw (scalar, first) (only_value own.ravel fill (Int (pos 0)) place one)
        | inr some ↦
            elim (cases_Bool (rank_of own == rank)) [
              | inl all ↦
                  let here : IsIndexOf own.shape index = rw all at lawful in
                  let same : place ≡ place_of own.shape index = rw all at there in
                  rw (some, all) (element_there own index place (slice_index_or own.ravel 0 fill) array (below own.shape index here) same)
              | inr not_all ↦
                  let less : rank_of own + 1 ≡ rank = one_less (rank_of own) (rank_of other) rank is joins some not_all in
                  let one : (rank_of own + 1 == rank) ≡ true = eq-eqb (rank_of own + 1) rank less in
                  let wide = insert own.shape k 1 in
                  let inside : k ≤ length own.shape = omega arith in
                  let longer : length wide ≡ length own.shape + 1 = length-insert own.shape k 1 inside in
                  let here : IsIndexOf wide index = rw (not_all, one) at lawful in
                  let same : place ≡ place_of wide index = rw (not_all, one) at there in
                  let first : slice_index index k ≡ 0 = omega (arith, here.below k (omega (arith, longer)), get_or-insert_at own.shape k 1 0 inside) in
                  let moved : place_of own.shape (remove index k) ≡ place_of wide index = place_without own.shape index k inside (here.len ∙ longer) first in
                  let within : place_of own.shape (remove index k) < count_of own.shape = omega (arith, moved, below wide index here, count_with own.shape k inside) in
                  rw (some, not_all) (element_there own (remove index k) place (slice_index_or own.ravel 0 fill) array within (same ∙ sym moved))
            ]
      ]

-- ---- the blocks of a joined array

pub set_by_insert : (xs : List ℕ) (k n : ℕ) → k < length xs → slice_set xs k n ≡ insert (remove xs k) k n
set_by_insert [] k n inside = absurd (omega arith)
set_by_insert (x ∷ xs) zero n inside = refl
set_by_insert (x ∷ xs) (suc k) n inside = ap (λ l. x ∷ l) (set_by_insert xs k n (omega arith))

-- shapes that agree but for an axis
pub same_but_for : (xs ys : List ℕ) (k n : ℕ) → k < length xs → k < length ys → remove xs k ≡ remove ys k → slice_set xs k n ≡ slice_set ys k n
same_but_for xs ys k n inside inside' same = set_by_insert xs k n inside ∙ ap (λ l. insert l k n) same ∙ sym (set_by_insert ys k n inside')

ranks_turned : (a b rank : ℕ) → rank ≡ max 1 (max a b) → rank ≡ max 1 (max b a)
ranks_turned a b rank is = grind (arith, nat_tests)

joins_turned : (a b : ℕ) → ((a == 0) || ((b == 0) || (nat_le a (b + 1) && nat_le b (a + 1)))) ≡ true
    → ((b == 0) || ((a == 0) || (nat_le b (a + 1) && nat_le a (b + 1)))) ≡ true
joins_turned a b joins = grind (arith, nat_tests)

below_left : (i n inner x : ℕ) → i < n → x < inner → i * inner + x < n * inner
below_left i n inner x first within = omega (arith, mul-le-mul_right {m = i + 1} {n = n} inner (omega arith))

above_left : (i n inner x : ℕ) → n ≤ i → n * inner ≤ i * inner + x
above_left i n inner x later = omega (arith, mul-le-mul_right {m = n} {n = i} inner later)

distributed : (a b inner : ℕ) → (a + b) * inner ≡ a * inner + b * inner
distributed a b inner = omega arith

-- the place in the right argument
right_place : (q n m i inner x : ℕ) → n ≤ i → q * (m * inner) + ((i * inner + x) - n * inner) ≡ (q * m + (i - n)) * inner + x
right_place q n m i inner x later =
    let split : i * inner ≡ (i - n) * inner + n * inner = ap (λ j. j * inner) (omega arith) ∙ distributed (i - n) n inner in
    omega (arith, split)

module _ (below : (shape index : List ℕ) → IsIndexOf shape index → place_of shape index < count_of shape)
    (lawful : (shape : List ℕ) (place : ℕ) → place < count_of shape → IsIndexOf shape (index_at shape place))
    (counted : (shape : List ℕ) (k m : ℕ) → k < length shape → count_of (slice_set shape k m) ≡ count_of (take k shape) * m * count_of (drop (k + 1) shape))
    (at_axis : (shape : List ℕ) (k m place : ℕ) → k < length shape → slice_index (index_at (slice_set shape k m) place) k ≡ place / count_of (drop (k + 1) shape) % m)
    (changed : (shape index : List ℕ) (k m i : ℕ) → k < length shape → IsIndexOf (slice_set shape k m) index → i < slice_index shape k → IsIndexOf shape (slice_set index k i))
    (placed : (shape : List ℕ) (k m place i : ℕ) → k < length shape → place < count_of (slice_set shape k m)
    → place_of shape (slice_set (index_at (slice_set shape k m) place) k i)
    ≡ (place / (m * count_of (drop (k + 1) shape)) * slice_index shape k + i) * count_of (drop (k + 1) shape) + place % count_of (drop (k + 1) shape)) where
  -- the element that a place of the joined array takes is that of its index list
  pub joined_element : (a b : ArrayValue) (rank k place : ℕ) → IsArray a → IsArray b → rank ≡ joined_rank a b → can_join a b ≡ true → k < rank
      → is_same_shape (remove (slices_shape rank k a b) k) (remove (slices_shape rank k b a) k) ≡ true
      → let left = slices_shape rank k a b in let n = slice_index left k in let m = slice_index (slices_shape rank k b a) k in let all = n + m in let inner = count_of (drop (k + 1) left) in
      place < count_of (slice_set left k all) → joined_at a b (n * inner) (m * inner) place ≡ catenated_element rank k n a b (index_at (slice_set left k all) place)
  joined_element a b rank k place array_a array_b is joins axis others inside =
      let left = slices_shape rank k a b in
      let right = slices_shape rank k b a in
      let n = slice_index left k in
      let m = slice_index right k in
      let all = n + m in
      let inner = count_of (drop (k + 1) left) in
      let shape = slice_set left k all in
      let index = index_at shape place in
      let i = slice_index index k in
      let q = place / (all * inner) in
      let x = place % inner in
      let fill = fill_of (joined_kind a b) in
      let turned : rank ≡ joined_rank b a = ranks_turned (rank_of a) (rank_of b) rank is in
      let axis_left : k < length left = omega (arith, slices_length a b rank k is axis) in
      let axis_right : k < length right = omega (arith, slices_length b a rank k turned axis) in
      let shapes : shape ≡ slice_set right k all = same_but_for left right k all axis_left axis_right (same_text (remove left k) (remove right k) (sym others)) in
      let inners : count_of (drop (k + 1) right) ≡ inner =
      ap count_of (sym (drop-set-lt (k + 1) right k all (omega arith)) ∙ ap (drop (k + 1)) (sym shapes) ∙ drop-set-lt (k + 1) left k all (omega arith)) in
      let some = axis_facts (count_of (take k left)) all inner (count_of shape) (counted left k all axis_left) (omega (arith, inside)) in
      let i_is : i ≡ place / inner % all = at_axis left k all place axis_left in
      let rest : place % (all * inner) ≡ i * inner + x = mod-mul place some.length_some some.inner_some ∙ ap (λ j. j * inner + x) (sym i_is) in
      let x_below : x < inner = mod-lt place some.inner_some in
      let is_index : IsIndexOf shape index = lawful shape place inside in
      let past_a = slice_index_or a.ravel 0 fill in
      let past_b = slice_index_or b.ravel 0 fill in
      let whole = ap (λ w. joined_value a.ravel b.ravel past_a past_b (n * inner) (m * inner) (place / w) (place % w)) (sym (distributed n m inner)) in
      elim (cases_lt i n) [
        | inl first ↦
            let same : slice_set index k i ≡ index = set-get_or index k 0 in
            let here : IsIndexOf left index = subst (λ l. IsIndexOf left l) same (changed left index k all i axis_left is_index first) in
            let taken = q * (n * inner) + place % (all * inner) in
            let there : taken ≡ place_of left index =
            ap (λ r. q * (n * inner) + r) rest ∙ omega arith ∙ sym (placed left k all place i axis_left inside) ∙ ap (place_of left) same in
            let early : place % (all * inner) < n * inner = rw rest (below_left i n inner x first x_below) in
            let part : joined_value a.ravel b.ravel past_a past_b (n * inner) (m * inner) q (place % (all * inner)) ≡ slice_index_or a.ravel taken past_a =
            rw (lt-ltb (place % (all * inner)) (n * inner) early) refl in
            rw (lt-ltb i n first) (whole ∙ part ∙ slices_element below a b rank k index taken fill array_a is joins axis here there)
        | inr later ↦
            let j = i - n in
            let moved = slice_set index k j in
            let index_right : IsIndexOf (slice_set right k all) index = subst (λ s. IsIndexOf s index) shapes is_index in
            let within : j < m = omega (arith, is_index.below k (omega (arith, length-set left k all)), get_or-set_same left k all 0 axis_left) in
            let here : IsIndexOf right moved = changed right index k all j axis_right index_right within in
            let inside_right : place < count_of (slice_set right k all) = rw shapes at inside in
            let taken = q * (m * inner) + (place % (all * inner) - n * inner) in
            let there : taken ≡ place_of right moved =
            ap (λ r. q * (m * inner) + (r - n * inner)) rest ∙ right_place q n m i inner x later
            ∙ ap (λ w. (place / (all * w) * m + j) * w + place % w) (sym inners)
            ∙ sym (placed right k all place j axis_right inside_right) ∙ ap (λ s. place_of right (slice_set (index_at s place) k j)) (sym shapes) in
            let late : n * inner ≤ place % (all * inner) = rw rest (above_left i n inner x later) in
            let part : joined_value a.ravel b.ravel past_a past_b (n * inner) (m * inner) q (place % (all * inner)) ≡ slice_index_or b.ravel taken past_b =
            rw (le-ltb (place % (all * inner)) (n * inner) late) refl in
            rw (le-ltb i n later) (whole ∙ part ∙ slices_element below b a rank k moved taken fill array_b turned (joins_turned (rank_of a) (rank_of b) joins) axis here there)
      ]

-- the axis of the joined shape
pub joined_axis : (a b : ArrayValue) (k left right : ℕ) (shape : List ℕ) → k < joined_rank a b → shape ≡ slice_set (slices_shape (joined_rank a b) k a b) k (left + right)
    → (k < length shape) × (left + right ≡ slice_index shape k)
joined_axis a b k left right shape axis is =
    let own = slices_shape (joined_rank a b) k a b in
    let axis_own : k < length own = omega (arith, slices_length a b (joined_rank a b) k refl axis) in
    let long : length shape ≡ length own = ap length is ∙ length-set own k (left + right) in
    let at_k : slice_index shape k ≡ left + right = ap (λ s. slice_index s k) is ∙ get_or-set_same own k (left + right) 0 axis_own in
    (omega arith, sym at_k)

-- the parts of a line on an axis that has elements
pub parts_of_line : (left right n inner : ℕ) → left + right ≡ n → left * inner + right * inner ≡ n * inner
parts_of_line left right n inner whole = sym (distributed left right inner) ∙ ap (λ w. w * inner) whole

-- the elements of two arguments of one type
pub joined_elements : {T : Type 0} (f : T → Elem) (a b : ArrayValue) (xs ys : List T) (x y fill : T) (left right place : ℕ) → f fill ≡ fill_of (joined_kind a b)
    → a.ravel ≡ map f xs → b.ravel ≡ map f ys → x ≡ slice_index_or xs 0 fill → y ≡ slice_index_or ys 0 fill
    → joined_at a b left right place ≡ f (joined_value xs ys x y left right (place / (left + right)) (place % (left + right)))
joined_elements f a b xs ys x y fill left right place fill_is ravel_a ravel_b x_is y_is =
    rw (ravel_a, ravel_b, ← fill_is, get_or-map f xs 0 fill, get_or-map f ys 0 fill, ← x_is, ← y_is)
    (joined_of_map f xs ys x y left right (place / (left + right)) (place % (left + right)))

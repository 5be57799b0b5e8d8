-- Rotated indexes, and the lines along an axis with their numbers.
use Rattle.std.proofs.Common.{◌≡◌, ℕ, zero, suc, ◌+◌, ◌*◌, ◌/◌, ◌%◌, ◌<◌, List, [], ◌∷◌, length, drop, slice_index, refl, sym, ap, ◌∙◌, arith, ℤ, pos, negsuc, ◌-◌, ◌+ℤ◌, true, false, ⊎_elim, map, slice_index_or}
use Rattle.std.specs.Prelude.{insert, remove, ◌≤◌, nat_lt, nat_abs, unsigned_abs}
use Rattle.std.proofs.Math.Nat.{mod-lt, div-div-eq-div-mul, div-lt_iff_lt-mul, mul-le-mul_right, div-one, mod-one, mod-eq_of_lt, mod-eq-sub-mod, add-mod-mod, mod-add-div'}
use Rattle.std.proofs.lemmas.List.Edits.{length-remove}
use Rattle.std.proofs.lemmas.Nat.{div-add-mod', div-mul-add, mod-mul-add}
use Rattle.apl_array.specs.Shape.{IsIndexOf, count_of, place_of, index_at}
use Rattle.apl_struct.specs.Along.{line_index, line_number}
use Rattle.apl_struct.proofs.Taken.{pos_left, pos_right}
use Rattle.std.specs.Int.{int_rem_euclid}
use Rattle.std.proofs.Math.ListN.{get_or-map}
use Rattle.std.proofs.lemmas.Bool.{cases_lt}
use Rattle.std.proofs.lemmas.Int.{ints, int_rem_euclid_is}
use Rattle.apl_array.specs.Axes.{place_number}
use Rattle.apl_struct.specs.Rearranging.{rotated_index, rotation_at}
use Rattle.apl_struct.specs.Rotation.{rotation_of, turned_place}
use Rattle.apl_walk.specs.Steps.{wrapped, rotated_place}
use Rattle.apl_array.specs.declared.array.Elem.{Elem}
use Rattle.apl_array.specs.declared.array.Elem.TheVariants.{Int}
use Rattle.apl_array.specs.Array.{ArrayValue}
use Rattle.apl_answer.specs.Arguments.{number_of, numbers_of, has_one_element}

-- ---- the lines along an axis are numbered by the index lists of the other axes

remove-insert : (xs : List ℕ) (k i : ℕ) → k ≤ length xs → remove (insert xs k i) k ≡ xs
remove-insert xs zero i inside = refl
remove-insert [] (suc k) i inside = absurd (omega (arith, inside))
remove-insert (x ∷ xs) (suc k) i inside = ap (λ ys. x ∷ ys) (remove-insert xs k i (omega (arith, inside)))

-- a place is that of its line, of its index along it, and of what is left
module _ (m inner place : ℕ) (m_some : 0 < m) (inner_some : 0 < inner) where
  pub line_outer : line_number m inner place / inner ≡ place / (m * inner)
  line_outer = div-mul-add (place / (m * inner)) inner (place % inner) (mod-lt place inner_some)

  pub line_inner : line_number m inner place % inner ≡ place % inner
  line_inner = mod-mul-add (place / (m * inner)) inner (place % inner) (mod-lt place inner_some)

  pub line_parts : (place / (m * inner) * m + line_index m inner place) * inner + place % inner ≡ place
  line_parts =
      let turned : inner * m ≡ m * inner = omega arith in
      let split : place / inner / m ≡ place / (m * inner) = div-div-eq-div-mul place inner m ∙ ap (λ d. place / d) turned in
      ap (λ x. (x * m + place / inner % m) * inner + place % inner) (sym split)
      ∙ ap (λ x. x * inner + place % inner) (div-add-mod' (place / inner) m) ∙ div-add-mod' place inner

module _ (below : (shape index : List ℕ) → IsIndexOf shape index → place_of shape index < count_of shape)
    (lawful : (shape : List ℕ) (place : ℕ) → place < count_of shape → IsIndexOf shape (index_at shape place))
    (same_index : (shape index : List ℕ) → IsIndexOf shape index → index_at shape (place_of shape index) ≡ index)
    (same_place : (shape : List ℕ) (place : ℕ) → place < count_of shape → place_of shape (index_at shape place) ≡ place)
    (inserted : (shape index : List ℕ) (k i : ℕ) → k < length shape → IsIndexOf (remove shape k) index → i < slice_index shape k → IsIndexOf shape (insert index k i))
    (placed : (shape : List ℕ) (k place i : ℕ) → k < length shape → place < count_of (remove shape k)
    → place_of shape (insert (index_at (remove shape k) place) k i)
    ≡ (place / count_of (drop (k + 1) shape) * slice_index shape k + i) * count_of (drop (k + 1) shape) + place % count_of (drop (k + 1) shape)) where
  -- the line of a place is the place of its index list without the axis
  pub line_is : (shape : List ℕ) (k place q : ℕ) → k < length shape → place < count_of shape
      → count_of shape ≡ q * slice_index shape k * count_of (drop (k + 1) shape) → count_of (remove shape k) ≡ q * count_of (drop (k + 1) shape)
      → line_number (slice_index shape k) (count_of (drop (k + 1) shape)) place ≡ place_of (remove shape k) (remove (index_at shape place) k)
  line_is shape k place q axis inside all others =
      let m = slice_index shape k in
      let inner = count_of (drop (k + 1) shape) in
      let p = line_number m inner place in
      let outer = place / (m * inner) in
      let some : 0 < q * m * inner = omega (arith, inside, all) in
      let inner_some : 0 < inner = pos_right (q * m) inner some in
      let m_some : 0 < m = pos_right q m (pos_left (q * m) inner some) in
      let block_some : 0 < m * inner = pos_right q (m * inner) (omega (arith, some)) in
      let whole : place < q * (m * inner) = omega (arith, inside, all) in
      let outer_below : outer < q = (div-lt_iff_lt-mul block_some).1 whole in
      let p_below : p < count_of (remove shape k) = omega (arith, others, mod-lt place inner_some, mul-le-mul_right inner outer_below) in
      let i = line_index m inner place in
      let i_below : i < m = mod-lt (place / inner) m_some in
      let base = index_at (remove shape k) p in
      let base_lawful = lawful (remove shape k) p p_below in
      let index = insert base k i in
      let at_place : place_of shape index ≡ place =
      rw (placed shape k p i axis p_below, line_outer m inner place m_some inner_some, line_inner m inner place m_some inner_some) (line_parts m inner place m_some inner_some) in
      let is : index_at shape place ≡ index = ap (index_at shape) (sym at_place) ∙ same_index shape index (inserted shape base k i axis base_lawful i_below) in
      let long : k ≤ length base = omega (arith, base_lawful.len, length-remove shape k axis, axis) in
      let back : remove (index_at shape place) k ≡ base = ap (λ x. remove x k) is ∙ remove-insert base k i long in
      sym (ap (place_of (remove shape k)) back ∙ same_place (remove shape k) p p_below)

-- ---- a rotated index as a sum that is counted round

pub wrapped_is : (n j : ℕ) → 0 < n → j < n + n → j % n ≡ wrapped n j
wrapped_is n j some below =
    ⊎_elim
    (λ less. let yes : nat_lt j n ≡ true = grind (arith, less) in rw yes (mod-eq_of_lt less))
    (λ more.
    let no : nat_lt j n ≡ false = grind (arith, more) in
    let past : j - n < n = omega (arith, more, below) in
    rw no (mod-eq-sub-mod more ∙ mod-eq_of_lt past))
    (cases_lt j n)

by_number : (z : ℤ) (n i by : ℕ) → 0 < n → int_rem_euclid z (pos n) ≡ pos by → rotated_index z n i ≡ (i + by) % n
by_number (pos a) n i by some is =
    let by_is : a % n ≡ by = ap unsigned_abs is in
    sym (add-mod-mod i a n) ∙ ap (λ b. (i + b) % n) by_is
by_number (negsuc a) n i by some is =
    let by_is : n - 1 - a % n ≡ by = ap unsigned_abs is in
    let below = mod-lt a some in
    let parts = mod-add-div' a n in
    let sum : (pos i +ℤ negsuc a) +ℤ pos ((a / n + 1) * n) ≡ pos (i + by) = omega (arith, ints, by_is, below, parts) in
    ap place_number (int_rem_euclid_is (pos i +ℤ negsuc a) (pos n) n (a / n + 1) (i + by) some refl sum)

-- the remainder is one by the number that it is
remainder_below : (z : ℤ) (n : ℕ) → 0 < n → (int_rem_euclid z (pos n) ≡ pos (nat_abs (int_rem_euclid z (pos n)))) × (nat_abs (int_rem_euclid z (pos n)) < n)
remainder_below (pos a) n some = (refl, mod-lt a some)
remainder_below (negsuc a) n some = (refl, omega (arith, some))

pub rotated_wrapped : (z r : ℤ) (n i : ℕ) → 0 < n → r ≡ int_rem_euclid z (pos n) → i < n → rotated_index z n i ≡ wrapped n (i + nat_abs r)
rotated_wrapped z r n i some is inside =
    let by = nat_abs r in
    let below : nat_abs r < n = rw is (remainder_below z n some).1 in
    by_number z n i by some (rw is (remainder_below z n some).0) ∙ wrapped_is n (i + by) some (omega (arith, below, inside))

pub wrapped_below : (n i by : ℕ) → i < n → by ≤ n → wrapped n (i + by) < n
wrapped_below n i by inside most =
    let some : 0 < n = omega (arith, inside) in
    rw (sym (wrapped_is n (i + by) some (omega (arith, inside, most)))) (mod-lt (i + by) some)

pub rotated_by : (z : ℤ) (n i : ℕ) → i < n → rotated_index z n i ≡ wrapped n (i + rotation_of n z)
rotated_by z zero i inside = absurd (omega (arith, inside))
rotated_by z (suc m) i inside = rotated_wrapped z (int_rem_euclid z (pos (suc m))) (suc m) i (omega arith) refl inside

rotation_most : (n : ℕ) (z : ℤ) → rotation_of n z ≤ n
rotation_most zero z = omega arith
rotation_most (suc m) z = omega (arith, (remainder_below z (suc m) (omega arith)).1)

rotation_of_none : (n : ℕ) → rotation_of n (pos 0) ≡ 0
rotation_of_none zero = refl
rotation_of_none (suc m) = mod-eq_of_lt (omega arith)

-- the rotation of a line, of which there may be none
pub rotation_at_line : (n : ℕ) (rotations : List ℤ) (line : ℕ) → slice_index (map (rotation_of n) rotations) line ≡ rotation_of n (slice_index_or rotations line (pos 0))
rotation_at_line n rotations line = ap (slice_index_or (map (rotation_of n) rotations) line) (sym (rotation_of_none n)) ∙ get_or-map (rotation_of n) rotations line (pos 0)

pub rotation_at_line_most : (n : ℕ) (rotations : List ℤ) (line : ℕ) → slice_index (map (rotation_of n) rotations) line ≤ n
rotation_at_line_most n rotations line = rw (rotation_at_line n rotations line) (rotation_most n (slice_index_or rotations line (pos 0)))

-- the places that rotated rows and columns take
pub turned_row : (n inner : ℕ) (by : List ℕ) (place : ℕ) → inner ≡ 1 → rotated_place n by (place / n) (place / n) (place % n) ≡ turned_place n inner by place
turned_row n inner by place only =
    let row : rotated_place n by (place / n) (place / n) (place % n) ≡ place / n * n + wrapped n (place % n + slice_index by (place / n)) = refl in
    let whole : place / 1 ≡ place = div-one place in
    let left : place % 1 ≡ 0 = mod-one place in
    let wide : n * 1 ≡ n = omega arith in
    let line : place / n * 1 + 0 ≡ place / n = omega arith in
    rw (only, whole, left, wide, line) (omega arith)

pub turned_column : (n inner : ℕ) (by : List ℕ) (place : ℕ)
    → rotated_place n by (place / inner / n) (place / inner / n * inner + place % inner) (place / inner % n) * inner + place % inner ≡ turned_place n inner by place
turned_column n inner by place =
    let turned : inner * n ≡ n * inner = omega arith in
    let split : place / inner / n ≡ place / (n * inner) = div-div-eq-div-mul place inner n ∙ ap (λ d. place / d) turned in
    rw split (omega arith)

-- ---- the rotation of a line as a number of the list of rotations

pub number_in : (elements : List Elem) (place : ℕ) → number_of (slice_index_or elements place (Int (pos 0))) ≡ slice_index_or (map number_of elements) place (pos 0)
number_in elements place = sym (get_or-map number_of elements place (Int (pos 0)))

pub rotation_of_all : (a : ArrayValue) (numbers : List ℤ) (k : ℕ) (index : List ℕ) → numbers_of a ≡ numbers → has_one_element a.shape ≡ true
    → rotation_at a k index ≡ slice_index_or numbers 0 (pos 0)
rotation_of_all a numbers k index are one = rw one (number_in a.ravel 0 ∙ ap (λ ns. slice_index_or ns 0 (pos 0)) are)

pub rotation_of_line : (a : ArrayValue) (numbers : List ℤ) (others : List ℕ) (k : ℕ) (index : List ℕ) → numbers_of a ≡ numbers → has_one_element a.shape ≡ false → a.shape ≡ others
    → rotation_at a k index ≡ slice_index_or numbers (place_of others (remove index k)) (pos 0)
rotation_of_line a numbers others k index are one same = rw (one, number_in a.ravel (place_of a.shape (remove index k)), are, same) refl

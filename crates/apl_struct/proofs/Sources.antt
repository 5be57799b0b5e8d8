-- The index list that the slots choose, axis by axis.
use Rattle.std.proofs.Common.{◌≡◌, ℕ, ℤ, pos, negsuc, suc, ◌+◌, ◌-◌, ◌*◌, ◌/◌, ◌%◌, ◌<◌, ◌≤◌, true, List, [], ◌∷◌, ◌++◌, length, take, drop, Option, Some, None, slice_index, slice_index_or, refl, ap, sym, ◌∙◌, arith}
use Rattle.std.proofs.Math.Nat.{div-div-eq-div-mul, mod-one, mod-lt, add_comm}
use Rattle.std.proofs.Math.Arith.{mod-mul}
use Rattle.std.proofs.Math.Seq.{take-append_seam, drop-append_seam}
use Rattle.std.proofs.Math.ListN.{get_or-map}
use Rattle.std.proofs.lemmas.Bool.{and_parts, ltb-true}
use Rattle.std.proofs.lemmas.List.{length-map, take_rest}
use Rattle.std.proofs.lemmas.List.Sums.{AllPass-from_list_all}
use Rattle.apl_array.specs.declared.array.Elem.TheVariants.{Int}
use Rattle.apl_array.specs.declared.axis.Origin.{Origin}
use Rattle.apl_array.specs.Axes.{from_origin, place_number, is_below}
use Rattle.apl_array.specs.Shape.{most_elements, IsShape, IsIndexOf, count_of, place_of, index_at}
use Rattle.apl_array.specs.Array.{ArrayValue, element_at, element_in}
use Rattle.apl_answer.specs.Arguments.{rank_of, number_of, numbers_of}
use Rattle.apl_struct.specs.Indexing.{Slots, are_slots_within, is_slot_within, slot_shape, selected_shape}
use Rattle.apl_struct.specs.Selecting.{slot_count, slot_index, chosen_index, chosen_place, AreArrays, AreSelectable, IsSelection}
use Rattle.apl_walk.specs.declared.maps.Map.{Map}
use Rattle.apl_walk.specs.Steps.{and_step}
use Rattle.apl_walk.specs.Maps.{map_extent, map_step}
use Rattle.apl_struct.proofs.Taken.{AreFactors, are_factors, IsIndexOf-cons}

-- ---- places and index lists, whatever the place

count_joined : (a b : List ℕ) → count_of (a ++ b) ≡ count_of a * count_of b
count_joined [] b = omega arith
count_joined (n ∷ ns) b = omega (arith, ap (λ m. n * m) (count_joined ns b))

index_length : (shape : List ℕ) (p : ℕ) → length (index_at shape p) ≡ length shape
index_length [] p = refl
index_length (n ∷ ns) p = ap suc (index_length ns p)

index_joined : (a b : List ℕ) (p : ℕ) → index_at (a ++ b) p ≡ index_at a (p / count_of b) ++ index_at b p
index_joined [] b p = refl
index_joined (n ∷ ns) b p =
    let turned : count_of (ns ++ b) ≡ count_of b * count_of ns = omega (arith, count_joined ns b) in
    let split : p / count_of (ns ++ b) ≡ p / count_of b / count_of ns = ap (λ m. p / m) turned ∙ sym (div-div-eq-div-mul p (count_of b) (count_of ns)) in
    ap (λ q. q % n ∷ index_at (ns ++ b) p) split ∙ ap (λ l. p / count_of b / count_of ns % n ∷ l) (index_joined ns b p)

place_of_index : (shape : List ℕ) (p : ℕ) → 0 < count_of shape → place_of shape (index_at shape p) ≡ p % count_of shape
place_of_index [] p some = sym (mod-one p)
place_of_index (n ∷ ns) p some =
    let both = are_factors n (count_of ns) (n * count_of ns) some (omega arith) in
    ap (λ r. p / count_of ns % n * count_of ns + r) (place_of_index ns p both.rest_some) ∙ sym (mod-mul p both.some both.rest_some)

-- ---- one more slot

-- the number that a slot has at its part of an index list
pub chosen_number : (s : ArrayValue) (rest : List ℕ) (p : ℕ) → 0 < count_of s.shape
    → number_of (element_at s (take (rank_of s) (index_at (s.shape ++ rest) p))) ≡ slice_index_or (numbers_of s) (p / count_of rest % count_of s.shape) (pos 0)
chosen_number s rest p some =
    let q = p / count_of rest in
    let front : take (rank_of s) (index_at (s.shape ++ rest) p) ≡ index_at s.shape q =
    ap (take (rank_of s)) (index_joined s.shape rest p) ∙ ap (λ n. take n (index_at s.shape q ++ index_at rest p)) (sym (index_length s.shape q))
    ∙ take-append_seam (index_at s.shape q) (index_at rest p) in
    ap (λ index. number_of (element_at s index)) front ∙ ap (λ place. number_of (element_in s place)) (place_of_index s.shape q some)
    ∙ sym (get_or-map number_of s.ravel (q % count_of s.shape) (Int (pos 0)))

other_indexes : (s : ArrayValue) (rest : List ℕ) (p : ℕ) → drop (rank_of s) (index_at (s.shape ++ rest) p) ≡ index_at rest p
other_indexes s rest p =
    let q = p / count_of rest in
    ap (drop (rank_of s)) (index_joined s.shape rest p) ∙ ap (λ n. drop n (index_at s.shape q ++ index_at rest p)) (sym (index_length s.shape q))
    ∙ drop-append_seam (index_at s.shape q) (index_at rest p)

count_more : (n : ℕ) (s : Option ArrayValue) (rest : List ℕ) → count_of (slot_shape n s ++ rest) ≡ slot_count n s * count_of rest
count_more n (Some s) rest = count_joined s.shape rest
count_more n None rest = refl

chosen_more : (origin : Origin) (n : ℕ) (s : Option ArrayValue) (slots : Slots) (rest : List ℕ) (p : ℕ) → 0 < slot_count n s
    → chosen_index origin (slot_shape n s ++ rest) (s ∷ slots) p ≡ slot_index origin s (p / count_of rest % slot_count n s) ∷ chosen_index origin rest slots p
chosen_more origin n None slots rest p some = refl
chosen_more origin n (Some s) slots rest p some = rw (chosen_number s rest p some, other_indexes s rest p) refl

place_below : (n : ℕ) (z : ℤ) → is_below n z ≡ true → place_number z < n
place_below n (pos p) below = ltb-true p n below
place_below n (negsuc p) below = absurd cc

slot_below : (origin : Origin) (n : ℕ) (s : Option ArrayValue) (slots : Slots) (i : ℕ) → AreArrays (s ∷ slots) → is_slot_within origin n s ≡ true → i < slot_count n s
    → (slot_index origin s i < n) × AreArrays slots
slot_below origin n None slots i arrays within inside = (inside, arrays)
slot_below origin n (Some s) slots i arrays within inside =
    let long : i < length (numbers_of s) = omega (arith, inside, length-map s.ravel number_of, arrays.0.len) in
    (place_below n _ (AllPass-from_list_all (λ z. is_below n (from_origin origin z)) (numbers_of s) within i (pos 0) long), arrays.1)

index_chosen : (origin : Origin) (shape : List ℕ) (slots : Slots) (p : ℕ) → length slots ≡ length shape → 0 < count_of (selected_shape shape slots)
    → AreArrays slots → are_slots_within origin shape slots ≡ true → IsIndexOf shape (chosen_index origin (selected_shape shape slots) slots p)
index_chosen origin [] [] p len some arrays within = record { len = refl; below = λ k inside. absurd (omega arith) }
index_chosen origin [] (s ∷ slots) p len some arrays within = absurd (omega arith)
index_chosen origin (n ∷ ns) [] p len some arrays within = absurd (omega arith)
index_chosen origin (n ∷ ns) (s ∷ slots) p len some arrays within =
    let rest = selected_shape ns slots in
    let count : count_of (slot_shape n s ++ rest) ≡ slot_count n s * count_of rest = count_more n s rest in
    let both = are_factors (slot_count n s) (count_of rest) (slot_count n s * count_of rest) (omega (arith, some, count)) (omega arith) in
    let tests = and_parts (is_slot_within origin n s) (are_slots_within origin ns slots) within in
    let i = p / count_of rest % slot_count n s in
    let first = slot_below origin n s slots i arrays tests.0 (mod-lt (p / count_of rest) both.some) in
    rw (chosen_more origin n s slots rest p both.some)
    (IsIndexOf-cons n (slot_index origin s i) ns (chosen_index origin rest slots p) first.0 (index_chosen origin ns slots p (omega arith) both.rest_some first.1 tests.1))

-- ---- the first axis and the others

-- lists by their first elements, as slice patterns give them, and what is known of both parts
pub record AreParts (origin : Origin) (lengths : List ℕ) (slots : Slots) (n : ℕ) (s : Option ArrayValue) (ns : List ℕ) (ss : Slots) : Type 0 where
  pub lengths_are : lengths ≡ n ∷ ns
  pub slots_are : slots ≡ s ∷ ss
  pub count : count_of (selected_shape lengths slots) ≡ slot_count n s * count_of (selected_shape ns ss)
  pub slot : AreFactors (slot_count n s) (count_of (selected_shape ns ss)) most_elements
  pub axis : AreFactors n (count_of ns) most_elements
  pub within : is_slot_within origin n s ≡ true
  pub rest : AreSelectable origin ns ss

pub parts_of : (origin : Origin) (lengths : List ℕ) (slots : Slots) (s : Option ArrayValue) → 0 < length lengths → 0 < length slots → s ≡ slice_index_or slots 0 s
    → AreSelectable origin lengths slots
    → AreParts origin lengths slots (slice_index lengths 0) s (take (length lengths - 1) (drop 1 lengths)) (take (length slots - 1) (drop 1 slots))
parts_of origin [] slots s axis some is all = absurd (omega arith)
parts_of origin (n ∷ ns) [] s axis some is all = absurd (omega arith)
parts_of origin (n ∷ ns) (t ∷ ss) s axis some is all =
    let others : take (length (n ∷ ns) - 1) ns ≡ ns = take_rest (n ∷ ns) 1 in
    let other_slots : take (length (t ∷ ss) - 1) ss ≡ ss = take_rest (t ∷ ss) 1 in
    let count : count_of (slot_shape n t ++ selected_shape ns ss) ≡ slot_count n t * count_of (selected_shape ns ss) = count_more n t (selected_shape ns ss) in
    let slot = are_factors (slot_count n t) (count_of (selected_shape ns ss)) most_elements (omega (arith, count, all.selected_some)) (omega (arith, count, all.selected_most)) in
    let own = are_factors n (count_of ns) most_elements all.some all.most in
    let tests = and_parts (is_slot_within origin n t) (are_slots_within origin ns ss) all.within in
    rw (others, other_slots, is)
    record {
      lengths_are = refl;
      slots_are = refl;
      count = count;
      slot = slot;
      axis = own;
      within = tests.0;
      rest = record {
        each = omega (arith, all.each);
        within = tests.1;
        few = omega (arith, all.few);
        some = own.rest_some;
        most = own.rest_less;
        selected_some = slot.rest_some;
        selected_most = slot.rest_less;
      };
    }

-- the place with one more axis before the others
pub place_first : (origin : Origin) (n : ℕ) (s : Option ArrayValue) (ns : List ℕ) (slots : Slots) (m : Map) (rest : Option ℕ) (e place : ℕ) → 0 < slot_count n s
    → e ≡ count_of (selected_shape ns slots) → rest ≡ Some (chosen_place origin ns (selected_shape ns slots) slots place)
    → map_extent m ≡ slot_count n s → ((i : ℕ) → i < slot_count n s → map_step m i ≡ Some (slot_index origin s i * count_of ns))
    → and_step rest (map_step m (place / e % map_extent m)) ≡ Some (chosen_place origin (n ∷ ns) (selected_shape (n ∷ ns) (s ∷ slots)) (s ∷ slots) place)
place_first origin n s ns slots m rest e place some count chosen extent steps =
    let i = place / count_of (selected_shape ns slots) % slot_count n s in
    let first = steps i (mod-lt (place / count_of (selected_shape ns slots)) some) in
    rw (chosen, count, extent, first, chosen_more origin n s slots (selected_shape ns slots) place some)
    (ap Some (add_comm (chosen_place origin ns (selected_shape ns slots) slots place) (slot_index origin s i * count_of ns)))

-- the only index of an axis is a later start
pub start_moved : (start step : ℕ) (rest : Option ℕ) → and_step (Some (start + step)) rest ≡ and_step (and_step (Some start) rest) (Some step)
start_moved start step (Some m) = ap Some (omega arith)
start_moved start step None = refl

-- ---- all axes

module _ (origin : Origin) (a : ArrayValue) (slots : Slots) (selected : List ℕ) (chosen : IsSelection a slots origin selected) (some : 0 < count_of selected) where
  pub lawful_chosen : (place : ℕ) → IsIndexOf a.shape (chosen_index origin selected slots place)
  lawful_chosen place =
      let some_selected : 0 < count_of (selected_shape a.shape slots) = omega (arith, some, ap count_of chosen.shape_is) in
      rw chosen.shape_is (index_chosen origin a.shape slots place chosen.each some_selected chosen.arrays chosen.within)

  pub selectable : ((shape index : List ℕ) → IsIndexOf shape index → place_of shape index < count_of shape) → IsShape a.shape → count_of selected ≤ most_elements
      → AreSelectable origin a.shape slots
  selectable below lawful most =
      let same = ap count_of chosen.shape_is in
      record {
        each = chosen.each;
        within = chosen.within;
        few = lawful.rank;
        some = omega (arith, below a.shape (chosen_index origin selected slots 0) (lawful_chosen 0));
        most = lawful.count;
        selected_some = omega (arith, some, same);
        selected_most = omega (arith, most, same);
      }

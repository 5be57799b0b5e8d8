-- The first place of a number in a list whose numbers are in order.
use Rattle.std.proofs.Common.{◌≡◌, ◌⊎◌, ℕ, zero, suc, ℤ, pos, ◌+◌, ◌<◌, ◌≤◌, true, false, List, [], ◌∷◌, length, map, Contains, get_or, slice_index, int_lt, int_eq, refl, sym, ap, subst, ◌∙◌, ⊎_elim, le_refl, arith}
use Rattle.std.specs.List.{range_with_len, position_or_len}
use Rattle.std.specs.List.Sorted.{IsPartitionedBy, IsPartitionPoint}
use Rattle.std.proofs.lemmas.Bool.{true≢false, cases_lt}
use Rattle.std.proofs.lemmas.Bool.Decides.{Decides-int_eq}
use Rattle.std.proofs.lemmas.List.{get_or-map, length-map}
use Rattle.std.proofs.lemmas.List.FromFn.{length-range_with_len, get_or-range_with_len}
use Rattle.std.proofs.lemmas.List.Sorted.{Contains-permutation}
use Rattle.std.proofs.lemmas.List.Sums.{position_or_len_is}
use Rattle.apl_array.specs.declared.array.Elem.{Elem}
use Rattle.apl_search.specs.declared.sorting.Placed.{Placed}
use Rattle.apl_search.specs.Ordering.{upwards}
use Rattle.apl_search.specs.Searching.{is_same_element}
use Rattle.apl_search.specs.Finding.{element_of, first_place}
use Rattle.apl_search.specs.Sorting.{places_of, AreInOrder}
use Rattle.apl_search.proofs.Grades.{false_of}
use Rattle.apl_search.proofs.Orders.{upwards_is_strict, ordered_in_grade, int_lt-irrefl, int_lt-trans}
use Rattle.apl_search.proofs.InOrder.{in_order_below}

pub get_or-within : {T : Type 0} (xs : List T) (k : ℕ) (c d : T) → k < length xs → get_or xs k c ≡ get_or xs k d
get_or-within [] k c d inside = absurd (omega arith)
get_or-within (x ∷ xs) zero c d inside = refl
get_or-within (x ∷ xs) (suc k) c d inside = get_or-within xs k c d (omega arith)

none : Placed
none = record { value = pos 0; place = 0 }

module _ (values : List ℤ) (placed : List Placed) (ordered : AreInOrder upwards values placed) where
  abbrev at : ℕ → Placed
  at i = get_or placed i none

  place_at : (i : ℕ) → i < length placed → slice_index (places_of placed) i ≡ (at i).place
  place_at i h = get_or-map (λ p. p.place) placed i none 0 h

  value_at : (i : ℕ) → i < length placed → (at i).value ≡ get_or values (at i).place (pos 0)
  value_at i h = ordered.each i none h

  rising : (i j : ℕ) → i < j → j < length placed → (int_lt (at i).value (at j).value ≡ true) ⊎ (((at i).value ≡ (at j).value) × ((at i).place < (at j).place))
  rising i j less inside =
      let l : i < length placed = omega (arith, less, inside) in
      let known = ordered_in_grade upwards upwards_is_strict values (places_of placed) ordered.grade i j less (omega (arith, inside, length-map placed (λ p. p.place))) in
      rw (value_at i l, value_at j inside) (rw (place_at i l, place_at j inside) at known)

  -- each place stands somewhere
  standing : (k : ℕ) → k < length values → (j : ℕ) × (j < length placed) × ((at j).place ≡ k)
  standing k h =
      let there : Contains (range_with_len 0 (length values)) k = (k, omega (arith, h, length-range_with_len 0 (length values)), get_or-range_with_len 0 (length values) k k h ∙ (let e : 0 + k ≡ k = omega arith in e)) in
      let found = Contains-permutation (range_with_len 0 (length values)) (places_of placed) k ordered.grade.all there in
      let l : found.0 < length placed = omega (arith, found.1, length-map placed (λ p. p.place)) in
      (found.0, l, sym (get_or-map (λ p. p.place) placed found.0 none k l) ∙ found.2)

  module _ (key : ℤ) where
    pub is_partitioned : IsPartitionedBy (λ p. int_lt p.value key) placed
    is_partitioned i j d h inside less =
        let l : i < length placed = omega (arith, h, inside) in
        let later : int_lt (at j).value key ≡ true = subst (λ p. int_lt p.value key ≡ true) (get_or-within placed j d none inside) less in
        subst (λ p. int_lt p.value key ≡ true) (get_or-within placed i none d l)
        (⊎_elim
        (λ before.
        ⊎_elim
        (λ lesser. int_lt-trans (at i).value (at j).value key lesser later)
        (λ level. rw (level.0) later)
        (rising i j before inside))
        (λ same. let e : i ≡ j = omega (arith, h, same) in rw e later)
        (cases_lt i j))

    module _ (i : ℕ) (point : IsPartitionPoint (λ p. int_lt p.value key ≡ true) (λ p. int_lt p.value key ≡ false) placed i) where
      -- the key stands at no place where it doesn't stand at the point, at that place or at an earlier one
      elsewhere : (k : ℕ) → k < length values → (i < length placed → (at i).value ≡ key → (at i).place ≤ k → ⊥) → get_or values k (pos 0) ≡ key → ⊥
      elsewhere k h not_there is =
          let stands = standing k h in
          let j = stands.0 in
          let inside : j < length placed = stands.1 in
          let level : (at j).value ≡ key = value_at j inside ∙ ap (λ q. get_or values q (pos 0)) stands.2 ∙ is in
          ⊎_elim
          (λ before. true≢false (sym (point.0 j none (omega arith) before) ∙ subst (λ z. int_lt z key ≡ false) (sym level) (int_lt-irrefl key)))
          (λ from. at_or_after j inside stands.2 level from)
          (cases_lt j i)
        where
          at_or_after : (j : ℕ) → j < length placed → (at j).place ≡ k → (at j).value ≡ key → i ≤ j → ⊥
          at_or_after j inside place level from =
              let l : i < length placed = omega (arith, inside, from) in
              ⊎_elim
              (λ before.
              ⊎_elim
              (λ lesser. true≢false (sym lesser ∙ subst (λ z. int_lt (at i).value z ≡ false) (sym level) (point.1 i none (omega arith) l)))
              (λ same. not_there l (same.0 ∙ level) (omega (arith, same.1, place)))
              (rising i j before inside))
              (λ back.
              let e : i ≡ j = omega (arith, from, back) in
              not_there l (ap (λ m. (at m).value) e ∙ level) (omega (arith, place, ap (λ m. (at m).place) e)))
              (cases_lt i j)

      unlike : (k : ℕ) → (get_or values k (pos 0) ≡ key → ⊥) → int_eq (get_or values k (pos 0)) key ≡ false
      unlike k differs = false_of _ (λ e. differs ((Decides-int_eq (get_or values k (pos 0)) key).0 e))

      pub found : (d : Placed) → i < length placed → (get_or placed i d).value ≡ key → position_or_len (λ v. int_eq v key) values ≡ (get_or placed i d).place
      found d inside is =
          let here : get_or placed i d ≡ at i = get_or-within placed i d none inside in
          let value : (at i).value ≡ key = ap (λ p. p.value) (sym here) ∙ is in
          let place = (at i).place in
          let below : place < length values = in_order_below upwards values placed ordered i none inside in
          position_or_len_is (λ v. int_eq v key) values place (pos 0) (omega (arith, below))
          (λ k h. unlike k (elsewhere k (omega (arith, h, below)) (λ l v first. absurd (omega (arith, h, first)))))
          (λ h. (Decides-int_eq (get_or values place (pos 0)) key).1 (sym (value_at i inside) ∙ value))
          ∙ ap (λ p. p.place) (sym here)

      pub missing : ((d : Placed) → i < length placed → (get_or placed i d).value ≡ key → ⊥) → position_or_len (λ v. int_eq v key) values ≡ length values
      missing differs =
          position_or_len_is (λ v. int_eq v key) values (length values) (pos 0) (le_refl (length values))
          (λ k h. unlike k (elsewhere k h (λ l v first. differs none l v)))
          (λ h. absurd (omega (arith, h)))

-- elements are found by their numbers
module _ {T : Type 0} (elem_of : T → Elem) (key : T → ℤ) (decides : (x y : T) → is_same_element (elem_of x) (elem_of y) ≡ int_eq (key x) (key y)) where
  place_by_key : (xs : List T) (x : T) → first_place (map elem_of xs) (elem_of x) ≡ position_or_len (λ v. int_eq v (key x)) (map key xs)
  place_by_key [] x = refl
  place_by_key (y ∷ ys) x = rw (decides y x, place_by_key ys x) refl

  pub place_at_key : (list xs : List T) (k : ℕ) → k < length xs → first_place (map elem_of list) (element_of (map elem_of xs) k) ≡ position_or_len (λ v. int_eq v (get_or (map key xs) k (pos 0))) (map key list)
  place_at_key list [] k inside = absurd (omega arith)
  place_at_key list (x ∷ xs) zero inside = place_by_key list x
  place_at_key list (x ∷ xs) (suc k) inside = place_at_key list xs k (omega arith)

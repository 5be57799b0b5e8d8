-- Tables of first places: what an entry is, and what remains of the places that are written from the last to the first.
use Rattle.std.proofs.Common.{◌≡◌, ◌⊎◌, ℕ, suc, ℤ, pos, ◌+◌, ◌-◌, ◌^◌, ◌<◌, ◌≤◌, ◌+ℤ◌, ◌≤ℤ◌, ◌<ℤ◌, min, true, false, List, ◌∷◌, length, drop, drop-cons, set, map, All, get_or, int_eq, not, refl, sym, ap, ◌∙◌, ⊎_elim, le_refl, arith}
use Rattle.std.proofs.lemmas.Bool.{cases_lt}
use Rattle.std.proofs.lemmas.Bool.Decides.{Decides-int_eq}
use Rattle.std.proofs.lemmas.Int.{ints}
use Rattle.std.proofs.lemmas.List.{length-set, get_or-set_same, get_or-set_other, drop_all}
use Rattle.std.proofs.lemmas.List.Elements.{All-map}
use Rattle.std.proofs.lemmas.List.Sums.{position_or_len_is, prefix_len-le-length}
use Rattle.apl_pool.specs.declared.kernel.TheConstants.{MOST_PLACES}
use Rattle.apl_search.specs.Tables.{place_of, IsNumberWithin, ArePlacesFrom, IsTable}
use Rattle.apl_search.proofs.Grades.{false_of}

pub missing : (numbers : List ℤ) (x : ℤ) → ((k : ℕ) → k < length numbers → get_or numbers k (pos 0) ≡ x → ⊥) → place_of numbers x ≡ length numbers
missing numbers x differs =
    position_or_len_is (λ y. int_eq y x) numbers (length numbers) (pos 0) (le_refl (length numbers))
    (λ k h. false_of _ (λ e. differs k h ((Decides-int_eq (get_or numbers k (pos 0)) x).0 e)))
    (λ h. absurd (omega (arith, h)))

-- a table from the least to past the greatest is long enough
pub within_ends : {T : Type 0} (key : T → ℤ) (xs : List T) (least greatest : ℤ) (span count : ℕ) → All (λ v. (least ≤ℤ key v) × (key v ≤ℤ greatest)) xs
    → least +ℤ pos span ≡ greatest → count ≡ span + 2 → All (IsNumberWithin least count) (map key xs)
within_ends key xs least greatest span count all is long =
    All-map (IsNumberWithin least count) key xs (λ k d h. let at = all k d h in (at.0, omega (arith, ints, at.1, is, long)))

module _ (numbers : List ℤ) (least : ℤ) (places : List ℕ) (table : IsTable numbers least places) (some : 0 < length places) where
  -- a number that none in the list is has the place of the last entry
  at_last : (x : ℤ) → ((k : ℕ) → k < length numbers → get_or numbers k (pos 0) ≡ x → ⊥) → get_or places (length places - 1) 0 ≡ place_of numbers x
  at_last x differs =
      table.each (length places - 1) 0 (omega (arith, some))
      ∙ missing numbers (least +ℤ pos (length places - 1)) (λ k h is. let at = table.within k (pos 0) h in absurd (omega (arith, ints, some, at.1, is)))
      ∙ sym (missing numbers x differs)

  pub entry_is : (number : ℤ) (distance entry : ℕ) → (least ≤ℤ number → least +ℤ pos distance ≡ number) → (number <ℤ least → pos (2 ^ 63) ≤ℤ (least +ℤ pos distance))
      → entry ≡ min distance (length places - 1) → get_or places entry 0 ≡ place_of numbers number
  entry_is number distance entry above below is =
      ⊎_elim
      (λ inside.
      ⊎_elim
      (λ lower. absurd (omega (arith, ints, inside, table.top, below lower)))
      (λ higher.
      let here : entry ≡ distance = omega (arith, is, inside) in
      ap (λ e. get_or places e 0) here ∙ table.each distance 0 (omega (arith, inside)) ∙ ap (place_of numbers) (above higher))
      (cases_ltz number least))
      (λ outside.
      let here : entry ≡ length places - 1 = omega (arith, is, outside) in
      ap (λ e. get_or places e 0) here
      ∙ at_last number (λ k h same.
      let at = table.within k (pos 0) h in
      ⊎_elim
      (λ lower. omega (arith, ints, lower, at.0, same))
      (λ higher. omega (arith, ints, higher, at.1, same, above higher, outside, some))
      (cases_ltz number least)))
      (cases_lt distance (length places - 1))
    where
      cases_ltz : (x y : ℤ) → (x <ℤ y) ⊎ (y ≤ℤ x)
      cases_ltz x y = grind (arith, ints)

module _ (numbers : List ℤ) (least : ℤ) where
  pub none_yet : (places : List ℕ) → All (λ p. p ≡ length numbers) places → ArePlacesFrom numbers least (length numbers) places
  none_yet places all = λ k d inside. all k d inside ∙ rw (drop_all (length numbers) numbers (le_refl (length numbers))) (omega arith)

  pub one_more : (places : List ℕ) (from entry : ℕ) (x : ℤ) → from < length numbers → get_or numbers from x ≡ x → least +ℤ pos entry ≡ x → entry < length places
      → ArePlacesFrom numbers least (from + 1) places → ArePlacesFrom numbers least from (set places entry from)
  one_more places from entry x inside at is within before = λ k d h.
      let l : k < length places = omega (arith, h, length-set places entry from) in
      let first : drop from numbers ≡ x ∷ drop (from + 1) numbers = drop-cons numbers from x inside ∙ (let next : suc from ≡ from + 1 = omega arith in rw (next, at) refl) in
      let other : (k ≡ entry → ⊥) → get_or (set places entry from) k d ≡ from + place_of (drop from numbers) (least +ℤ pos k) = λ ne.
      let unlike : int_eq x (least +ℤ pos k) ≡ false = false_of _ (λ e. ne (let s = (Decides-int_eq x (least +ℤ pos k)).0 e in omega (arith, ints, s, is))) in
      get_or-set_other places entry k from d ne ∙ before k d l ∙ rw (first, unlike) (omega arith) in
      let here : entry ≤ k → k ≤ entry → get_or (set places entry from) k d ≡ from + place_of (drop from numbers) (least +ℤ pos k) = λ above below.
      let same : k ≡ entry = omega (arith, above, below) in
      let alike : int_eq x (least +ℤ pos k) ≡ true = (Decides-int_eq x (least +ℤ pos k)).1 (sym is ∙ ap (λ e. least +ℤ pos e) (sym same)) in
      ap (λ e. get_or (set places entry from) e d) same ∙ get_or-set_same places entry from d within ∙ rw (first, alike) (omega arith) in
      ⊎_elim
      (λ less. other (λ e. omega (arith, less, e)))
      (λ above. ⊎_elim (λ more. other (λ e. omega (arith, more, e))) (λ below. here above below) (cases_lt entry k))
      (cases_lt k entry)

pub place_within : (numbers : List ℤ) (x : ℤ) → place_of numbers x ≤ length numbers
place_within numbers x = prefix_len-le-length (λ y. not (int_eq y x)) numbers

-- the entries of a list that is no longer than kernels are no greater
pub entries_within : (numbers : List ℤ) (least : ℤ) (places : List ℕ) → length numbers ≤ MOST_PLACES
    → ((k d : ℕ) → k < length places → get_or places k d ≡ place_of numbers (least +ℤ pos k)) → All (λ p. p ≤ MOST_PLACES) places
entries_within numbers least places count each = λ k d inside. omega (arith, each k d inside, place_within numbers (least +ℤ pos k), count)

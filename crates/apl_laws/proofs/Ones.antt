-- Where the ones of a list of bits are.
use Rattle.std.proofs.Common.{◌≡◌, ℕ, ℤ, pos, zero, suc, ◌+◌, ◌-◌, ◌<◌, ◌≤◌, true, false, Bool, int_eq, List, [], ◌∷◌, ◌++◌, map, take, length, slice_index, refl, subst, ap, sym, ◌∙◌, ⊎_elim, inl, inr, arith}
use Rattle.std.specs.Prelude.{◌||◌, ◌⊎◌, sum, flat_map, replicate}
use Rattle.std.specs.List.{list_all, range_with_len}
use Rattle.std.proofs.lemmas.Bool.{and_parts, and_from, cases_lt}
use Rattle.std.proofs.lemmas.Bool.Decides.{Decides-int_eq}
use Rattle.std.proofs.lemmas.List.{take_all}
use Rattle.std.proofs.lemmas.List.Sums.{sum_by_more}
use Rattle.apl_array.specs.Axes.{place_number}
use Rattle.apl_answer.specs.Arguments.{is_bit, is_natural}
use Rattle.apl_struct.specs.Compressing.{repeated_indexes}

either : (p q : Bool) → (p || q) ≡ true → (p ≡ true) ⊎ (q ≡ true)
either true q e = inl refl
either false q e = inr e

bit_is : (z : ℤ) → is_bit z ≡ true → (z ≡ pos 0) ⊎ (z ≡ pos 1)
bit_is z bit =
    ⊎_elim
    (λ none. inl ((Decides-int_eq z (pos 0)).0 none))
    (λ one. inr ((Decides-int_eq z (pos 1)).0 one))
    (either (int_eq z (pos 0)) (int_eq z (pos 1)) bit)

bit_natural : (z : ℤ) → is_bit z ≡ true → is_natural z ≡ true
bit_natural z bit = ⊎_elim (λ none. ap is_natural none) (λ one. ap is_natural one) (bit_is z bit)

-- bits are numbers from 0
pub bits_natural : (zs : List ℤ) → list_all is_bit zs ≡ true → list_all is_natural zs ≡ true
bits_natural [] all = refl
bits_natural (z ∷ zs) all =
    let each = and_parts (is_bit z) (list_all is_bit zs) all in
    and_from (is_natural z) (list_all is_natural zs) (bit_natural z each.0) (bits_natural zs each.1)

-- each is 0 or 1
abbrev pub AreBits : List ℕ → Type 0
AreBits bits = (i : ℕ) → (slice_index bits i ≡ 0) ⊎ (slice_index bits i ≡ 1)

place_bit : (z : ℤ) → is_bit z ≡ true → (place_number z ≡ 0) ⊎ (place_number z ≡ 1)
place_bit z bit = ⊎_elim (λ none. inl (ap place_number none)) (λ one. inr (ap place_number one)) (bit_is z bit)

pub are_bits : (zs : List ℤ) → list_all is_bit zs ≡ true → AreBits (map place_number zs)
are_bits [] all i = inl refl
are_bits (z ∷ zs) all zero = place_bit z (and_parts (is_bit z) (list_all is_bit zs) all).0
are_bits (z ∷ zs) all (suc i) = are_bits zs (and_parts (is_bit z) (list_all is_bit zs) all).1 i

-- a place of a one, with j ones before it
pub record IsOne (bits : List ℕ) (j p : ℕ) : Type 0 where
  pub below : p < length bits
  pub one : slice_index bits p ≡ 1
  pub before : sum (take p bits) ≡ j

abbrev indexes_from : List ℕ → ℕ → ℕ → List ℕ
indexes_from bits a n = flat_map (λ i. replicate (slice_index bits i) i) (range_with_len a n)

ones_more : (bits : List ℕ) (a : ℕ) → a < length bits → sum (take (a + 1) bits) ≡ sum (take a bits) + slice_index bits a
ones_more bits a inside = sum_by_more (λ n. n) bits a 0 inside

sum_whole : (xs : List ℕ) → sum (take (length xs) xs) ≡ sum xs
sum_whole xs = ap sum (take_all (length xs) xs (omega arith))

-- from a on, where there are so many ones before it
one_from : (bits : List ℕ) (a n j : ℕ) → AreBits bits → a + n ≡ length bits → sum (take a bits) ≤ j → j < sum bits
    → IsOne bits j (slice_index (indexes_from bits a n) (j - sum (take a bits)))
one_from bits a zero j each long from below =
    let end : a ≡ length bits = omega arith in
    absurd (omega (arith, ap (λ m. sum (take m bits)) end, sum_whole bits))
one_from bits a (suc n) j each long from below =
    let inside : a < length bits = omega arith in
    let more = ones_more bits a inside in
    let rest = indexes_from bits (a + 1) n in
    ⊎_elim
    (λ none.
    let same : sum (take (a + 1) bits) ≡ sum (take a bits) = omega (arith, more, none) in
    let here : indexes_from bits a (suc n) ≡ rest = ap (λ c. replicate c a ++ rest) none in
    let P : ℕ → Type 0 = IsOne bits j in
    subst P (ap (λ s. slice_index rest (j - s)) same ∙ ap (λ is. slice_index is (j - sum (take a bits))) (sym here))
    (one_from bits (a + 1) n j each (omega arith) (omega arith) below))
    (λ one.
    let next : sum (take (a + 1) bits) ≡ sum (take a bits) + 1 = omega (arith, more, one) in
    let here : indexes_from bits a (suc n) ≡ a ∷ rest = ap (λ c. replicate c a ++ rest) one in
    let P : ℕ → Type 0 = IsOne bits j in
    ⊎_elim
    (λ later.
    let back : j - sum (take a bits) ≡ suc (j - sum (take (a + 1) bits)) = omega arith in
    subst P (ap (slice_index (a ∷ rest)) (sym back) ∙ ap (λ is. slice_index is (j - sum (take a bits))) (sym here))
    (one_from bits (a + 1) n j each (omega arith) (omega arith) below))
    (λ first.
    let start : j - sum (take a bits) ≡ 0 = omega arith in
    subst P (ap (slice_index (a ∷ rest)) (sym start) ∙ ap (λ is. slice_index is (j - sum (take a bits))) (sym here))
    record { below = inside; one = one; before = omega arith })
    (cases_lt (sum (take a bits)) j))
    (each a)

-- the index that is repeated at j is that of the one with j ones before it
pub one_at : (bits : List ℕ) (j : ℕ) → AreBits bits → j < sum bits → IsOne bits j (slice_index (repeated_indexes bits) j)
one_at bits j each below =
    let none : sum (take 0 bits) ≡ 0 = refl in
    let whole : j - sum (take 0 bits) ≡ j = omega (arith, none) in
    let P : ℕ → Type 0 = IsOne bits j in
    subst P (ap (slice_index (repeated_indexes bits)) whole) (one_from bits 0 (length bits) j each (omega arith) (omega (arith, none)) below)

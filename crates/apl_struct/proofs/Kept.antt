-- One more bit of a list.
use Rattle.std.proofs.Common.{◌≡◌, ℕ, zero, suc, slice_set, ℤ, pos, true, false, ◌+◌, ◌<◌, ◌≤◌, List, [], ◌∷◌, ◌++◌, map, take, take-suc, drop, length, replicate, int_eq, slice_index_or, refl, ap, sym, ◌∙◌, arith, inl, inr}
use Rattle.std.specs.Prelude.{Bool, ◌&&◌}
use Rattle.std.proofs.lemmas.Bool.{or_cases}
use Rattle.std.proofs.lemmas.Bool.Decides.{Decides-int_eq}
use Rattle.std.proofs.lemmas.List.{append-nil, get_or-map, length-map, map-append, take-append-drop, take-set, take_more_set}
use Rattle.apl_array.specs.Axes.{place_number}
use Rattle.apl_answer.specs.Arguments.{is_bit}
use Rattle.std.specs.List.{list_all}
use Rattle.std.proofs.lemmas.List.Folds.{list_all-append}
use Rattle.apl_struct.specs.Compressing.{repeated_indexes}
use Rattle.apl_array.specs.Array.{bit}
use Rattle.apl_struct.proofs.Counts.{natural_repeats}
use mir.Val.{bool_byte}

pub byte_most : (b : Bool) → bool_byte b ≤ 1
byte_most true = omega arith
byte_most false = omega arith

-- a truth value counts as the number that it is
counted : (b : Bool) → bool_byte b ≡ place_number (bit b)
counted true = refl
counted false = refl

-- an index that is kept once or not at all
kept_once : (places : List ℕ) (kept i count : ℕ) → count ≤ 1 → kept < length places → take (kept + count) (slice_set places kept i) ≡ take kept places ++ replicate count i
kept_once places kept i zero most inside =
    let none : kept + 0 ≡ kept = omega arith in
    ap (λ n. take n (slice_set places kept i)) none ∙ take-set places kept i ∙ sym (append-nil (take kept places))
kept_once places kept i (suc zero) most inside = take_more_set places kept i inside
kept_once places kept i (suc (suc n)) most inside = absurd (omega (arith, most))

-- the index of one more truth value is kept if it is true
pub kept_more : (truths : List Bool) (i kept : ℕ) (places : List ℕ) → i < length truths → kept < length places → take kept places ≡ repeated_indexes (take i (map place_number (map bit truths)))
    → take (kept + bool_byte (slice_index_or truths i false)) (slice_set places kept i) ≡ repeated_indexes (take (i + 1) (map place_number (map bit truths)))
kept_more truths i kept places inside room before =
    let numbers = map bit truths in
    let here = slice_index_or truths i false in
    let inside_numbers : i < length numbers = omega (arith, inside, length-map truths bit) in
    let count : bool_byte here ≡ place_number (slice_index_or numbers i (pos 0)) = counted here ∙ ap place_number (sym (get_or-map bit truths i false (pos 0) inside)) in
    kept_once places kept i (bool_byte here) (byte_most here) room
    ∙ ap (λ l. l ++ replicate (bool_byte here) i) before
    ∙ ap (λ y. repeated_indexes (take i (map place_number numbers)) ++ replicate y i) count
    ∙ sym (natural_repeats numbers i inside_numbers)

-- a bit is the truth value that says whether it is 1
bit_of : (z : ℤ) → is_bit z ≡ true → bit (int_eq z (pos 1)) ≡ z
bit_of z is =
    elim (or_cases (int_eq z (pos 0)) (int_eq z (pos 1)) is) [
      | inl none ↦ rw ((Decides-int_eq z (pos 0)).0 none) refl
      | inr one ↦ rw ((Decides-int_eq z (pos 1)).0 one) refl
    ]

-- one more bit as a truth value
pub truth_more : (numbers : List ℤ) (i : ℕ) (z : ℤ) (truths new : List Bool) (is_one : Bool) → i < length numbers → slice_index_or numbers i (pos 0) ≡ z → is_bit z ≡ true
    → is_one ≡ int_eq z (pos 1) → map bit truths ≡ take i numbers → new ≡ truths ++ is_one ∷ [] → map bit new ≡ take (i + 1) numbers
truth_more numbers i z truths new is_one inside here is one before pushed =
    let last : bit is_one ≡ slice_index_or numbers i (pos 0) = ap bit one ∙ bit_of z is ∙ sym here in
    let more : i + 1 ≡ suc i = omega arith in
    rw pushed (map-append bit truths (is_one ∷ []) ∙ rw (before, last) (sym (ap (λ n. take n numbers) more ∙ take-suc numbers i (pos 0) inside)))

-- both are true
pub both : (a b : Bool) → (a && b) ≡ true → (a ≡ true) × (b ≡ true)
both a b all = grind (arith, all)

-- not all are bits where not all of the first ones are
pub not_all : (numbers : List ℤ) (n : ℕ) → list_all is_bit (take n numbers) ≡ false → list_all is_bit numbers ≡ false
not_all numbers n none =
    ap (list_all is_bit) (sym (take-append-drop n numbers)) ∙ list_all-append is_bit (take n numbers) (drop n numbers) ∙ ap (λ b. b && list_all is_bit (drop n numbers)) none

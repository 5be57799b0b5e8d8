-- Numbers of digits, read from the left.
use Rattle.std.proofs.Common.{◌≡◌, ◌∷◌, [], List, refl, sym, ◌∙◌, ap, subst, arith, length, take, drop, get_or, ◌+◌, ◌-◌, ◌*◌, ◌<◌, ◌≤◌, ℕ, zero, suc, true, false}
use Rattle.std.proofs.Math.Numerals.{add-one}
use Rattle.apl_tokens.specs.Symbols.{is_digit}
use Rattle.apl_tokens.specs.Fronts.{AllPass}
use Rattle.apl_tokens.specs.Lexis.{number_of_digits, number_after}
use Rattle.apl_syntax.specs.Commands.{AreDigitsOf}

number_grows : (n : ℕ) (ds : List ℕ) → n ≤ number_after n ds
number_grows n [] = omega arith
number_grows n (d ∷ ds) = omega (arith, number_grows (10 * n + (d - 48)) ds)

-- the digits up to this one spell too much
pub beyond : (digits : List ℕ) (n i x most : ℕ) → i < length digits → number_of_digits digits ≡ number_after n (drop i digits) → x ≡ get_or digits i x → most < 10 * n + (x - 48) → (m : ℕ) → AreDigitsOf m digits → most < m
beyond digits n i x most h so_far here past m is = subst (λ (k : ℕ). most < k) is.1 (subst (λ (k : ℕ). most < k) (sym so_far) (go digits i h here))
  where
    go : (ds : List ℕ) (i : ℕ) → i < length ds → x ≡ get_or ds i x → most < number_after n (drop i ds)
    go [] i h here = absurd (omega arith)
    go (d ∷ ds) zero h here = let past_it : most < 10 * n + (d - 48) = subst (λ (z : ℕ). most < 10 * n + (z - 48)) here past in omega (arith, number_grows (10 * n + (d - 48)) ds)
    go (d ∷ ds) (suc i) h here = go ds i (omega arith) here

-- another symbol is among the digits
pub no_digits : (digits : List ℕ) (i x : ℕ) → i < length digits → x ≡ get_or digits i x → is_digit x ≡ false → (m : ℕ) → AreDigitsOf m digits → ⊥
no_digits [] i x h here not m is = is.0
no_digits (d ∷ ds) i x h here not m is = go (d ∷ ds) i h here is.0
  where
    go : (ds : List ℕ) (i : ℕ) → i < length ds → x ≡ get_or ds i x → AllPass is_digit ds → ⊥
    go [] i h here all = omega arith
    go (d ∷ ds) zero h here all =
        let yes : is_digit d ≡ true = all.0 in
        let no : is_digit d ≡ false = ap is_digit (sym here) ∙ not in
        absurd cc
    go (d ∷ ds) (suc i) h here all = go ds i (omega arith) here all.1

pub are_digits_of : (digits : List ℕ) (n i : ℕ) → (length digits ≡ 0 → ⊥) → length digits ≤ i → number_of_digits digits ≡ number_after n (drop i digits) → AllPass is_digit (take i digits) → AreDigitsOf n digits
are_digits_of [] n i some all so_far digits = absurd (some (omega arith))
are_digits_of (d ∷ ds) n i some all so_far digits = (subst (AllPass is_digit) (take_all (d ∷ ds) i all) digits, end (d ∷ ds) i all so_far)
  where
    take_all : (xs : List ℕ) (i : ℕ) → length xs ≤ i → take i xs ≡ xs
    take_all [] zero h = refl
    take_all [] (suc i) h = refl
    take_all (x ∷ xs) zero h = absurd (omega arith)
    take_all (x ∷ xs) (suc i) h = ap (λ (y : List ℕ). x ∷ y) (take_all xs i (omega arith))

    none : (xs : List ℕ) (i : ℕ) → length xs ≤ i → drop i xs ≡ []
    none [] zero h = refl
    none [] (suc i) h = refl
    none (x ∷ xs) zero h = absurd (omega arith)
    none (x ∷ xs) (suc i) h = none xs i (omega arith)

    end : (xs : List ℕ) (i : ℕ) → length xs ≤ i → number_of_digits (d ∷ ds) ≡ number_after n (drop i xs) → number_of_digits (d ∷ ds) ≡ n
    end xs i h e = e ∙ ap (λ (y : List ℕ). number_after n y) (none xs i h)

-- one more digit
pub one_more : (digits : List ℕ) (n i x y : ℕ) → i < length digits → number_of_digits digits ≡ number_after n (drop i digits) → x ≡ get_or digits i x → y ≡ x → number_of_digits digits ≡ number_after (10 * n + (y - 48)) (drop (i + 1) digits)
one_more digits n i x y h so_far here same = so_far ∙ go digits i h here ∙ ap (λ (k : ℕ). number_after (10 * n + (y - 48)) (drop k digits)) (sym (add-one i))
  where
    go : (ds : List ℕ) (i : ℕ) → i < length ds → x ≡ get_or ds i x → number_after n (drop i ds) ≡ number_after (10 * n + (y - 48)) (drop (suc i) ds)
    go [] i h here = absurd (omega arith)
    go (d ∷ ds) zero h here = ap (λ (z : ℕ). number_after (10 * n + (z - 48)) ds) (sym here ∙ sym same)
    go (d ∷ ds) (suc i) h here = go ds i (omega arith) here

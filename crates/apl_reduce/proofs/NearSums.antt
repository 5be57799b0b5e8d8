-- Sums of numbers near 0.
use Rattle.std.proofs.Common.{◌≡◌, ℕ, zero, suc, ℤ, pos, ◌+◌, ◌*◌, ◌-◌, ◌^◌, ◌<◌, ◌≤◌, ◌+ℤ◌, FitsSigned, w64, to_z, of_z, refl, sym, ap, subst, ◌∙◌, ⊎_elim, arith}
use Rattle.std.specs.Prelude.{unsigned_abs, bit_or}
use Rattle.std.proofs.Math.IntN.{+ℤ_assoc}
use Rattle.std.proofs.lemmas.Int.{ints, to_z-of_z, fits_signed_from_abs}
use Rattle.std.proofs.lemmas.Nat.{le_or_l, le_or_r}
use Rattle.std.proofs.lemmas.Bool.{cases_lt}
use Rattle.apl_reduce.specs.Magnitudes.{sum_of, IsSumNear}
use Rattle.apl_reduce.proofs.Distances.{sum_near}

-- the sum of the first n numbers, each of which is near 0
near_sum : (number : ℕ → ℤ) (most n : ℕ) → ((k : ℕ) → k < n → unsigned_abs (number k) ≤ most) → unsigned_abs (sum_of number n) ≤ n * most
near_sum number most zero near = omega arith
near_sum number most (suc n) near =
    omega (arith, sum_near (sum_of number n) (number n), near n (omega arith), near_sum number most n (λ k below. near k (omega arith)))

add_none : (z : ℤ) → z ≡ z +ℤ pos 0
add_none z = omega (arith, ints)

same_sum : (f g : ℕ → ℤ) (n : ℕ) → ((k : ℕ) → f k ≡ g k) → sum_of f n ≡ sum_of g n
same_sum f g zero each = refl
same_sum f g (suc n) each = ap (λ z. z +ℤ f n) (same_sum f g n each) ∙ ap (λ z. sum_of g n +ℤ z) (each n)

-- the sum of m numbers and of n after them
two_sums : (f : ℕ → ℤ) (m n : ℕ) → sum_of f (m + n) ≡ sum_of f m +ℤ sum_of (λ k. f (m + k)) n
two_sums f m zero = let same : m + zero ≡ m = omega arith in ap (sum_of f) same ∙ add_none (sum_of f m)
two_sums f m (suc n) =
    let next : m + suc n ≡ suc (m + n) = omega arith in
    ap (sum_of f) next ∙ ap (λ z. z +ℤ f (m + n)) (two_sums f m n) ∙ +ℤ_assoc (sum_of f m) (sum_of (λ k. f (m + k)) n) (f (m + n))

-- ---- numbers counted from the least one that is near 0

pub near_from_above : (near above : ℕ) (x : ℤ) → (above < 2 * near → pos above ≡ x +ℤ pos near) → above < 2 * near → unsigned_abs x ≤ near
near_from_above near above x counted low = omega (arith, ints, low, counted low)

pub both_low : (limit m n : ℕ) → bit_or m n < limit → (m < limit) × (n < limit)
both_low limit m n low = (omega (arith, low, le_or_l m n), omega (arith, low, le_or_r m n))

-- ---- sums

-- what 64 bits keep of a sum or a difference that they hold
pub stored : (two : ℤ → ℤ → ℤ) (x y result : ℤ) → FitsSigned w64 x → FitsSigned w64 y
    → (unsigned_abs (two (to_z w64 (of_z w64 x)) (to_z w64 (of_z w64 y))) < 2 ^ 63 → result ≡ two (to_z w64 (of_z w64 x)) (to_z w64 (of_z w64 y)))
    → unsigned_abs (two x y) < 2 ^ 63 → to_z w64 (of_z w64 result) ≡ two x y
stored two x y result fits_x fits_y is near =
    let Is : ℤ → ℤ → Type 0 = λ a b. unsigned_abs (two a b) < 2 ^ 63 → result ≡ two a b in
    let read = subst (λ a. Is a y) (to_z-of_z w64 x fits_x) (subst (λ b. Is (to_z w64 (of_z w64 x)) b) (to_z-of_z w64 y fits_y) is) near in
    to_z-of_z w64 result (subst (FitsSigned w64) (sym read) (fits_signed_from_abs w64 (two x y) near)) ∙ read

module _ (number : ℕ → ℤ) (most : ℕ) where
  pub sum_is_near : (count : ℕ) (sum : ℤ) → IsSumNear number most count sum → unsigned_abs sum ≤ count * most
  sum_is_near count sum near = subst (λ z. unsigned_abs z ≤ count * most) (sym near.is) (near_sum number most count near.near)

  pub no_numbers : IsSumNear number most 0 (pos 0)
  no_numbers = record { near = λ k below. absurd (omega arith); is = refl }

  pub one_more : (k : ℕ) (sum next : ℤ) → IsSumNear number most k sum → unsigned_abs (number k) ≤ most → next ≡ sum +ℤ number k → IsSumNear number most (k + 1) next
  one_more k sum next before near is =
      let more : suc k ≡ k + 1 = omega arith in
      record {
        near = λ j below.
            ⊎_elim
            (λ earlier. before.near j earlier)
            (λ later. let same : k ≡ j = omega (arith, later, below) in subst (λ i. unsigned_abs (number i) ≤ most) same near)
            (cases_lt j k);
        is = is ∙ ap (λ z. z +ℤ number k) before.is ∙ ap (sum_of number) more;
      }

  -- a run and the one after it
  pub both_runs : (later : ℕ → ℤ) (m n : ℕ) (low high all : ℤ) → ((k : ℕ) → later k ≡ number (m + k)) → IsSumNear number most m low → IsSumNear later most n high → all ≡ low +ℤ high
      → IsSumNear number most (m + n) all
  both_runs later m n low high all after low_near high_near is = record {
    near = λ j below.
        ⊎_elim
        (λ early. low_near.near j early)
        (λ late.
        let here : m + (j - m) ≡ j = omega (arith, late) in
        subst (λ i. unsigned_abs (number i) ≤ most) here (subst (λ z. unsigned_abs z ≤ most) (after (j - m)) (high_near.near (j - m) (omega (arith, late, below)))))
        (cases_lt j m);
    is = is ∙ ap (λ z. z +ℤ high) low_near.is ∙ ap (λ z. sum_of number m +ℤ z) (high_near.is ∙ same_sum _ _ n after) ∙ sym (two_sums number m n);
  }

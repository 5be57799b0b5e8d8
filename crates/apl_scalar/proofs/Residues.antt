-- The residue from the remainder that is never negative.
use Rattle.std.proofs.Common.{◌≡◌, ℕ, zero, suc, ◌+◌, ◌-◌, ◌*◌, ◌/◌, ◌%◌, ◌<◌, ℤ, pos, negsuc, neg_ℤ, ◌+ℤ◌, ◌-ℤ◌, ◌*ℤ◌, refl, ap, ◌∙◌, ⊎_elim, arith}
use Rattle.std.specs.Prelude.{◌<ℤ◌, ◌≤ℤ◌}
use Rattle.std.specs.Int.{div_ceil, int_rem_euclid}
use Rattle.std.specs.Ordering.{int_eq}
use Rattle.std.proofs.lemmas.Int.{ints}
use Rattle.std.proofs.lemmas.Nat.{div-mul-add, div-add-mod'}
use Rattle.std.proofs.lemmas.Bool.{cases_Bool}
use Rattle.std.proofs.lemmas.Bool.Decides.{Decides-int_eq}
use Rattle.std.proofs.Math.Nat.{mod-lt}
use Rattle.apl_scalar.specs.Arithmetic.{residue, floor_quotient}

-- b less a times the quotient rounded down
abbrev remainder : ℤ → ℤ → ℤ
remainder a b = b -ℤ a *ℤ floor_quotient b a

residue_remainder : (a b : ℤ) → (a ≡ pos 0 → ⊥) → residue a b ≡ remainder a b
residue_remainder a b some =
    ⊎_elim
    (λ is. absurd (some ((Decides-int_eq a (pos 0)).0 is)))
    (λ is_not. rw is_not refl)
    (cases_Bool (int_eq a (pos 0)))

neg_times : (m d : ℕ) → negsuc m *ℤ neg_ℤ (pos d) ≡ pos (suc m * d)
neg_times m zero = omega (arith, ints)
neg_times m (suc d) = refl

remainder_pos : (m : ℕ) (b : ℤ) → remainder (pos (suc m)) b ≡ int_rem_euclid b (pos (suc m))
remainder_pos m (pos k) = omega (arith, ints, div-add-mod' k (suc m))
remainder_pos m (negsuc k) = omega (arith, ints, div-add-mod' k (suc m), mod-lt k (let h : 0 < suc m = omega arith in h))

-- the next number's quotient is the same or the next one
next_same : (k n : ℕ) → k % n + 1 < n → suc k / n ≡ k / n
next_same k n below =
    let e : suc k ≡ k / n * n + (k % n + 1) = omega (arith, div-add-mod' k n) in
    ap (λ x. x / n) e ∙ div-mul-add (k / n) n (k % n + 1) below

next_more : (k n : ℕ) → 0 < n → k % n + 1 ≡ n → suc k / n ≡ k / n + 1
next_more k n some full =
    let e : suc k ≡ (k / n + 1) * n + 0 = omega (arith, div-add-mod' k n) in
    ap (λ x. x / n) e ∙ div-mul-add (k / n + 1) n 0 some

exact_ceiling : (k n : ℕ) → k % n ≡ 0 → div_ceil k n ≡ k / n
exact_ceiling k n none = rw none (omega arith)

next_ceiling : (k n : ℕ) → (k % n ≡ 0 → ⊥) → div_ceil k n ≡ k / n + 1
next_ceiling k n some = omega arith

remainder_zero : (m : ℕ) (b : ℤ) → int_rem_euclid b (negsuc m) ≡ pos 0 → remainder (negsuc m) b ≡ pos 0
remainder_zero m (pos k) none =
    let whole : k % suc m ≡ 0 = omega (arith, ints, none) in
    rw (exact_ceiling k (suc m) whole, neg_times m (k / suc m)) (omega (arith, ints, div-add-mod' k (suc m), whole))
remainder_zero m (negsuc k) none =
    let below = mod-lt k (let h : 0 < suc m = omega arith in h) in
    let full : k % suc m + 1 ≡ suc m = omega (arith, ints, none, below) in
    rw (next_more k (suc m) (omega arith) full) (omega (arith, ints, div-add-mod' k (suc m), full))

remainder_neg : (m : ℕ) (b : ℤ) → (int_rem_euclid b (negsuc m) ≡ pos 0 → ⊥) → remainder (negsuc m) b ≡ int_rem_euclid b (negsuc m) +ℤ negsuc m
remainder_neg m (pos k) some =
    let rest : k % suc m ≡ 0 → ⊥ = λ e. some (ap pos e) in
    rw (next_ceiling k (suc m) rest, neg_times m (k / suc m + 1)) (omega (arith, ints, div-add-mod' k (suc m)))
remainder_neg m (negsuc k) some =
    let below = mod-lt k (let h : 0 < suc m = omega arith in h) in
    let rest : suc m - 1 - k % suc m ≡ 0 → ⊥ = λ e. some (ap pos e) in
    let room : k % suc m + 1 < suc m = omega (arith, below) in
    rw (next_same k (suc m) room) (omega (arith, ints, div-add-mod' k (suc m), room))

pub residue_pos : (a b : ℤ) → pos 0 <ℤ a → residue a b ≡ int_rem_euclid b a
residue_pos (pos zero) b h = absurd (omega (arith, ints))
residue_pos (pos (suc m)) b h = residue_remainder (pos (suc m)) b (λ e. absurd (omega (arith, ints, e))) ∙ remainder_pos m b
residue_pos (negsuc m) b h = absurd (omega (arith, ints))

pub residue_zero : (a b : ℤ) → a <ℤ pos 0 → int_rem_euclid b a ≡ pos 0 → residue a b ≡ pos 0
residue_zero (pos n) b h none = absurd (omega (arith, ints))
residue_zero (negsuc m) b h none = residue_remainder (negsuc m) b (λ e. absurd (omega (arith, ints, e))) ∙ remainder_zero m b none

pub residue_neg : (a b : ℤ) → a <ℤ pos 0 → (int_rem_euclid b a ≡ pos 0 → ⊥) → residue a b ≡ int_rem_euclid b a +ℤ a
residue_neg (pos n) b h some = absurd (omega (arith, ints))
residue_neg (negsuc m) b h some = residue_remainder (negsuc m) b (λ e. absurd (omega (arith, ints, e))) ∙ remainder_neg m b some

pub rem_natural : (b a : ℤ) → pos 0 ≤ℤ int_rem_euclid b a
rem_natural (pos k) a = search (arith, ints)
rem_natural (negsuc k) a = search (arith, ints)

-- Quotients rounded down.
use Rattle.std.proofs.Common.{◌≡◌, ℕ, zero, suc, ◌+◌, ◌-◌, ◌*◌, ◌/◌, ◌%◌, ◌<◌, ◌≤◌, ℤ, pos, negsuc, neg_ℤ, ◌+ℤ◌, ◌-ℤ◌, ◌*ℤ◌, add-one, refl, sym, ap, ◌∙◌, arith}
use Rattle.std.specs.Prelude.{unsigned_abs, ◌<ℤ◌, ◌≤ℤ◌}
use Rattle.std.specs.Int.{div_ceil, int_div_euclid, int_rem_euclid}
use Rattle.std.proofs.lemmas.Int.{ints}
use Rattle.std.proofs.lemmas.Grind.{div_ceil_times}
use Rattle.std.proofs.lemmas.Nat.{div-mul-add, div-add-mod'}
use Rattle.std.proofs.Math.Nat.{div-div-eq-div-mul, div-le_self, mod-lt, zero-div, zero-mod}
use Rattle.apl_scalar.specs.Arithmetic.{floor_quotient}

-- rounding down by one natural number and then by another is rounding down by their product
pub floor_twice : (b : ℤ) (m n : ℕ) → floor_quotient (floor_quotient b (pos m)) (pos n) ≡ floor_quotient b (pos (m * n))
floor_twice (pos b) m n = ap pos (div-div-eq-div-mul b m n)
floor_twice (negsuc b) m n = ap negsuc (div-div-eq-div-mul b m n)

-- ---- the quotient rounded down and that whose rest is not negative

-- the next number's quotient is the same or the next one
next_same : (k n : ℕ) → k % n + 1 < n → suc k / n ≡ k / n
next_same k n below =
    let e : suc k ≡ k / n * n + (k % n + 1) = omega (arith, div-add-mod' k n) in
    ap (λ x. x / n) e ∙ div-mul-add (k / n) n (k % n + 1) below

next_more : (k n : ℕ) → 0 < n → k % n + 1 ≡ n → suc k / n ≡ k / n + 1
next_more k n some full =
    let e : suc k ≡ (k / n + 1) * n + 0 = omega (arith, div-add-mod' k n) in
    ap (λ x. x / n) e ∙ div-mul-add (k / n + 1) n 0 some

exact_ceiling : (k n : ℕ) → k % n ≡ 0 → div_ceil k n ≡ k / n
exact_ceiling k n none = rw none (omega arith)

next_ceiling : (k n : ℕ) → (k % n ≡ 0 → ⊥) → div_ceil k n ≡ k / n + 1
next_ceiling k n some = omega arith

-- a number above 0, or below it and nothing is left
pub floor_above : (b a : ℤ) → pos 0 <ℤ a → floor_quotient b a ≡ int_div_euclid b a
floor_above (pos b) (pos a) above = refl
floor_above (negsuc b) (pos a) above = refl
floor_above b (negsuc a) above = absurd (omega (arith, ints))

pub floor_whole : (b a : ℤ) → a <ℤ pos 0 → int_rem_euclid b a ≡ pos 0 → floor_quotient b a ≡ int_div_euclid b a
floor_whole b (pos a) below none = absurd (omega (arith, ints))
floor_whole (pos b) (negsuc a) below none =
    let whole : b % suc a ≡ 0 = omega (arith, ints, none) in
    ap (λ q. neg_ℤ (pos q)) (exact_ceiling b (suc a) whole)
floor_whole (negsuc b) (negsuc a) below none =
    let rest = mod-lt b (let h : 0 < suc a = omega arith in h) in
    let full : b % suc a + 1 ≡ suc a = omega (arith, ints, none, rest) in
    ap pos (omega (arith, next_more b (suc a) (omega arith) full))

-- one less where something is left
pub floor_less : (b a : ℤ) → a <ℤ pos 0 → (int_rem_euclid b a ≡ pos 0 → ⊥) → floor_quotient b a ≡ int_div_euclid b a -ℤ pos 1
floor_less b (pos a) below some = absurd (omega (arith, ints))
floor_less (pos b) (negsuc a) below some =
    let rest : b % suc a ≡ 0 → ⊥ = λ e. some (ap pos e) in
    rw (next_ceiling b (suc a) rest) (omega (arith, ints))
floor_less (negsuc b) (negsuc a) below some =
    let under = mod-lt b (let h : 0 < suc a = omega arith in h) in
    let rest : suc a - 1 - b % suc a ≡ 0 → ⊥ = λ e. some (ap pos e) in
    let room : b % suc a + 1 < suc a = omega (arith, under) in
    rw (next_same b (suc a) room) (omega (arith, ints))

-- ---- the quotient is no further from 0 than the number

size_of_negative : (n : ℕ) → unsigned_abs (neg_ℤ (pos n)) ≡ n
size_of_negative zero = refl
size_of_negative (suc n) = refl

pub floor_near : (b a : ℤ) → (a ≡ pos 0 → ⊥) → unsigned_abs (floor_quotient b a) ≤ unsigned_abs b
floor_near b (pos zero) some = absurd (some refl)
floor_near (pos b) (pos (suc a)) some = div-le_self b (suc a)
floor_near (pos b) (negsuc a) some = rw size_of_negative (omega (arith, div-add-mod' b (suc a)))
floor_near (negsuc b) (pos (suc a)) some = let h = div-le_self b (suc a) in omega arith
floor_near (negsuc b) (negsuc a) some = div-le_self (suc b) (suc a)

pub above_zero : (a : ℤ) → (a ≡ pos 0 → ⊥) → pos 0 ≤ℤ a → pos 0 <ℤ a
above_zero (pos zero) some natural = absurd (some refl)
above_zero (pos (suc a)) some natural = omega (arith, ints)
above_zero (negsuc a) some natural = absurd (omega (arith, ints))

-- ---- quotients that are divided further

-- its negative is that of the number turned round, and rounded up
turned_up : (b m : ℕ) → (suc b + m) / suc m ≡ suc (b / suc m)
turned_up b m =
    let rest = mod-lt b (let h : 0 < suc m = omega arith in h) in
    let e : suc b + m ≡ (b / suc m + 1) * suc m + b % suc m = omega (arith, div-add-mod' b (suc m)) in
    ap (λ x. x / suc m) e ∙ div-mul-add (b / suc m + 1) (suc m) (b % suc m) rest ∙ add-one (b / suc m)

within_one : (b m : ℕ) → b < m → b / m ≡ 0
within_one b m below = ap (λ x. x / m) (omega arith) ∙ div-mul-add 0 m b below

floor_turned : (y z : ℤ) (m : ℕ) → y +ℤ z ≡ pos m → floor_quotient z (pos (suc m)) ≡ neg_ℤ (floor_quotient y (pos (suc m)))
floor_turned (pos a) (pos b) m sum =
    rw (within_one a (suc m) (omega (arith, ints, sum)), within_one b (suc m) (omega (arith, ints, sum))) refl
floor_turned (pos a) (negsuc b) m sum =
    let e : a ≡ suc b + m = omega (arith, ints, sum) in
    rw (e, turned_up b m) refl
floor_turned (negsuc a) (pos b) m sum =
    let e : b ≡ suc a + m = omega (arith, ints, sum) in
    rw (e, turned_up a m) refl
floor_turned (negsuc a) (negsuc b) m sum = absurd (omega (arith, ints, sum))

pub floor_negated : (y z d : ℤ) → pos 0 <ℤ d → y +ℤ z +ℤ pos 1 ≡ d → floor_quotient z d ≡ neg_ℤ (floor_quotient y d)
floor_negated y z (pos zero) above sum = absurd (omega (arith, ints))
floor_negated y z (pos (suc m)) above sum = floor_turned y z m (omega (arith, ints, sum))
floor_negated y z (negsuc m) above sum = absurd (omega (arith, ints))

from_ceiling : (b c m : ℕ) → suc b ≤ c * m → c * m < suc b + m → c ≡ suc (b / m)
from_ceiling b zero m least most = absurd (omega arith)
from_ceiling b (suc q) m least most =
    let e : b ≡ q * m + (b - q * m) = omega arith in
    let rest : b - q * m < m = omega arith in
    ap suc (sym (div-mul-add q m (b - q * m) rest) ∙ ap (λ x. x / m) (sym e))

-- by a negative number it is that of the negative
pub floor_by_negative : (y : ℤ) (m : ℕ) → floor_quotient y (negsuc m) ≡ floor_quotient (neg_ℤ y) (pos (suc m))
floor_by_negative (pos zero) m = rw (zero-div, zero-mod) refl
floor_by_negative (pos (suc b)) m =
    let ends = div_ceil_times (suc b) (suc m) (omega arith) in
    ap (λ c. neg_ℤ (pos c)) (from_ceiling b (div_ceil (suc b) (suc m)) (suc m) (omega (arith, ends.0)) (omega (arith, ends.1)))
floor_by_negative (negsuc b) m = refl

pub floor_product : (y d e : ℤ) → pos 0 <ℤ d → pos 0 <ℤ e → floor_quotient y (d *ℤ e) ≡ floor_quotient (floor_quotient y d) e
floor_product y (pos m) (pos n) some more = sym (floor_twice y m n)
floor_product y (pos m) (negsuc n) some more = absurd (omega (arith, ints))
floor_product y (negsuc m) e some more = absurd (omega (arith, ints))

-- numbers of one sign by numbers that are further from 0
pub floor_beyond : (y z : ℤ) (m n : ℕ) → unsigned_abs y < m → unsigned_abs z < n → (pos 0 ≤ℤ y → pos 0 ≤ℤ z) → (pos 0 ≤ℤ z → pos 0 ≤ℤ y)
    → floor_quotient y (pos m) ≡ floor_quotient z (pos n)
floor_beyond (pos a) (pos b) m n inside within onward back = rw (within_one a m inside, within_one b n within) refl
floor_beyond (pos a) (negsuc b) m n inside within onward back = absurd (let h = onward (omega (arith, ints)) in omega (arith, ints, h))
floor_beyond (negsuc a) (pos b) m n inside within onward back = absurd (let h = back (omega (arith, ints)) in omega (arith, ints, h))
floor_beyond (negsuc a) (negsuc b) m n inside within onward back =
    let first : a < m = omega (arith, inside) in
    let second : b < n = omega (arith, within) in
    rw (within_one a m first, within_one b n second) refl

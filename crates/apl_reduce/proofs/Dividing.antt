-- Quotients of a number or its negative, and so much added, that are divided further.
use Rattle.std.proofs.Common.{◌≡◌, ℕ, zero, suc, ◌+◌, ◌*◌, ◌^◌, ◌<◌, ◌≤◌, Bool, true, false, not, ℤ, pos, negsuc, neg_ℤ, ◌+ℤ◌, ◌-ℤ◌, ◌*ℤ◌, ◌<ℤ◌, ◌≤ℤ◌, ◌∙◌, arith}
use Rattle.std.specs.Prelude.{unsigned_abs}
use Rattle.std.specs.Int.{w128, int_min, saturate_signed}
use Rattle.std.proofs.lemmas.Int.{ints, clamps}
use Rattle.apl_array.specs.Range.{IsInRange}
use Rattle.apl_scalar.specs.Arithmetic.{floor_quotient}
use Rattle.apl_reduce.specs.Encoding.{carried}
use Rattle.apl_reduce.specs.Carrying.{signed}
use Rattle.apl_reduce.proofs.Carries.{carried_some}
use Rattle.apl_reduce.proofs.Quotients.{floor_negated, floor_product, floor_by_negative, floor_beyond}

pub negated_quotient : (is_negated : Bool) (b a d : ℤ) → pos 0 <ℤ d
    → floor_quotient (signed (not is_negated) b +ℤ (d -ℤ pos 1 -ℤ a)) d ≡ neg_ℤ (floor_quotient (signed is_negated b +ℤ a) d)
negated_quotient true b a d above = floor_negated (neg_ℤ b +ℤ a) (b +ℤ (d -ℤ pos 1 -ℤ a)) d above (omega (arith, ints))
negated_quotient false b a d above = floor_negated (b +ℤ a) (neg_ℤ b +ℤ (d -ℤ pos 1 -ℤ a)) d above (omega (arith, ints))

-- a number in the range is no further from 0 than 2 to the 63
pub signed_near : (is_negated : Bool) (b : ℤ) → IsInRange b → unsigned_abs (signed is_negated b) ≤ 2 ^ 63
signed_near true b inside = let least = inside.least in let most = inside.greatest in omega (arith, ints)
signed_near false b inside = let least = inside.least in let most = inside.greatest in omega (arith, ints)

-- a divisor past the largest is twice the one that it comes of
twice : (m n : ℕ) → m ≤ 2 ^ 65 → 2 ^ 65 < m * n → m + m ≤ m * n
twice m zero most past = absurd (omega arith)
twice m (suc zero) most past = absurd (omega arith)
twice m (suc (suc n)) most past = omega arith

far : (t a : ℤ) (m n : ℕ) → unsigned_abs t ≤ 2 ^ 63 → pos 0 ≤ℤ a → a <ℤ pos m → m + m ≤ n → 2 ^ 65 < n → unsigned_abs (t +ℤ a) < n
far t a m n near natural below more past = omega (arith, ints)

near_enough : (t a : ℤ) → unsigned_abs t ≤ 2 ^ 63 → pos 0 ≤ℤ a → unsigned_abs (t +ℤ int_min a (pos (2 ^ 63))) < 2 ^ 65
near_enough t a near natural = omega (arith, ints, clamps)

-- past the largest divisor only the sign of a number counts
pub past_largest : (t a d e : ℤ) → unsigned_abs t ≤ 2 ^ 63 → pos 0 ≤ℤ a → a <ℤ d → d ≤ℤ pos (2 ^ 65) → pos 0 <ℤ e → pos (2 ^ 65) <ℤ (d *ℤ e)
    → floor_quotient (t +ℤ int_min a (pos (2 ^ 63))) (pos (2 ^ 65)) ≡ floor_quotient (floor_quotient (t +ℤ a) d) e
past_largest t a (pos m) (pos n) near natural below most some past =
    let large : 2 ^ 65 < m * n = omega (arith, ints, past) in
    let more : m + m ≤ m * n = twice m n (omega (arith, ints, most)) large in
    floor_beyond (t +ℤ int_min a (pos (2 ^ 63))) (t +ℤ a) (2 ^ 65) (m * n) (near_enough t a near natural) (far t a m (m * n) near natural below more large)
    (λ h. omega (arith, ints, clamps, h)) (λ h. omega (arith, ints, clamps, h))
    ∙ floor_product (t +ℤ a) (pos m) (pos n) (omega (arith, ints)) some
past_largest t a (pos m) (negsuc n) near natural below most some past = absurd (omega (arith, ints, some))
past_largest t a (negsuc m) e near natural below most some past = absurd (omega (arith, ints, natural, below))

-- a product that was cut off at the ends of 128 bits
pub cut_most : (p : ℤ) → saturate_signed w128 p ≤ℤ pos (2 ^ 65) → pos 0 ≤ℤ p → saturate_signed w128 p ≡ p
cut_most (pos n) most natural = omega (arith, ints, most)
cut_most (negsuc n) most natural = absurd (omega (arith, ints, natural))

pub cut_past : (p : ℤ) → pos (2 ^ 65) <ℤ saturate_signed w128 p → pos (2 ^ 65) <ℤ p
cut_past (pos n) past = omega (arith, ints, past)
cut_past (negsuc n) past = absurd (omega (arith, ints, past))

pub product_more : (d e : ℤ) → pos 0 <ℤ d → pos 0 <ℤ e → d ≤ℤ (d *ℤ e)
product_more (pos m) (pos zero) above some = absurd (omega (arith, ints, some))
product_more (pos m) (pos (suc n)) above some = let h : m ≤ m * suc n = omega arith in omega (arith, ints, h)
product_more (pos m) (negsuc n) above some = absurd (omega (arith, ints, some))
product_more (negsuc m) e above some = absurd (omega (arith, ints, above))

-- what is carried past a negative radix, and past one above 0
pub carried_negative : (a x : ℤ) → a <ℤ pos 0 → carried a x ≡ floor_quotient (neg_ℤ x) (pos (unsigned_abs a))
carried_negative (pos n) x below = absurd (omega (arith, ints, below))
carried_negative (negsuc n) x below = carried_some (negsuc n) x (λ e. absurd (omega (arith, ints, e))) ∙ floor_by_negative x n

pub carried_natural : (a x : ℤ) → (a ≡ pos 0 → ⊥) → pos 0 ≤ℤ a → carried a x ≡ floor_quotient x (pos (unsigned_abs a))
carried_natural (pos n) x some natural = carried_some (pos n) x some
carried_natural (negsuc n) x some natural = absurd (omega (arith, ints, natural))

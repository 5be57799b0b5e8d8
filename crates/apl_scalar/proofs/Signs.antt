-- The signs of sums and differences of 64 bits that wrap.
use Rattle.std.proofs.Common.{◌≡◌, ℕ, suc, pos, negsuc, inl, inr, ◌+◌, ◌-◌, ◌*◌, ◌%◌, ◌^◌, ◌<◌, ◌≤◌, ◌+ℤ◌, ◌-ℤ◌, ℤ, FitsSigned, to_z, of_z, w64, ap, ◌∙◌, arith}
use Rattle.std.specs.Int.{bit_at}
use Rattle.std.specs.Int.Bits.{bit_and, bit_xor}
use Rattle.std.proofs.Math.Facts.{to_z-neg}
use Rattle.std.proofs.lemmas.Bool.{cases_lt}
use Rattle.std.proofs.lemmas.Int.{ints, to_z-of_z}
use Rattle.std.proofs.lemmas.Nat.Bits.{bit_at_and, bit_at_xor}

negative : (n : ℕ) → 2 ^ 63 ≤ n → n < 2 ^ 64 → to_z w64 n ≡ negsuc (2 ^ 64 - suc n)
negative n high within =
    let k = 2 ^ 64 - suc n in
    let same : n ≡ 2 ^ 64 - suc k = omega arith in
    ap (to_z w64) same ∙ to_z-neg w64 k (omega arith)

-- the number that 64 bits are, by the highest of them
signed : (n : ℕ) → n < 2 ^ 64 → to_z w64 n +ℤ pos (2 ^ 64 * bit_at n 63) ≡ pos n
signed n within =
    elim (cases_lt n (2 ^ 63)) [
      | inl low ↦ omega (arith, ints)
      | inr high ↦ omega (arith, ints, negative n high within)
    ]

-- the sum has the sign of one of the numbers
pub sum_signs : (x y s : ℕ) → x < 2 ^ 64 → y < 2 ^ 64 → s ≡ (x + y) % 2 ^ 64 → bit_and (bit_xor x s) (bit_xor y s) < 2 ^ 63 → to_z w64 s ≡ to_z w64 x +ℤ to_z w64 y
sum_signs x y s left right is low =
    let both = bit_at_and (bit_xor x s) (bit_xor y s) 63 in
    omega (arith, ints, both, bit_at_xor x s 63, bit_at_xor y s 63, signed x left, signed y right, signed s (omega arith))

-- the numbers have the same sign, or the difference has that of the left one
pub difference_signs : (x y s : ℕ) → x < 2 ^ 64 → y < 2 ^ 64 → s ≡ (x + (2 ^ 64 - y)) % 2 ^ 64 → bit_and (bit_xor x y) (bit_xor x s) < 2 ^ 63 → to_z w64 s ≡ to_z w64 x -ℤ to_z w64 y
difference_signs x y s left right is low =
    let both = bit_at_and (bit_xor x y) (bit_xor x s) 63 in
    omega (arith, ints, both, bit_at_xor x y 63, bit_at_xor x s 63, signed x left, signed y right, signed s (omega arith))

-- the bits of an argument are those of the number
pub signed_argument : (x : ℤ) (n : ℕ) → FitsSigned w64 x → n ≡ of_z w64 (to_z w64 (of_z w64 x)) → to_z w64 n ≡ x
signed_argument x n fits is =
    let read = to_z-of_z w64 x fits in
    ap (to_z w64) is ∙ ap (λ z. to_z w64 (of_z w64 z)) read ∙ read

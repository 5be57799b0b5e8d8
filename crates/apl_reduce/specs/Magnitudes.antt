-- How far numbers are from 0, and sums of them. No contract of a public function cites this file.
use Rattle.std.specs.Prelude.{◌≡◌, ℕ, zero, suc, ℤ, pos, negsuc, ◌+◌, ◌-◌, ◌*◌, ◌^◌, ◌<◌, ◌≤◌, ◌+ℤ◌, ◌*ℤ◌, List, [], ◌∷◌, unsigned_abs, max, slice_index_or}
use Rattle.apl_reduce.specs.declared.near_sums.NearSum.{NearSum}
use Rattle.apl_reduce.specs.declared.product_sums.Bounds.{Bounds}
use Rattle.apl_reduce.specs.declared.product_sums.ProductSum.{ProductSum}

-- the greatest distance from 0 among numbers, and 0 among none
abbrev pub magnitude : List ℤ → ℕ
magnitude [] = 0
magnitude (z ∷ rest) = max (unsigned_abs z) (magnitude rest)

-- the sum of the first n numbers
abbrev pub sum_of : (ℕ → ℤ) → ℕ → ℤ
sum_of number zero = pos 0
sum_of number (suc n) = sum_of number n +ℤ number n

-- the first `count` numbers are at most `most` from 0, and this is their sum
pub record IsSumNear (number : ℕ → ℤ) (most count : ℕ) (sum : ℤ) : Type 0 where
  pub near : (k : ℕ) → k < count → unsigned_abs (number k) ≤ most
  pub is : sum ≡ sum_of number count

-- the bits that 64 bits hold of a number
abbrev pub held_bits : ℤ → ℕ
held_bits (pos n) = n
held_bits (negsuc n) = 2 ^ 63 + (2 ^ 63 - suc n)

-- those of a number that is counted from the least one that is at most `near` from 0
abbrev pub above : (near : ℕ) → ℤ → ℕ
above near z = held_bits (z +ℤ pos near)

-- number k of those that are `step` apart from place `first` on
abbrev pub spaced_number : List ℤ → (first step k : ℕ) → ℤ
spaced_number numbers first step k = slice_index_or numbers (first + k * step) (pos 0)

-- a sum of such numbers, if no bit of any of them, counted from the least one that is near 0, says that one is far from 0
abbrev pub IsSum : List ℤ → (first step count : ℕ) → NearSum → Type 0
IsSum numbers first step count near = near.bits < 2 ^ 47 → IsSumNear (spaced_number numbers first step) (2 ^ 46) count near.sum

-- the product of the numbers of two lists that meet `k` after place `first`
abbrev pub meeting_product : (left right : List ℤ) → (first k : ℕ) → ℤ
meeting_product left right first k = slice_index_or left (first + k) (pos 0) *ℤ slice_index_or right (first + k) (pos 0)

-- a sum of such products, if so many of numbers within these bounds stay in the range, and no bits say that a number is farther from 0
abbrev pub IsProductSum : (left right : List ℤ) → Bounds → (first count : ℕ) → ProductSum → Type 0
IsProductSum left right near first count s =
    near.left * near.right * count < 2 ^ 63 → s.left < 2 * near.left → s.right < 2 * near.right
    → IsSumNear (meeting_product left right first) (near.left * near.right) count s.sum

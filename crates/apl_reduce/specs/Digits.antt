-- Digits by radices and the value of digits, as relations between whole numbers.
use Rattle.std.specs.Prelude.{◌≡◌, ◌≢◌, ◌⊎◌, ℕ, ◌+◌, ◌<◌, ◌≤◌, ℤ, pos, ◌+ℤ◌, ◌*ℤ◌, List, map, length, take, drop, slice_index_or, unsigned_abs, false}
use Rattle.std.specs.List.{range_with_len}
use Rattle.std.specs.Int.{int_signum}
use Rattle.apl_array.specs.declared.array.Elem.TheVariants.{Int}
use Rattle.apl_array.specs.Range.{in_range}
use Rattle.apl_pool.specs.declared.kernel.Fault.TheVariants.{Limit}
use Rattle.apl_scalar.specs.Arithmetic.{residue}
use Rattle.apl_summary.specs.ConsecutiveSums.{total}
use Rattle.apl_reduce.specs.Decoding.{product, decoded}
use Rattle.apl_reduce.specs.Encoding.{carry_past}
use Rattle.apl_reduce.specs.Refusals.{IsRefusedOr}

-- ---- A⊤B

-- 0, or of the radix' sign and a smaller magnitude
abbrev pub IsDigitBy : ℤ → ℤ → Type 0
IsDigitBy radix digit = (digit ≡ pos 0) ⊎ ((int_signum digit ≡ int_signum radix) × (unsigned_abs digit < unsigned_abs radix))

-- The digit at each radix, and what is carried before each radix and, last, before the end. The last carry is the number, and each carry is
-- the one before it times the radix plus the digit. Before radix 0 nothing is carried.
pub record AreDigitsOf (number : ℤ) (radices : List ℤ) (digit carry : ℕ → ℤ) : Type 0 where
  pub last : carry (length radices) ≡ number
  pub step : (k : ℕ) → k < length radices → carry (k + 1) ≡ carry k *ℤ slice_index_or radices k (pos 0) +ℤ digit k
  pub small : (k : ℕ) → k < length radices → slice_index_or radices k (pos 0) ≢ pos 0 → IsDigitBy (slice_index_or radices k (pos 0)) (digit k)
  pub none : (k : ℕ) → k < length radices → slice_index_or radices k (pos 0) ≡ pos 0 → carry k ≡ pos 0

-- the digit at radix k, as an exact number, and what is carried before radix k
abbrev pub exact_digit : List ℤ → ℤ → ℕ → ℤ
exact_digit radices b k = residue (slice_index_or radices k (pos 0)) (carry_past (drop (k + 1) radices) b)

abbrev pub exact_carry : List ℤ → ℤ → ℕ → ℤ
exact_carry radices b k = carry_past (drop k radices) b

-- the number has these digits by these radices, and this is what is carried
abbrev pub HasDigits : ℤ → List ℤ → List ℤ → (carry : ℕ → ℤ) → Type 0
HasDigits number radices digits carry = AreDigitsOf number radices (λ k. slice_index_or digits k (pos 0)) carry

-- ---- A⊥B

-- each digit times the product of the radices after its own
abbrev pub place_values : List ℤ → List ℤ → List ℤ
place_values radices digits = map (λ k. slice_index_or digits k (pos 0) *ℤ product (drop (k + 1) radices)) (range_with_len 0 (length digits))

-- the sum of the place values
abbrev pub place_sum : List ℤ → List ℤ → ℤ
place_sum radices digits = total (place_values radices digits)

-- the value of some first digits of n is outside the range
abbrev pub HasFrontOutside : ℕ → List ℤ → List ℤ → Type 0
HasFrontOutside n radices digits = (k : ℕ) × (k ≤ n) × (in_range (place_sum (take k radices) (take k digits)) ≡ false)

-- the value of n digits is the sum of the place values, or `Limit` exactly if that of some first digits is outside the range
abbrev pub DecodesExactly : ℕ → List ℤ → List ℤ → Type 0
DecodesExactly n radices digits = IsRefusedOr Limit (HasFrontOutside n radices digits) (Int (place_sum radices digits)) (decoded n radices digits)

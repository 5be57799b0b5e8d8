-- What radices carry, as one division. No contract of a public function cites this file.
use Rattle.std.specs.Prelude.{◌≡◌, ℕ, ℤ, pos, neg_ℤ, ◌+◌, ◌+ℤ◌, ◌/◌, ◌%◌, List, length, drop, Result, slice_index_or, Bool, true, int_lt, if◌then◌else◌}
use Rattle.apl_array.specs.declared.array.Elem.{Elem}
use Rattle.apl_array.specs.Range.{IsInRange}
use Rattle.apl_pool.specs.declared.kernel.Fault.{Fault}
use Rattle.apl_scalar.specs.Arithmetic.{floor_quotient, residue}
use Rattle.apl_scalar.specs.Scalar.{exact, as_element}
use Rattle.apl_reduce.specs.declared.carry_divisor.CarryDivisor.{CarryDivisor}
use Rattle.apl_reduce.specs.declared.carry_divisor.CarryDivisor.TheVariants.{Nothing, Product, Rounded}
use Rattle.apl_reduce.specs.declared.quotient.Quotient.{Quotient}
use Rattle.apl_reduce.specs.Encoding.{carry_past}

-- the digit at radix k, as a number
abbrev pub digit_number : List ℤ → ℕ → ℤ → Result ℤ Fault
digit_number radices k b = exact (residue (slice_index_or radices k (pos 0)) (carry_past (drop (k + 1) radices) b))

-- that digit at the place of a radix and a number, the numbers varying fastest
abbrev pub digit_in : List ℤ → List ℤ → ℕ → Result Elem Fault
digit_in radices numbers place = as_element (digit_number radices (place / length numbers) (slice_index_or numbers (place % length numbers) (pos 0)))

-- a number or its negative
abbrev pub signed : Bool → ℤ → ℤ
signed is_negated b = if is_negated then neg_ℤ b else b

-- the quotient of a number or its negative, and so much added, rounded down
abbrev pub quotient_of : Quotient → ℤ → ℤ
quotient_of q b = floor_quotient (signed q.is_negated b +ℤ q.added) q.divisor

-- what is carried of a number
abbrev pub carry_by : CarryDivisor → ℤ → ℤ
carry_by Nothing b = pos 0
carry_by (Product p) b = floor_quotient b p
carry_by (Rounded q) b = quotient_of q b

-- a product that numbers are divided by is above 0
abbrev pub is_above_zero : CarryDivisor → Bool
is_above_zero Nothing = true
is_above_zero (Product p) = int_lt (pos 0) p
is_above_zero (Rounded q) = true

-- it carries what these radices carry, of each number in the range
pub record StandsFor (behind : CarryDivisor) (radices : List ℤ) : Type 0 where
  pub above : is_above_zero behind ≡ true
  pub carries : (b : ℤ) → IsInRange b → carry_by behind b ≡ carry_past radices b

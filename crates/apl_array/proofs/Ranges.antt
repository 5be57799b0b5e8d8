-- The range is what 64 signed bits hold, and the test tells it.
use Rattle.std.proofs.Common.{◌≡◌, ℤ, true, arith}
use Rattle.std.proofs.lemmas.Bool.{and_parts}
use Rattle.std.proofs.lemmas.Int.{ints}
use Rattle.std.specs.Prelude.{FitsSigned, int_le}
use Rattle.std.specs.Int.{w64}
use Rattle.apl_array.specs.Range.{IsInRange, in_range, least_number, greatest_number}

pub FitsSigned-from_IsInRange : (z : ℤ) → IsInRange z → FitsSigned w64 z
FitsSigned-from_IsInRange z h = search (arith, ints)

pub IsInRange-from_FitsSigned : (z : ℤ) → FitsSigned w64 z → IsInRange z
IsInRange-from_FitsSigned z h = record { least = omega (arith, ints); greatest = omega (arith, ints) }

pub in_range-from_IsInRange : (z : ℤ) → IsInRange z → in_range z ≡ true
in_range-from_IsInRange z h = grind (arith, ints)

pub IsInRange-from_in_range : (z : ℤ) → in_range z ≡ true → IsInRange z
IsInRange-from_in_range z h =
    let both = and_parts (int_le least_number z) (int_le z greatest_number) h in
    record { least = grind (arith, ints); greatest = grind (arith, ints) }

-- The range of the numbers.
use Rattle.std.specs.Prelude.{◌-◌, ◌^◌, Bool, ◌&&◌, ℤ, pos, neg_ℤ, ◌≤ℤ◌, int_le, List, All}
use Rattle.apl_array.specs.declared.array.Elem.{Elem}
use Rattle.apl_array.specs.declared.array.Elem.TheVariants.{Int, Chr}
use Rattle.apl_array.specs.Array.{ArrayValue}

-- -2^63
abbrev pub least_number : ℤ
least_number = neg_ℤ (pos (2 ^ 63))

-- 2^63 - 1
abbrev pub greatest_number : ℤ
greatest_number = pos (2 ^ 63 - 1)

-- a whole number from the least to the greatest
pub record IsInRange (z : ℤ) : Type 0 where
  pub least : least_number ≤ℤ z
  pub greatest : z ≤ℤ greatest_number

-- the test of it
abbrev pub in_range : ℤ → Bool
in_range z = int_le least_number z && int_le z greatest_number

-- each of the numbers is in the range
abbrev pub AreInRange : List ℤ → Type 0
AreInRange numbers = All IsInRange numbers

-- a number in the range, or a character
abbrev pub IsElementInRange : Elem → Type 0
IsElementInRange (Int z) = IsInRange z
IsElementInRange (Chr c) = Unit {0}

-- each number of the array is in the range
abbrev pub HasNumbersInRange : ArrayValue → Type 0
HasNumbersInRange a = All IsElementInRange a.ravel

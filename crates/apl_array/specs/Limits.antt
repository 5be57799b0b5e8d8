-- The limits of arrays.
use Rattle.std.specs.Prelude.{◌≡◌, length}
use Rattle.apl_array.specs.Shape.{IsShape, count_of}
use Rattle.apl_array.specs.Array.{ArrayValue}
use Rattle.apl_array.specs.Range.{HasNumbersInRange}

-- an array of a lawful shape, with as many elements as that says, whose numbers are in the range
pub record IsWithinLimits (a : ArrayValue) : Type 0 where
  pub shape : IsShape a.shape
  pub len : length a.ravel ≡ count_of a.shape
  pub numbers : HasNumbersInRange a

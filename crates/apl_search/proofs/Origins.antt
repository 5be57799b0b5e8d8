-- The number of the first index, cast.
use Rattle.std.proofs.Common.{◌≡◌, ℤ, pos, to_z, of_z, w64, refl}
use Rattle.std.specs.Prelude.{unsigned_abs}
use Rattle.apl_array.specs.declared.axis.Origin.{Origin}
use Rattle.apl_array.specs.declared.axis.Origin.TheVariants.{Zero, One}
use Rattle.apl_array.specs.Axes.{origin_number}

pub origin_cast : (origin : Origin) (number : ℤ) → number ≡ pos (origin_number origin) → unsigned_abs (to_z w64 (of_z w64 number)) ≡ origin_number origin
origin_cast Zero number is = rw is refl
origin_cast One number is = rw is refl

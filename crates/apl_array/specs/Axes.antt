-- An axis argument, and the axis that it names among `rank` axes, counted from 0.
use Rattle.std.specs.Prelude.{ℕ, ℤ, pos, negsuc, ◌-ℤ◌, ◌-◌, Bool, true, false, nat_lt}
use Rattle.apl_array.specs.declared.axis.Axis.{Axis}
use Rattle.apl_array.specs.declared.axis.Axis.TheVariants.{First, Last, At}
use Rattle.apl_array.specs.declared.axis.Origin.{Origin}
use Rattle.apl_array.specs.declared.axis.Origin.TheVariants.{Zero, One}

-- the number of the first index
abbrev pub origin_number : Origin → ℕ
origin_number Zero = 0
origin_number One = 1

-- a number less the origin, exactly: it is a place only if it is not negative
abbrev pub from_origin : Origin → ℤ → ℤ
from_origin origin number = number -ℤ pos (origin_number origin)

-- the place that a number is, and 0 for a negative one
abbrev pub place_number : ℤ → ℕ
place_number (pos n) = n
place_number (negsuc n) = 0

-- the number is a place below n
abbrev pub is_below : ℕ → ℤ → Bool
is_below n (pos place) = nat_lt place n
is_below n (negsuc place) = false

-- the axis exists. The first and the last always do: a scalar has them, as axis 0
abbrev pub has_axis : Axis → ℕ → Bool
has_axis First rank = true
has_axis Last rank = true
has_axis (At number origin) rank = is_below rank (from_origin origin number)

-- which axis it is, counted from 0. The first and the last of a scalar are 0
abbrev pub axis_of : Axis → ℕ → ℕ
axis_of First rank = 0
axis_of Last rank = rank - 1
axis_of (At number origin) rank = place_number (from_origin origin number)

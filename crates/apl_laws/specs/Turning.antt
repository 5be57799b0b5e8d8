-- Rotations that undo each other, and axes in reverse order.
use Rattle.std.specs.Prelude.{neg_ℤ, map}
use Rattle.apl_array.specs.declared.array.Elem.TheVariants.{Int}
use Rattle.apl_array.specs.declared.array.Kind.TheVariants.{Number}
use Rattle.apl_array.specs.declared.axis.Axis.TheVariants.{Last}
use Rattle.apl_array.specs.declared.axis.Origin.{Origin}
use Rattle.apl_array.specs.Array.{ArrayValue}
use Rattle.apl_answer.specs.Arguments.{number_of}
use Rattle.apl_struct.specs.Building.{shape_of_row, iota_row}
use Rattle.apl_struct.specs.Rearranging.{reverse_row}
use Rattle.apl_laws.specs.Giving.{Gives}

-- the numbers of an array with the opposite sign, exactly
abbrev pub opposite : ArrayValue → ArrayValue
opposite a = record { shape = a.shape; kind = Number; ravel = map (λ x. Int (neg_ℤ (number_of x))) a.ravel }

-- these are `⌽⍳⍴⍴B`, the axes of B in reverse order
pub record AreReversedAxes (b : ArrayValue) (origin : Origin) (axes : ArrayValue) : Type 0 where
  pub shape : ArrayValue
  pub rank : ArrayValue
  pub indexes : ArrayValue
  pub is_shape : Gives (shape_of_row b) shape
  pub is_rank : Gives (shape_of_row shape) rank
  pub is_indexes : Gives (iota_row rank origin) indexes
  pub is_axes : Gives (reverse_row indexes Last) axes

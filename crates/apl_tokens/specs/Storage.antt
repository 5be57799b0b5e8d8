-- The array of a stored constant. No contract of a public function cites this file.
use Rattle.std.specs.Prelude.{[], ◌∷◌}
use Rattle.apl_array.specs.Array.{ArrayValue, number_array}
use Rattle.apl_tokens.specs.declared.token.ConstantStorage.{ConstantStorage}
use Rattle.apl_tokens.specs.declared.token.ConstantStorage.TheVariants.{Number, Shared}

abbrev pub array_of : ConstantStorage → ArrayValue
array_of (Number number) = number_array [] (number ∷ [])
array_of (Shared array) = array.value

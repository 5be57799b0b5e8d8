-- The numbers by which elements are found. No contract of a public function cites this file.
use Rattle.std.specs.Prelude.{ℤ, pos, List, map}
use Rattle.apl_array.specs.declared.array.Elements.{Elements}
use Rattle.apl_array.specs.declared.array.Elements.TheVariants.{Numbers, Narrow, Truths, Characters}
use Rattle.apl_array.specs.Array.{bit}

-- a number by itself, a truth value by 1 or 0, a character by its code
abbrev pub keys_in : Elements → List ℤ
keys_in (Numbers numbers) = numbers.now
keys_in (Narrow numbers) = numbers.now
keys_in (Truths truths) = map bit truths.now
keys_in (Characters characters) = map pos characters.now

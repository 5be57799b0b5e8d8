-- What an array lends: its elements in row order, as they are held.
use Rattle.std.specs.Prelude.{◌≡◌}
use Rattle.apl_array.specs.declared.array.Elements.{Elements}
use Rattle.apl_array.specs.declared.array.Elements.TheVariants.{Numbers, Narrow, Truths, Characters}
use Rattle.apl_array.specs.Array.{ArrayValue, number_array, truth_array, character_array}

-- these are the elements of the array
abbrev pub AreElementsOf : ArrayValue → Elements → Type 0
AreElementsOf a (Numbers numbers) = a ≡ number_array a.shape numbers.now
AreElementsOf a (Narrow numbers) = a ≡ number_array a.shape numbers.now
AreElementsOf a (Truths truths) = a ≡ truth_array a.shape truths.now
AreElementsOf a (Characters characters) = a ≡ character_array a.shape characters.now

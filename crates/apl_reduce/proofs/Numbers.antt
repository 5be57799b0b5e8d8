-- The numbers of arguments.
use Rattle.std.proofs.Common.{◌≡◌, ℤ, List, [], ◌∷◌, length, map, refl, sym, ap, ◌∙◌}
use Rattle.std.proofs.lemmas.List.{length-map}
use Rattle.apl_array.specs.declared.array.Elem.TheVariants.{Int}
use Rattle.apl_array.specs.Array.{ArrayValue, IsArray, number_array}
use Rattle.apl_array.specs.Shape.{count_of}
use Rattle.apl_answer.specs.Arguments.{number_of}

pub numbers_of_numbers : (numbers : List ℤ) → map number_of (map Int numbers) ≡ numbers
numbers_of_numbers [] = refl
numbers_of_numbers (n ∷ ns) = ap (λ l. n ∷ l) (numbers_of_numbers ns)

-- as many numbers as the shape says
pub count_of_numbers : (a : ArrayValue) (numbers : List ℤ) → IsArray a → a ≡ number_array a.shape numbers → length numbers ≡ count_of a.shape
count_of_numbers a numbers array is = sym (length-map numbers Int) ∙ ap (λ v. length v.ravel) (sym is) ∙ array.len

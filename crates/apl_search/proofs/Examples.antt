-- Short names for the arrays of the worked examples.
use Rattle.std.proofs.Common.{ℕ, ℤ, pos, List, [], ◌∷◌, length, map}
use Rattle.apl_array.specs.Array.{ArrayValue, number_array, character_array}
pub mod Searching
pub mod Ordering

-- numbers from 0 up
abbrev pub numbers : List ℕ → List ℕ → ArrayValue
numbers shape ns = number_array shape (map pos ns)

abbrev pub vector : List ℕ → ArrayValue
vector ns = numbers (length ns ∷ []) ns

abbrev pub scalar : ℕ → ArrayValue
scalar n = numbers [] (n ∷ [])

-- any numbers
abbrev pub integers : List ℤ → ArrayValue
integers ns = number_array (length ns ∷ []) ns

-- characters by their code points
abbrev pub text : List ℕ → ArrayValue
text cs = character_array (length cs ∷ []) cs

abbrev pub letter : ℕ → ArrayValue
letter c = character_array [] (c ∷ [])

abbrev pub two_by_three : ArrayValue
two_by_three = numbers (2 ∷ 3 ∷ []) (1 ∷ 2 ∷ 3 ∷ 4 ∷ 5 ∷ 6 ∷ [])

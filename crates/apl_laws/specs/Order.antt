-- Numbers in order.
use Rattle.std.specs.Prelude.{ℕ, ℤ, pos, ◌+◌, ◌<◌, ◌≤ℤ◌, List, length, slice_index_or, IsPermutation}
use Rattle.apl_array.specs.Array.{ArrayValue}
use Rattle.apl_answer.specs.Arguments.{numbers_of}

-- each number is at most the next
abbrev pub IsAscending : List ℤ → Type 0
IsAscending numbers = (i : ℕ) → i + 1 < length numbers → slice_index_or numbers i (pos 0) ≤ℤ slice_index_or numbers (i + 1) (pos 0)

-- each number is at least the next
abbrev pub IsDescending : List ℤ → Type 0
IsDescending numbers = (i : ℕ) → i + 1 < length numbers → slice_index_or numbers (i + 1) (pos 0) ≤ℤ slice_index_or numbers i (pos 0)

-- the second array has the numbers of the first, in whatever order
abbrev pub IsPermutationOf : ArrayValue → ArrayValue → Type 0
IsPermutationOf a b = IsPermutation (numbers_of a) (numbers_of b)

-- Rows of items folded onto what those after them gave. No contract of a public function cites this file.
use Rattle.std.specs.Prelude.{◌≡◌, ℕ, ℤ, pos, ◌+◌, ◌^◌, ◌≤◌, List, length, Ok, slice_index_or, unsigned_abs}
use Rattle.apl_array.specs.declared.array.Elem.{Elem}
use Rattle.apl_array.specs.declared.array.Elem.TheVariants.{Int}
use Rattle.apl_array.specs.declared.function.ScalarFunction.{ScalarFunction}
use Rattle.apl_pool.specs.Runs.{AreWritten}
use Rattle.apl_scalar.specs.Scalar.{dyadic_of}
use Rattle.apl_reduce.specs.Folded.{folded_onto, element_along}

-- `count` items at each of neighbouring places from `first` on are folded onto the old total there
abbrev pub AreFoldedOnto : ScalarFunction → List Elem → (first stride count : ℕ) → (old new : List ℤ) → Type 0
AreFoldedOnto f elements first stride count old new =
    AreWritten (λ j. folded_onto f (element_along elements (first + j) stride) 0 count (Ok (slice_index_or old j (pos 0)))) 0 (length old) new

-- the function gives this of a number and a total, and it is at most 2 ^ 46 farther from 0 than the total
abbrev pub IsNearStep : ScalarFunction → (number total result : ℤ) → Type 0
IsNearStep f number total result = (dyadic_of f (Int number) (Int total) ≡ Ok result) × (unsigned_abs result ≤ unsigned_abs total + 2 ^ 46)

-- Truth values in lines of neighbours. No contract of a public function cites this file.
use Rattle.std.specs.Prelude.{◌≡◌, ℕ, ◌+◌, ◌*◌, ◌<◌, ◌≤◌, ℤ, pos, neg_ℤ, ◌-ℤ◌, ◌≤ℤ◌, Bool, true, false, not, ◌&&◌, ◌||◌, List, map, length, slice_index_or, Ok}
use Rattle.apl_array.specs.declared.function.ScalarFunction.{ScalarFunction}
use Rattle.apl_array.specs.Array.{bit}
use Rattle.apl_pool.specs.Pool.{AreValues}
use Rattle.apl_scalar.specs.Scalar.{dyadic_numbers}
use Rattle.apl_summary.specs.Fronts.{IsBoundedSum}
use Rattle.apl_scan.specs.Lines.{scan_at}

-- the numbers that truth values fold to up to each place, in lines of `items`
abbrev pub AreTruthScans : ScalarFunction → List Bool → (items : ℕ) → List ℤ → Type 0
AreTruthScans f truths items numbers = AreValues (scan_at (dyadic_numbers f) (map bit truths) items 1) (length truths) numbers

-- ---- joined by "and" or "or"

-- two truth values joined by "and", whose lines are ended by false, or by "or", whose lines are ended by true
abbrev pub join : Bool → Bool → Bool → Bool
join false x y = x && y
join true x y = x || y

-- of truth values the function is the one whose lines have this end
abbrev pub IsEndOf : ScalarFunction → Bool → Type 0
IsEndOf f end = (x y : Bool) → dyadic_numbers f (bit x) (bit y) ≡ Ok (bit (join end x y))

-- what is joined of the line of `items` truth values from place `first` on: the end from the first one on that is the end, and the other
-- value before it
pub record IsEnded (end : Bool) (truths : List Bool) (first items : ℕ) (values : List Bool) : Type 0 where
  pub before : (k : ℕ) (d : Bool) → k < items → ((j : ℕ) → j ≤ k → slice_index_or truths (first + j) false ≡ not end) → slice_index_or values (first + k) d ≡ not end
  pub after : (j k : ℕ) (d : Bool) → j ≤ k → k < items → slice_index_or truths (first + j) false ≡ end → slice_index_or values (first + k) d ≡ end

-- of each line before a number of them
abbrev pub AreEnded : Bool → List Bool → (items lines : ℕ) → List Bool → Type 0
AreEnded end truths items lines values = (line : ℕ) → line < lines → IsEnded end truths (line * items) items values

-- ---- added, or taken from one another in turn

-- The sum of truth values, as numbers, or their alternating sum. It is no greater than their count, so a number after them is refused by no
-- end of them where it leaves room for as many
pub record IsTruthSum (is_plus is_negated : Bool) (total : ℤ) (bits : List ℤ) : Type 0 where
  pub least : neg_ℤ (pos (length bits)) ≤ℤ total
  pub greatest : total ≤ℤ pos (length bits)
  pub sum : IsBoundedSum is_plus is_negated total (pos 4611686018427387904 -ℤ pos (length bits)) bits

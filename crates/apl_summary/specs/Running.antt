-- Numbers after others, each folded with all before it.
use Rattle.std.specs.Prelude.{◌≡◌, ℕ, ◌<◌, ℤ, pos, List, [], ◌++◌, length, take, Option, Some, None, Result, Ok, slice_index_or}
use Rattle.apl_pool.specs.declared.kernel.Fault.{Fault}
use Rattle.apl_pool.specs.Summaries.{fold_onto, IsSummaryOf}

-- the fold of all numbers up to each of the first `count`, after those that are before them
abbrev pub AreFoldsBehind : (ℤ → ℤ → Result ℤ Fault) → (before numbers : List ℤ) → (count : ℕ) → (values : List ℤ) → Type 0
AreFoldsBehind step before numbers count values = (k : ℕ) (d : ℤ) → k < count → fold_onto step (before ++ take k numbers) (slice_index_or numbers k (pos 0)) ≡ Ok (slice_index_or values k d)

-- the new values are the old ones, and after these the folds of all numbers up to each of the first
pub record HasFoldsAppended (step : ℤ → ℤ → Result ℤ Fault) (numbers old new : List ℤ) : Type 0 where
  pub folds : List ℤ
  pub values : new ≡ old ++ folds
  pub are : AreFoldsBehind step [] numbers (length folds) folds

-- a summary of these numbers, or none if there is no number
abbrev pub IsSummaryOrNone : {S : Type 0} → (ℤ → ℤ → Result ℤ Fault) → (item_count : S → ℕ) → (outcome : S → ℤ → Result ℤ Fault) → List ℤ → Option S → Type 0
IsSummaryOrNone step item_count outcome numbers (Some s) = IsSummaryOf step item_count outcome s numbers
IsSummaryOrNone step item_count outcome numbers None = numbers ≡ []

-- The first `count` values are the folds of all numbers up to each of these. The summary, if there is one, is of the numbers before them
abbrev pub AreFoldsAfter : {S : Type 0} → (ℤ → ℤ → Result ℤ Fault) → (item_count : S → ℕ) → (outcome : S → ℤ → Result ℤ Fault) → Option S → (numbers : List ℤ) → (count : ℕ) → (values : List ℤ) → Type 0
AreFoldsAfter step item_count outcome summary numbers count values = (before : List ℤ) → IsSummaryOrNone step item_count outcome before summary → AreFoldsBehind step before numbers count values

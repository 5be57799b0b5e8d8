-- Totals of columns of numbers near 0. No contract of a public function cites this file.
use Rattle.std.specs.Prelude.{◌≡◌, ℕ, ◌+◌, ◌-◌, ◌*◌, ◌%◌, ◌<◌, Bool, not, ◌&&◌, nat_eq, ℤ, pos, neg_ℤ, ◌-ℤ◌, ◌≤ℤ◌, List, [], ◌∷◌, ◌++◌, length, Ok, slice_index_or}
use Rattle.apl_pool.specs.Summaries.{fold_onto}
use Rattle.apl_scalar.specs.Scalar.{dyadic_numbers}
use Rattle.apl_summary.specs.Constants.{signed_function}
use Rattle.apl_summary.specs.Fronts.{IsBoundedSum}

-- whether the number after `count` numbers is taken from their total
abbrev pub sign_after : (is_plus : Bool) → (count : ℕ) → Bool
sign_after is_plus count = not is_plus && nat_eq (count % 2) 1

-- the total of numbers, each within 2 ^ 32 either way
pub record IsNearTotal (is_plus : Bool) (total : ℤ) (numbers : List ℤ) : Type 0 where
  pub sum : IsBoundedSum is_plus (sign_after is_plus (length numbers)) total (pos 9223372036854775807 -ℤ pos (length numbers * 4294967296)) numbers
  pub least : neg_ℤ (pos (length numbers * 4294967296)) ≤ℤ total
  pub greatest : total ≤ℤ pos (length numbers * 4294967296)

-- the value is the fold of the numbers before a place and the one there, which are near 0
pub record IsNearFold (is_plus : Bool) (before : ℕ → List ℤ) (numbers : List ℤ) (place : ℕ) (value : ℤ) : Type 0 where
  pub fold : fold_onto (dyadic_numbers (signed_function is_plus)) (before place) (slice_index_or numbers place (pos 0)) ≡ Ok value
  pub total : IsNearTotal is_plus value (before place ++ slice_index_or numbers place (pos 0) ∷ [])

-- the first `count` values are such folds
abbrev pub AreNearFolds : (is_plus : Bool) → (before : ℕ → List ℤ) → (numbers : List ℤ) → (count : ℕ) → (values : List ℤ) → Type 0
AreNearFolds is_plus before numbers count values = (place : ℕ) (d : ℤ) → place < count → IsNearFold is_plus before numbers place (slice_index_or values place d)

-- `count` numbers are before each place of the row that begins at place `start`, and the last of them is in the row before it
pub record IsRow (before : ℕ → List ℤ) (numbers : List ℤ) (start inner count : ℕ) : Type 0 where
  pub counted : (c : ℕ) → c < inner → length (before (start + c)) ≡ count
  pub goes_on : (c : ℕ) → c < inner → 0 < count → before (start + c) ≡ before (start + c - inner) ++ slice_index_or numbers (start + c - inner) (pos 0) ∷ []

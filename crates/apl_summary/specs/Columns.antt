-- Numbers in rows, folded along their columns. A block of `items` rows after another has columns of its own.
use Rattle.std.specs.Prelude.{◌≡◌, ℕ, zero, suc, ◌+◌, ◌-◌, ◌*◌, ◌/◌, ◌%◌, ◌<◌, ◌≤◌, ℤ, pos, List, [], ◌∷◌, ◌++◌, length, Result, Ok, slice_index_or}
use Rattle.apl_pool.specs.declared.kernel.Fault.{Fault}
use Rattle.apl_pool.specs.Summaries.{fold_onto}

-- `count` numbers that are `inner` apart, from place `first` on
abbrev pub column : List ℤ → (first inner count : ℕ) → List ℤ
column numbers first inner zero = []
column numbers first inner (suc n) = slice_index_or numbers first (pos 0) ∷ column numbers (first + inner) inner n

-- the numbers of its column before a place, in a row of `inner` numbers
abbrev pub column_before : List ℤ → (items inner place : ℕ) → List ℤ
column_before numbers items inner place =
    let rows = place / inner % items in
    column numbers (place - rows * inner) inner rows

-- the first `count` values are the folds of the numbers before each place and the one there
abbrev pub ArePlaceFolds : (ℤ → ℤ → Result ℤ Fault) → (before : ℕ → List ℤ) → (numbers : List ℤ) → (count : ℕ) → (values : List ℤ) → Type 0
ArePlaceFolds step before numbers count values = (place : ℕ) (d : ℤ) → place < count → fold_onto step (before place) (slice_index_or numbers place (pos 0)) ≡ Ok (slice_index_or values place d)

-- the first `count` values are the folds of each place's column up to the place
abbrev pub AreColumnFolds : (ℤ → ℤ → Result ℤ Fault) → (numbers : List ℤ) → (items inner count : ℕ) → (values : List ℤ) → Type 0
AreColumnFolds step numbers items inner count values = ArePlaceFolds step (column_before numbers items inner) numbers count values

-- each front is of the numbers before its place in the row that begins at place `start`
abbrev pub AreFrontsAt : {S : Type 0} → (is_of : S → List ℤ → Type 0) → (before : ℕ → List ℤ) → (start : ℕ) → (fronts : List S) → Type 0
AreFrontsAt is_of before start fronts = (c : ℕ) (d : _) → c < length fronts → is_of (slice_index_or fronts c d) (before (start + c))

-- the fronts of the first `done` columns are of the number of the row too
pub record AreFrontsInRow {S : Type 0} (is_of : S → List ℤ → Type 0) (before : ℕ → List ℤ) (numbers : List ℤ) (start done : ℕ) (fronts : List S) : Type 0 where
  pub past : (c : ℕ) (d : S) → c < done → is_of (slice_index_or fronts c d) (before (start + c) ++ slice_index_or numbers (start + c) (pos 0) ∷ [])
  pub ahead : (c : ℕ) (d : S) → done ≤ c → c < length fronts → is_of (slice_index_or fronts c d) (before (start + c))

-- The right fold of items onto a number that comes in from the right, and when a summary is of a list of items.
use Rattle.std.specs.Prelude.{◌≡◌, ℕ, ◌+◌, ◌-◌, ◌<◌, ◌≤◌, ℤ, pos, negsuc, ◌≤ℤ◌, List, [], ◌∷◌, length, slice_index_or, Result, Ok, Err}
use Rattle.apl_pool.specs.declared.kernel.Fault.{Fault}
use Rattle.apl_pool.specs.declared.kernel.Stop.{Stop}
use Rattle.apl_pool.specs.declared.kernel.Stop.TheVariants.{Fault as FaultAt, Memory}
use Rattle.apl_pool.specs.Pool.{AreValues, IsLeastFault}

-- ¯9223372036854775808 to 9223372036854775807
abbrev pub IsI64 : ℤ → Type 0
IsI64 z = (negsuc 9223372036854775807 ≤ℤ z) × (z ≤ℤ pos 9223372036854775807)

-- a function of a value, or the fault in its place
abbrev pub and_then : Result ℤ Fault → (ℤ → Result ℤ Fault) → Result ℤ Fault
and_then (Ok z) f = f z
and_then (Err fault) f = Err fault

-- the last item is the first that meets what comes in
abbrev pub fold_onto : {X : Type 0} → (X → ℤ → Result ℤ Fault) → List X → ℤ → Result ℤ Fault
fold_onto step [] right = Ok right
fold_onto step (x ∷ rest) right = and_then (fold_onto step rest right) (step x)

-- the summary has as many items as the list, and does to each number that comes in what their fold does
pub record IsSummaryOf {S X : Type 0} (step : X → ℤ → Result ℤ Fault) (item_count : S → ℕ) (outcome : S → ℤ → Result ℤ Fault) (s : S) (items : List X) : Type 0 where
  pub number_of_items : item_count s ≡ length items
  pub does : (right : ℤ) → IsI64 right → outcome s right ≡ fold_onto step items right

-- A summary of the items at the places from `from` up to before `to`. For a number in the range it gives one in the range
pub record IsSummaryFrom {S X : Type 0} (step : X → ℤ → Result ℤ Fault) (item_count : S → ℕ) (does : S → ℤ → Result ℤ Fault) (outcome : ℕ → Result X Fault) (from to : ℕ) (s : S) : Type 0 where
  pub items : List X
  pub values : AreValues (λ k. outcome (from + k)) (to - from) items
  pub summary : IsSummaryOf step item_count does s items
  pub range : (right z : ℤ) → IsI64 right → does s right ≡ Ok z → IsI64 z

module _ {S X : Type 0} (step : X → ℤ → Result ℤ Fault) (item_count : S → ℕ) (does : S → ℤ → Result ℤ Fault) (outcome : ℕ → ℕ → Result X Fault) where
  -- a summary of the items at all places of a row
  pub record IsRowSummary (count row : ℕ) (s : S) : Type 0 where
    pub items : List X
    pub values : AreValues (outcome row) count items
    pub summary : IsSummaryOf step item_count does s items

  -- why there are no more: each row has one, or the next one has a fault, and this is its least. `Memory` says nothing
  abbrev pub IsEnd : ℕ → ℕ → ℕ → Result Unit Stop → Type 0
  IsEnd rows count row (Ok x) = row ≡ rows
  IsEnd rows count row (Err (FaultAt place fault)) = (row < rows) × IsLeastFault (outcome row) count place fault
  IsEnd rows count row (Err Memory) = Unit {0}

  -- summaries of the rows from the first on, and why there are no more
  pub record AreFolds (rows count : ℕ) (summaries : List S) (end : Result Unit Stop) : Type 0 where
    pub within : length summaries ≤ rows
    pub each : (row : ℕ) (d : S) → row < length summaries → IsRowSummary count row (slice_index_or summaries row d)
    pub ends : IsEnd rows count (length summaries) end

-- The least or the greatest of the items of a run. No contract of a public function cites this file.
use Rattle.std.specs.Prelude.{◌≡◌, ℕ, ◌+◌, ◌-◌, ◌≤◌, Bool, ℤ, Result, Ok}
use Rattle.apl_pool.specs.declared.kernel.Fault.{Fault}
use Rattle.apl_pool.specs.Summaries.{IsI64, IsSummaryFrom}
use Rattle.apl_scalar.specs.Scalar.{dyadic_numbers}
use Rattle.apl_summary.specs.declared.extremum.Extremum.{Extremum}
use Rattle.apl_summary.specs.Extremes.{extremum, extreme_function, extreme_of_two, extreme_outcome}

-- that of the items at the places from `from` up to before `to`
abbrev pub IsExtremumFrom : Bool → (ℕ → Result ℤ Fault) → (from to : ℕ) → ℤ → Type 0
IsExtremumFrom is_least outcome from to item = IsSummaryFrom (dyadic_numbers (extreme_function is_least)) (λ (e : Extremum). e.count) (extreme_outcome is_least) outcome from to (extremum (to - from) item) × IsI64 item

-- if a number is that of some items after the place `mid`, this one is that of the items before them as well
abbrev pub IsBehindExtremum : Bool → (ℕ → Result ℤ Fault) → (from mid : ℕ) → (behind : ℤ) → ℤ → Type 0
IsBehindExtremum is_least outcome from mid behind item = (to : ℕ) → mid ≤ to → IsExtremumFrom is_least outcome mid to behind → IsExtremumFrom is_least outcome from to item

-- the least or the greatest of the items at a place and at the next one
abbrev pub IsExtremeOfPair : Bool → (ℕ → Result ℤ Fault) → (place : ℕ) → ℤ → Type 0
IsExtremeOfPair is_least outcome place pair = (x y : ℤ) × (outcome place ≡ Ok x) × (outcome (place + 1) ≡ Ok y) × IsI64 x × IsI64 y × (pair ≡ extreme_of_two is_least x y)

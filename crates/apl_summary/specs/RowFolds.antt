-- The fold of a row, to which a number comes in from the right, or a fault in its place.
use Rattle.std.specs.Prelude.{◌≡◌, ℕ, ℤ, ◌<◌, List, Result, Err, IfOk, IfErr}
use Rattle.std.specs.declared.vec.Vec.{Vec}
use Rattle.apl_pool.specs.declared.kernel.Fault.{Fault}
use Rattle.apl_pool.specs.declared.kernel.Stop.{Stop}
use Rattle.apl_pool.specs.declared.kernel.Stop.TheVariants.{Fault as FaultAt, Memory}
use Rattle.apl_pool.specs.Pool.{AreValues, IsLeastFault, IsStopOf}
use Rattle.apl_pool.specs.Summaries.{and_then, fold_onto}

-- the right fold of the items onto what comes in. The fault of the least faulty place is before that in place of what comes in
pub record IsRowFold (step : ℤ → ℤ → Result ℤ Fault) (item : ℕ → Result ℤ Fault) (count : ℕ) (incoming fold : Result ℤ Fault) : Type 0 where
  pub folded : (items : List ℤ) → AreValues item count items → fold ≡ and_then incoming (fold_onto step items)
  pub faulty : (place : ℕ) (fault : Fault) → IsLeastFault item count place fault → fold ≡ Err fault

-- the folds of all rows
abbrev pub AreRowFolds : (ℤ → ℤ → Result ℤ Fault) → (ℕ → ℕ → Result ℤ Fault) → (rows count : ℕ) → (ℕ → Result ℤ Fault) → (ℕ → Result ℤ Fault) → Type 0
AreRowFolds step item rows count incoming fold = (row : ℕ) → row < rows → IsRowFold step (item row) count (incoming row) (fold row)

module _ (step : ℤ → ℤ → Result ℤ Fault) (item : ℕ → ℕ → Result ℤ Fault) (rows count : ℕ) (incoming : ℕ → Result ℤ Fault) where
  -- the values that are answered, if there are some, are the folds of all rows
  abbrev pub HasRowFolds : {Z : Type 0} → Result (Vec ℤ Z) Stop → Type 0
  HasRowFolds result = (fold : ℕ → Result ℤ Fault) → AreRowFolds step item rows count incoming fold → IfOk result (λ v. AreValues fold rows v.items)

  -- else the stop is that of these folds
  abbrev pub HasRowStop : {Z : Type 0} → Result (Vec ℤ Z) Stop → Type 0
  HasRowStop result = (fold : ℕ → Result ℤ Fault) → AreRowFolds step item rows count incoming fold → IfErr result (IsStopOf fold rows)

-- the stop of all rows that a stop within a row is
abbrev pub stop_at_row : ℕ → Stop → Stop
stop_at_row row (FaultAt place fault) = FaultAt row fault
stop_at_row row Memory = Memory

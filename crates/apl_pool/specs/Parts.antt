-- What a worker answers or writes for a stretch of places, and where the workers' stretches begin. No contract of a public function
-- cites this file.
use Rattle.std.specs.Prelude.{◌≡◌, ℕ, ◌+◌, ◌<◌, ◌≤◌, List, length, Result, Ok, Err, IsOk, MatchResult, slice_index, slice_index_or}
use Rattle.std.specs.declared.vec.Vec.{Vec}
use Rattle.apl_pool.specs.declared.kernel.Fault.{Fault}
use Rattle.apl_pool.specs.declared.kernel.Stop.{Stop}
use Rattle.apl_pool.specs.declared.kernel.Stop.TheVariants.{Fault as FaultAt, Memory}

-- where each of `tasks` stretches begins, and after the last the number of places
pub record AreBounds (tasks count : ℕ) (bounds : List ℕ) : Type 0 where
  pub len : length bounds ≡ tasks + 1
  pub first : slice_index bounds 0 ≡ 0
  pub last : slice_index bounds tasks ≡ count
  pub rising : (k : ℕ) → k < tasks → slice_index bounds k ≤ slice_index bounds (k + 1)

module _ {T : Type 0} (outcome : ℕ → Result T Fault) where
  -- the values at the places from `from` up to before `to`, in order
  pub record AreValuesFrom (from to : ℕ) (values : List T) : Type 0 where
    pub len : from + length values ≡ to
    pub each : (k : ℕ) (d : T) → k < length values → outcome (from + k) ≡ Ok (slice_index_or values k d)

  -- the values at the places of piece `number`, where `starts` has the first place of each piece
  abbrev pub AreValuesOfPiece : List ℕ → ℕ → List T → Type 0
  AreValuesOfPiece starts number = AreValuesFrom (slice_index starts number) (slice_index starts (number + 1))

  -- of a list for all places, the items at these places are the values there
  abbrev pub AreValuesAt : ℕ → ℕ → List T → Type 0
  AreValuesAt from to values = (k : ℕ) (d : T) → from ≤ k → k < to → outcome k ≡ Ok (slice_index_or values k d)

  -- the first place from `from` up to before `to` that has a fault, and that fault
  pub record IsFirstFault (from to place : ℕ) (fault : Fault) : Type 0 where
    pub at_least : from ≤ place
    pub below : place < to
    pub faulty : outcome place ≡ Err fault
    pub earlier : (k : ℕ) → from ≤ k → k < place → IsOk (outcome k)

  abbrev pub IsStopFrom : ℕ → ℕ → Stop → Type 0
  IsStopFrom from to (FaultAt place fault) = IsFirstFault from to place fault
  IsStopFrom from to Memory = Unit {0}

  -- what a worker answers for these places
  abbrev pub IsPart : {Z : Type 0} → ℕ → ℕ → Result (Vec T Z) Stop → Type 0
  IsPart from to part = MatchResult part (λ v. AreValuesFrom from to v.items) (IsStopFrom from to)

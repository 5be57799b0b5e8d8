-- What a kernel gives for a run of places, one after the other.
use Rattle.std.specs.Prelude.{◌≡◌, ℕ, ◌+◌, ◌<◌, ◌≤◌, List, length, Result, Ok, Err, slice_index_or}
use Rattle.apl_pool.specs.declared.kernel.Fault.{Fault}

module _ {T : Type 0} (outcome : ℕ → Result T Fault) where
  -- the values at the places from `from` up to before `to` are the front of a list
  pub record AreWritten (from to : ℕ) (values : List T) : Type 0 where
    pub room : to ≤ from + length values
    pub each : (k : ℕ) (d : T) → from + k < to → outcome (from + k) ≡ Ok (slice_index_or values k d)

  -- the values before a place are written, and it is the first from `from` up to before `to` that has a fault: this one
  pub record IsFaultAfter (from to place : ℕ) (fault : Fault) (values : List T) : Type 0 where
    pub at_least : from ≤ place
    pub below : place < to
    pub faulty : outcome place ≡ Err fault
    pub before : AreWritten from place values

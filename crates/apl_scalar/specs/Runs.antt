-- Values in a part of a room. No contract of a public function cites this file.
use Rattle.std.specs.Prelude.{◌≡◌, ℕ, ◌+◌, ◌<◌, ◌≤◌, List, Result, Ok, slice_index_or}
use Rattle.apl_pool.specs.declared.kernel.Fault.{Fault}

-- a room for the places from `from` on has the values of `count` of them from index `first` on
pub record HasPart {T : Type 0} (outcome : ℕ → Result T Fault) (from first count : ℕ) (room : List T) : Type 0 where
  pub each : (k : ℕ) (d : T) → k < count → outcome (from + first + k) ≡ Ok (slice_index_or room (first + k) d)

-- two rooms are the same but at `count` indexes from `first` on
pub record DiffersIn {T : Type 0} (first count : ℕ) (before after : List T) : Type 0 where
  pub less : (k : ℕ) (d : T) → k < first → slice_index_or after k d ≡ slice_index_or before k d
  pub more : (k : ℕ) (d : T) → first + count ≤ k → slice_index_or after k d ≡ slice_index_or before k d

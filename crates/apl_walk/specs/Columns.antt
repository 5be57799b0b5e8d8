-- The fronts of several lines. No contract of a public function cites this file.
use Rattle.std.specs.Prelude.{◌≡◌, ℕ, ◌+◌, ◌/◌, ◌%◌, ◌<◌, List, slice_index_or}

-- at each place of a run whose index is below a number, a room has the value at that index of its line
pub record HasColumns {T : Type 0} (value : ℕ → ℕ → T) (extent from to columns : ℕ) (room : List T) : Type 0 where
  pub each : (k : ℕ) (d : T) → from + k < to → (from + k) % extent < columns → slice_index_or room k d ≡ value ((from + k) / extent) ((from + k) % extent)

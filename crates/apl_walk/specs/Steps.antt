-- What the indexes of an axis of a result add to a place of the argument.
use Rattle.std.specs.Prelude.{◌≡◌, ℕ, ℤ, pos, ◌+◌, ◌-◌, ◌*◌, ◌/◌, ◌%◌, ◌<◌, ◌-ℤ◌, ◌&&◌, nat_le, nat_lt, List, Option, Some, None, slice_index, slice_index_or, if◌then◌else◌}
use Rattle.apl_array.specs.Axes.{place_number}

-- both steps, where there are both
abbrev pub and_step : Option ℕ → Option ℕ → Option ℕ
and_step (Some m) (Some n) = Some (m + n)
and_step (Some m) None = None
and_step None n = None

-- index i, from `from` up to before `to`, adds i + start - from strides, and the others have no place
abbrev pub window_step : (from to start stride i : ℕ) → Option ℕ
window_step from to start stride i = if nat_le from i && nat_lt i to then Some ((i + start - from) * stride) else None

-- the last index first
abbrev pub reversed_step : (extent stride i : ℕ) → Option ℕ
reversed_step extent stride i = Some ((extent - 1 - i) * stride)

-- a number below twice n as an index of an axis of n indexes
abbrev pub wrapped : (n j : ℕ) → ℕ
wrapped n j = if nat_lt j n then j else j - n

-- the index that is `by` further, counted round
abbrev pub rotated_step : (extent by stride i : ℕ) → Option ℕ
rotated_step extent by stride i = Some (wrapped extent (i + by) * stride)

-- the place of index i of the rotation of a line of `length` places, which begins after `before` such lines
abbrev pub rotated_place : (length : ℕ) (by : List ℕ) (before line i : ℕ) → ℕ
rotated_place length by before line i = before * length + wrapped length (i + slice_index by line)

-- the place that index `row` of rotated lines of `length` indexes takes in column `column`, where each index has `inner` columns, a line each
abbrev pub rotated_column : (length : ℕ) (by : List ℕ) (inner row column : ℕ) → ℕ
rotated_column length by inner row column = rotated_place length by (row / length) (row / length * inner + column) (row % length) * inner + column

-- number i of a list, less the number of the first index
abbrev pub listed_step : (first : ℤ) (stride : ℕ) (numbers : List ℤ) (i : ℕ) → Option ℕ
listed_step first stride numbers i = Some (place_number (slice_index_or numbers i (pos 0) -ℤ first) * stride)

-- index number i of a list
abbrev pub indexed_step : (stride : ℕ) (indexes : List ℕ) (i : ℕ) → Option ℕ
indexed_step stride indexes i = Some (slice_index indexes i * stride)

-- each index `times` times
abbrev pub repeated_step : (times stride i : ℕ) → Option ℕ
repeated_step times stride i = Some (i / times * stride)

-- a list begins with these values
pub record BeginsWith {T : Type 0} (value : ℕ → T) (count : ℕ) (values : List T) : Type 0 where
  pub each : (k : ℕ) (d : T) → k < count → value k ≡ slice_index_or values k d

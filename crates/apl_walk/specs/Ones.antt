-- The ones among truth values.
use Rattle.std.specs.Prelude.{◌≡◌, ℕ, zero, suc, ◌+◌, ◌-◌, ◌*◌, ◌<◌, ◌≤◌, Bool, true, false, List, [], ◌∷◌, length, if◌then◌else◌, Option, Some, None, slice_index, slice_index_or}
use Rattle.apl_walk.specs.Gathered.{value_or}
use Rattle.apl_walk.specs.declared.counted.TheConstants.{BLOCK}

-- 1 for true, 0 for false
abbrev pub one_of : Bool → ℕ
one_of b = if b then 1 else 0

-- how many of the first n truth values are true
abbrev pub ones_before : List Bool → (n : ℕ) → ℕ
ones_before [] n = 0
ones_before (b ∷ bits) zero = 0
ones_before (b ∷ bits) (suc n) = one_of b + ones_before bits n

-- the index of the n-th one, counted from 0
abbrev pub one_index : List Bool → (n : ℕ) → ℕ
one_index [] n = 0
one_index (false ∷ bits) n = suc (one_index bits n)
one_index (true ∷ bits) zero = 0
one_index (true ∷ bits) (suc n) = suc (one_index bits n)

-- each index is that of the next one
abbrev pub one_step : (bits : List Bool) (stride i : ℕ) → Option ℕ
one_step bits stride i = Some (one_index bits i * stride)

-- the next index at a one, and none at a zero
abbrev pub next_index : List Bool → (i : ℕ) → Option ℕ
next_index bits i = if slice_index_or bits i false then Some (ones_before bits i) else None

-- each index is such a one, or has no place
abbrev pub next_step : (bits : List Bool) (stride i : ℕ) → Option ℕ
next_step bits stride i = if slice_index_or bits i false then Some (ones_before bits i * stride) else None

-- the value at index i of a line that is expanded: the next one at a one, and a fill at a zero
abbrev pub expanded_value : {T : Type 0} → List Bool → (line : List T) (stride : ℕ) (fill : T) (i : ℕ) → T
expanded_value bits line stride fill i = value_or line fill (next_step bits stride i)

-- how many ones are before each block of truth values
pub record CountsBlocks (bits : List Bool) (before : List ℕ) : Type 0 where
  pub some : 0 < length before
  pub within : length before * BLOCK ≤ length bits + BLOCK
  pub all : length bits < length before * BLOCK
  pub each : (block : ℕ) → block < length before → slice_index before block ≡ ones_before bits (block * BLOCK)

-- a room begins with the elements at the last `count` ones before index i
pub record HasOnes {T : Type 0} (bits : List Bool) (line : List T) (stride i count : ℕ) (room : List T) : Type 0 where
  pub few : count ≤ ones_before bits i
  pub each : (k : ℕ) (d : T) → k < count → slice_index_or room k d ≡ slice_index_or line (one_index bits (ones_before bits i - count + k) * stride) d

-- a room has the next elements at the ones among the first `count` truth values from index `from` on
pub record HasNext {T : Type 0} (bits : List Bool) (line : List T) (stride from count : ℕ) (room : List T) : Type 0 where
  pub each : (k : ℕ) (d : T) → k < count → slice_index_or bits (from + k) false ≡ true → slice_index_or room k d ≡ slice_index_or line (ones_before bits (from + k) * stride) d

-- First places of numbers in a table. No contract of a public function cites this file.
use Rattle.std.specs.Prelude.{◌≡◌, ℕ, ℤ, pos, ◌+◌, ◌^◌, ◌<◌, ◌+ℤ◌, ◌≤ℤ◌, ◌<ℤ◌, List, length, drop, All, slice_index_or}
use Rattle.std.specs.List.{position_or_len}
use Rattle.std.specs.Ordering.{int_eq}

-- the first place of a number, or the length where there is none
abbrev pub place_of : List ℤ → ℤ → ℕ
place_of numbers x = position_or_len (λ y. int_eq y x) numbers

-- a number from the least on that is before the last of so many
abbrev pub IsNumberWithin : ℤ → ℕ → ℤ → Type 0
IsNumberWithin least count x = (least ≤ℤ x) × ((x +ℤ pos 1) <ℤ (least +ℤ pos count))

-- the first place of each number from the least on, of which the last is above all in the list
pub record IsTable (numbers : List ℤ) (least : ℤ) (places : List ℕ) : Type 0 where
  pub within : All (IsNumberWithin least (length places)) numbers
  pub top : (least +ℤ pos (length places)) ≤ℤ pos (2 ^ 63 + 1)
  pub each : (k d : ℕ) → k < length places → slice_index_or places k d ≡ place_of numbers (least +ℤ pos k)

-- entries that have the first places from a place on
abbrev pub ArePlacesFrom : List ℤ → ℤ → ℕ → List ℕ → Type 0
ArePlacesFrom numbers least from places = (k d : ℕ) → k < length places → slice_index_or places k d ≡ from + place_of (drop from numbers) (least +ℤ pos k)

-- replies to the first numbers of a list, each by its place in a table
abbrev pub AreReplies : {V : Type 0} → (ℕ → V) → ℤ → List ℕ → List ℤ → ℕ → List V → Type 0
AreReplies {V = V} value least places keys count replies =
    (numbers : List ℤ) → IsTable numbers least places → (k : ℕ) (d : V) → k < count → slice_index_or replies k d ≡ value (place_of numbers (slice_index_or keys k (pos 0)))

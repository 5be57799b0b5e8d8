-- Sums of stretches of rows, whose numbers are judged by their bits. No contract of a public function cites this file.
use Rattle.std.specs.Prelude.{◌≡◌, ℕ, zero, suc, ℤ, pos, ◌+◌, ◌-◌, ◌*◌, ◌/◌, ◌%◌, ◌^◌, ◌<◌, List, Result, Ok, Err, nat_lt, if◌then◌else◌, bit_or, min, slice_index_or}
use Rattle.apl_pool.specs.declared.kernel.Fault.{Fault}
use Rattle.apl_pool.specs.declared.kernel.Fault.TheVariants.{Limit}
use Rattle.apl_reduce.specs.declared.near_sums.NearSum.{NearSum}
use Rattle.apl_reduce.specs.declared.stretch_sums.TheConstants.{STRETCH}
use Rattle.apl_reduce.specs.Magnitudes.{sum_of, IsSumNear, above}

-- number k of those from place `first` on
abbrev pub number_from : List ℤ → (first k : ℕ) → ℤ
number_from numbers first k = slice_index_or numbers (first + k) (pos 0)

-- the bits that one or more of the first n numbers has, each counted from the least one that is at most `near` from 0
abbrev pub joined_bits : (near : ℕ) (number : ℕ → ℤ) → ℕ → ℕ
joined_bits near number zero = 0
joined_bits near number (suc n) = bit_or (joined_bits near number n) (above near (number n))

-- these bits of `count` neighbours, and their sum, if so many stay in the range and no bits say that one is far from 0
pub record IsStretchSum (numbers : List ℤ) (near first count : ℕ) (s : NearSum) : Type 0 where
  pub bits : s.bits ≡ joined_bits near (number_from numbers first) count
  pub sum : near * count < 2 ^ 63 → s.bits < 2 * near → IsSumNear (number_from numbers first) near count s.sum

-- the sum of `count` neighbours, or `Limit` if their bits say that one is far from 0
abbrev pub stretch_sum : List ℤ → (near first count : ℕ) → Result ℤ Fault
stretch_sum numbers near first count = if nat_lt (joined_bits near (number_from numbers first) count) (2 * near) then Ok (sum_of (number_from numbers first) count) else Err Limit

-- that of stretch k of a row of `items`, which begins at place `first`
abbrev pub sum_of_stretch : List ℤ → (near items first k : ℕ) → Result ℤ Fault
sum_of_stretch numbers near items first k = stretch_sum numbers near (first + k * STRETCH) (min STRETCH (items - k * STRETCH))

-- that of a place, if rows begin `block` apart and have so many stretches each
abbrev pub sum_at : List ℤ → (near items block stretches place : ℕ) → Result ℤ Fault
sum_at numbers near items block stretches place = sum_of_stretch numbers near items (place / stretches * block) (place % stretches)

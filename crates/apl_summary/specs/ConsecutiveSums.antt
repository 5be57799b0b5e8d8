-- The sums of consecutive items of a list, and its running sums.
use Rattle.std.specs.Prelude.{◌≡◌, ℕ, ◌+◌, ◌<◌, ◌≤◌, ℤ, pos, ◌+ℤ◌, List, [], ◌∷◌, ◌++◌, take, drop, IsOk}
use Rattle.apl_array.specs.declared.function.ScalarFunction.TheVariants.{Plus}
use Rattle.apl_pool.specs.Summaries.{IsI64, fold_onto}
use Rattle.apl_scalar.specs.Scalar.{dyadic_numbers}
use Rattle.apl_summary.specs.declared.constants.Bounds.{Bounds}
use Rattle.apl_summary.specs.declared.consecutive_sums.ConsecutiveSums.{ConsecutiveSums}
use Rattle.apl_summary.specs.Constants.{bounds, raised, of_both, IsWithin94Bits, IsSumOf}

-- the sum of a list
abbrev pub total : List ℤ → ℤ
total [] = pos 0
total (x ∷ rest) = x +ℤ total rest

-- each sum of consecutive items is in the range
abbrev pub IsLawful : List ℤ → Type 0
IsLawful xs = (from count : ℕ) → IsI64 (total (take count (drop from xs)))

-- no running sum is refused: the right fold of each beginning, which ends with `last`, is a value
abbrev pub HasSums : List ℤ → Type 0
HasSums xs = (before : List ℤ) (last : ℤ) (rest : List ℤ) → xs ≡ before ++ last ∷ rest → IsOk (fold_onto (dyadic_numbers Plus) before last)

-- ---- the total, and the bounds of the sums of a beginning, of an end and of consecutive items

-- sums with these parts
abbrev pub consecutive_sums : ℕ → ℤ → (beginnings ends all : Bounds) → ConsecutiveSums
consecutive_sums count total beginnings ends all = record { count = count; total = total; beginnings = beginnings; ends = ends; all = all }

-- the sums of one item
abbrev pub sums_of_one : ℤ → ConsecutiveSums
sums_of_one x = consecutive_sums 1 x (bounds x x) (bounds x x) (bounds x x)

-- the bounds of the sums of an end of the left items and a beginning of the right ones
abbrev pub across : (ends beginnings : Bounds) → Bounds
across ends beginnings = bounds (ends.least +ℤ beginnings.least) (ends.greatest +ℤ beginnings.greatest)

-- A beginning is in the left items, or has all of them and a beginning of the right ones, and so for an end. Consecutive items are in
-- the left ones, in the right ones, or are an end of those and a beginning of these
abbrev pub sums_of_both : ConsecutiveSums → ConsecutiveSums → ConsecutiveSums
sums_of_both a b = consecutive_sums (a.count + b.count) (a.total +ℤ b.total)
    (of_both a.beginnings (raised b.beginnings a.total))
    (of_both b.ends (raised a.ends b.total))
    (of_both (of_both a.all b.all) (across a.ends b.beginnings))

-- the sums of a first item and others
abbrev pub sums_of : ℤ → List ℤ → ConsecutiveSums
sums_of x [] = sums_of_one x
sums_of x (y ∷ rest) = sums_of_both (sums_of_one x) (sums_of y rest)

-- the sums of a list, which isn't empty
abbrev pub AreSumsOf : ConsecutiveSums → List ℤ → Type 0
AreSumsOf s [] = ⊥
AreSumsOf s (x ∷ rest) = s ≡ sums_of x rest

-- ---- how large they are

-- both bounds are within 94 bits
abbrev pub AreBoundsWithin94Bits : Bounds → Type 0
AreBoundsWithin94Bits b = IsWithin94Bits b.least × IsWithin94Bits b.greatest

-- all numbers of the sums are within 94 bits
abbrev pub AreSumsWithin94Bits : ConsecutiveSums → Type 0
AreSumsWithin94Bits s = IsWithin94Bits s.total × AreBoundsWithin94Bits s.beginnings × AreBoundsWithin94Bits s.ends × AreBoundsWithin94Bits s.all

-- both bounds are within the sums of that many items
abbrev pub AreBoundsOfSums : ℕ → Bounds → Type 0
AreBoundsOfSums count b = IsSumOf count b.least × IsSumOf count b.greatest

-- lawful sums
pub record AreConsecutiveSums (s : ConsecutiveSums) : Type 0 where
  pub some_items : 0 < s.count
  pub most_items : s.count ≤ 1073741824
  pub total_within : IsSumOf s.count s.total
  pub beginnings_within : AreBoundsOfSums s.count s.beginnings
  pub ends_within : AreBoundsOfSums s.count s.ends
  pub all_within : AreBoundsOfSums s.count s.all

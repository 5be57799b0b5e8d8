-- The sums and differences of items, by their constants. Each partial result of a fold by `+` or `-` is a constant and what comes in,
-- with plus or with minus.
use Rattle.std.specs.Prelude.{◌≡◌, ℕ, ◌+◌, ◌*◌, ◌<◌, ◌≤◌, Bool, true, false, not, ◌&&◌, ℤ, pos, negsuc, neg_ℤ, ◌+ℤ◌, ◌-ℤ◌, ◌≤ℤ◌, int_le, Result, Ok, Err, if◌then◌else◌}
use Rattle.std.specs.Int.{int_min, int_max}
use Rattle.apl_array.specs.declared.function.ScalarFunction.{ScalarFunction}
use Rattle.apl_array.specs.declared.function.ScalarFunction.TheVariants.{Plus, Minus}
use Rattle.apl_array.specs.Range.{least_number, greatest_number}
use Rattle.apl_pool.specs.declared.kernel.Fault.{Fault}
use Rattle.apl_pool.specs.declared.kernel.Fault.TheVariants.{Limit}
use Rattle.apl_summary.specs.declared.constants.Bounds.{Bounds}
use Rattle.apl_summary.specs.declared.constants.Constants.{Constants}

-- `+` or `-`
abbrev pub signed_function : Bool → ScalarFunction
signed_function is_plus = if is_plus then Plus else Minus

-- ---- the least and the greatest of some constants

-- the least and the greatest of some numbers
abbrev pub bounds : ℤ → ℤ → Bounds
bounds least greatest = record { least = least; greatest = greatest }

-- the bounds of the constants plus `by`
abbrev pub raised : Bounds → ℤ → Bounds
raised b by = bounds (b.least +ℤ by) (b.greatest +ℤ by)

-- the bounds of the constants minus `by`
abbrev pub lowered : Bounds → ℤ → Bounds
lowered b by = bounds (b.least -ℤ by) (b.greatest -ℤ by)

-- the bounds of the constants of both
abbrev pub of_both : Bounds → Bounds → Bounds
of_both a b = bounds (int_min a.least b.least) (int_max a.greatest b.greatest)

-- both bounds are in the range
abbrev pub are_in_range : Bounds → Bool
are_in_range b = int_le least_number b.least && int_le b.greatest greatest_number

-- ---- all constants of some items

-- constants with these parts
abbrev pub constants : ℕ → Bool → ℤ → Bounds → Bounds → Constants
constants count is_negated total plus minus = record { count = count; is_negated = is_negated; total = total; plus = plus; minus = minus }

-- 0 is among those with plus: it is the constant of what comes in itself, which is in the range. If there are none with minus, both
-- bounds there are -1, which refuses nothing
abbrev pub constants_of_one : Bool → ℤ → Constants
constants_of_one is_plus x =
    if is_plus then constants 1 false x (of_both (bounds (pos 0) (pos 0)) (bounds x x)) (bounds (negsuc 0) (negsuc 0))
    else constants 1 true x (bounds (pos 0) (pos 0)) (bounds x x)

-- what comes in to the left items is the right ones' result: their total with plus or with minus, and what comes in to them
abbrev pub constants_of_both : Bool → Constants → Constants → Constants
constants_of_both is_plus a b = constants
    (a.count + b.count)
    (if a.is_negated then not b.is_negated else b.is_negated)
    (if a.is_negated then a.total -ℤ b.total else a.total +ℤ b.total)
    (of_both b.plus (if b.is_negated then lowered a.minus b.total else raised a.plus b.total))
    (if is_plus then b.minus else of_both b.minus (if b.is_negated then raised a.plus b.total else lowered a.minus b.total))

-- whether each partial result is in the range
abbrev pub keeps_range : Constants → ℤ → Bool
keeps_range c right = are_in_range (raised c.plus right) && are_in_range (lowered c.minus right)

-- what the items do to a number that comes in
abbrev pub signed_outcome : Constants → ℤ → Result ℤ Fault
signed_outcome c right = if keeps_range c right then Ok (if c.is_negated then c.total -ℤ right else c.total +ℤ right) else Err Limit

-- ---- how large the constants are

-- within 2 ^ 94 either way
abbrev pub IsWithin94Bits : ℤ → Type 0
IsWithin94Bits x = (neg_ℤ (pos 19807040628566084398385987584) ≤ℤ x) × (x ≤ℤ pos 19807040628566084398385987584)

-- all numbers of the constants are within 94 bits
abbrev pub AreWithin94Bits : Constants → Type 0
AreWithin94Bits c = IsWithin94Bits c.total × IsWithin94Bits c.plus.least × IsWithin94Bits c.plus.greatest × IsWithin94Bits c.minus.least × IsWithin94Bits c.minus.greatest

-- within 2 ^ 63 either way for each item
abbrev pub IsSumOf : ℕ → ℤ → Type 0
IsSumOf count x = (neg_ℤ (pos (9223372036854775808 * count)) ≤ℤ x) × (x ≤ℤ pos (9223372036854775808 * count))

-- lawful constants under `+` or `-`: within the sums of that many items
pub record AreConstants (is_plus : Bool) (c : Constants) : Type 0 where
  pub some_items : 0 < c.count
  pub most_items : c.count ≤ 1073741824
  pub total_within : IsSumOf c.count c.total
  pub plus_within : IsSumOf c.count c.plus.least × IsSumOf c.count c.plus.greatest
  pub minus_within : IsSumOf c.count c.minus.least × IsSumOf c.count c.minus.greatest
  -- under `+` nothing is with minus
  pub only_plus : is_plus ≡ true → (c.is_negated ≡ false) × (c.minus ≡ bounds (negsuc 0) (negsuc 0))
  -- the whole result is a partial result
  pub total_with_plus : c.is_negated ≡ false → (c.plus.least ≤ℤ c.total) × (c.total ≤ℤ c.plus.greatest)
  pub total_with_minus : c.is_negated ≡ true → (c.minus.least ≤ℤ c.total) × (c.total ≤ℤ c.minus.greatest)

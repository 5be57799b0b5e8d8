-- The products of items, by their coefficients. Each partial result of a fold by `×` is a coefficient times what comes in. The
-- coefficient is the product of the items that were folded.
use Rattle.std.specs.Prelude.{ℕ, ◌+◌, ◌<◌, ◌≤◌, Bool, ◌&&◌, ℤ, pos, negsuc, ◌*ℤ◌, ◌≤ℤ◌, Result, Ok, Err, if◌then◌else◌}
use Rattle.std.specs.Int.{int_min, int_max}
use Rattle.apl_array.specs.Range.{in_range}
use Rattle.apl_pool.specs.declared.kernel.Fault.{Fault}
use Rattle.apl_pool.specs.declared.kernel.Fault.TheVariants.{Limit}
use Rattle.apl_summary.specs.declared.coefficients.Coefficients.{Coefficients}

-- within 2 ^ 63 + 1 either way
abbrev pub IsHeld : ℤ → Type 0
IsHeld x = (negsuc 9223372036854775808 ≤ℤ x) × (x ≤ℤ pos 9223372036854775809)

-- The nearest number within 2 ^ 63 + 1 either way. A number outside is refused with all that comes in but 0, and so is the nearest one.
-- 2 ^ 63 is kept as it is, since times ¯1 it is in the range
abbrev pub held : ℤ → ℤ
held x = int_min (int_max x (negsuc 9223372036854775808)) (pos 9223372036854775809)

-- coefficients with these parts
abbrev pub coefficients : ℕ → ℤ → ℤ → ℤ → Coefficients
coefficients count total least greatest = record { count = count; total = total; least = least; greatest = greatest }

-- the coefficients of one item
abbrev pub coefficients_of_one : ℤ → Coefficients
coefficients_of_one x = coefficients 1 x x x

-- the right items' coefficients, and those of the left ones times the product of all right ones
abbrev pub coefficients_of_both : Coefficients → Coefficients → Coefficients
coefficients_of_both a b = coefficients (a.count + b.count) (held (a.total *ℤ b.total))
    (int_min b.least (int_min (held (a.least *ℤ b.total)) (held (a.greatest *ℤ b.total))))
    (int_max b.greatest (int_max (held (a.least *ℤ b.total)) (held (a.greatest *ℤ b.total))))

-- whether each partial result is in the range
abbrev pub products_keep_range : Coefficients → ℤ → Bool
products_keep_range c right = in_range (c.least *ℤ right) && in_range (c.greatest *ℤ right)

-- what the items do to a number that comes in
abbrev pub scaled_outcome : Coefficients → ℤ → Result ℤ Fault
scaled_outcome c right = if products_keep_range c right then Ok (c.total *ℤ right) else Err Limit

-- lawful coefficients
pub record AreCoefficients (c : Coefficients) : Type 0 where
  pub some_items : 0 < c.count
  pub most_items : c.count ≤ 1073741824
  pub least_held : negsuc 9223372036854775808 ≤ℤ c.least
  -- the product of all items is one of the coefficients
  pub total_above : c.least ≤ℤ c.total
  pub total_below : c.total ≤ℤ c.greatest
  pub greatest_held : c.greatest ≤ℤ pos 9223372036854775809

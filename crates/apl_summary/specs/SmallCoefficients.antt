-- The coefficients of a few small items, in numbers of 64 bits. No contract of a public function cites this file.
use Rattle.std.specs.Prelude.{ℤ, pos, neg_ℤ, ◌≤ℤ◌}
use Rattle.apl_summary.specs.declared.coefficients.Coefficients.{Coefficients}
use Rattle.apl_summary.specs.declared.small_coefficients.SmallCoefficients.{SmallCoefficients}
use Rattle.apl_summary.specs.Coefficients.{coefficients}

-- these coefficients in numbers of 128 bits
abbrev pub widened : SmallCoefficients → Coefficients
widened c = coefficients c.count c.total c.least c.greatest

-- within 2 ^ 31 either way, so that a product of two of them is in the range
abbrev pub IsFactor : ℤ → Type 0
IsFactor x = (neg_ℤ (pos 2147483648) ≤ℤ x) × (x ≤ℤ pos 2147483648)

-- The constants of a few small items, in numbers of 64 bits. No contract of a public function cites this file.
use Rattle.std.specs.Prelude.{◌≡◌, ℕ, ◌*◌, ℤ, pos, neg_ℤ, ◌≤ℤ◌}
use Rattle.std.specs.Int.{int_min, int_max}
use Rattle.apl_summary.specs.declared.constants.Constants.{Constants}
use Rattle.apl_summary.specs.declared.small_constants.SmallBounds.{SmallBounds}
use Rattle.apl_summary.specs.declared.small_constants.SmallConstants.{SmallConstants}
use Rattle.apl_summary.specs.Constants.{bounds, constants}

-- these constants in numbers of 128 bits
abbrev pub widened : SmallConstants → Constants
widened c = constants c.count c.is_negated c.total (bounds c.plus.least c.plus.greatest) (bounds c.minus.least c.minus.greatest)

-- the bounds of these constants and one more
abbrev pub with_constant : SmallBounds → ℤ → SmallBounds
with_constant b x = record { least = int_min b.least x; greatest = int_max b.greatest x }

-- within 2 ^ 52 either way for each item
abbrev pub IsSmallSum : ℕ → ℤ → Type 0
IsSmallSum count x = (neg_ℤ (pos (4503599627370496 * count)) ≤ℤ x) × (x ≤ℤ pos (4503599627370496 * count))

pub record AreSmallConstants (count : ℕ) (c : SmallConstants) : Type 0 where
  pub number_of_items : c.count ≡ count
  pub total : IsSmallSum count c.total
  pub plus : IsSmallSum count c.plus.least × IsSmallSum count c.plus.greatest
  pub minus : IsSmallSum count c.minus.least × IsSmallSum count c.minus.greatest

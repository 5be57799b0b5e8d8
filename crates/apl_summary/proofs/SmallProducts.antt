-- One more small item on the left of a product.
use Rattle.std.proofs.Common.{◌≡◌, ℕ, ◌+◌, ◌≤◌, ℤ, pos, negsuc, ◌*ℤ◌, arith}
use Rattle.std.proofs.lemmas.Int.{ints, clamps, fits_signed_mul}
use Rattle.std.specs.Int.{int_min, int_max}
use Rattle.std.specs.Prelude.{FitsSigned, unsigned_abs}
use mir.Syntax.{w64}
use Rattle.apl_summary.specs.declared.small_coefficients.SmallCoefficients.{SmallCoefficients}
use Rattle.apl_summary.specs.Coefficients.{held, coefficients, coefficients_of_one, coefficients_of_both}
use Rattle.apl_summary.specs.SmallCoefficients.{widened, IsFactor}

factor_near : (x : ℤ) → IsFactor x → unsigned_abs x ≤ 2147483648
factor_near (pos n) h = omega (arith, ints, h.1)
factor_near (negsuc n) h = omega (arith, ints, h.0)

pub factors_fit : (a b : ℤ) → IsFactor a → IsFactor b → FitsSigned w64 (a *ℤ b)
factors_fit a b g h = fits_signed_mul w64 a b 2147483648 2147483648 (factor_near a g) (factor_near b h) (omega arith)

-- a product that 64 bits hold is held as it is
held_as_it_is : (x : ℤ) → FitsSigned w64 x → x ≡ held x
held_as_it_is x fits = omega (arith, ints, clamps, fits)

abbrev pub behind : ℤ → SmallCoefficients → SmallCoefficients
behind x c = let total = x *ℤ c.total in record { count = c.count + 1; total = total; least = int_min c.least total; greatest = int_max c.greatest total }

both : (n m : ℕ) (t u l k g f : ℤ) → n ≡ m → t ≡ u → l ≡ k → g ≡ f → coefficients n t l g ≡ coefficients m u k f
both n m t u l k g f a b c d = cc

pub behind_is : (x : ℤ) (c : SmallCoefficients) → IsFactor x → IsFactor c.total → widened (behind x c) ≡ coefficients_of_both (coefficients_of_one x) (widened c)
behind_is x c a b =
    let total : x *ℤ c.total ≡ held (x *ℤ c.total) = held_as_it_is (x *ℤ c.total) (factors_fit x c.total a b) in
    both _ _ _ _ _ _ _ _ (omega arith) total (omega (arith, ints, clamps, total)) (omega (arith, ints, clamps, total))

-- Numbers that are 0 or 1, known by their bits.
use Rattle.std.proofs.Common.{◌≡◌, ℕ, zero, suc, ◌/◌, ◌<◌, ℤ, pos, negsuc, true, FitsSigned, of_z, w64, bit_or, refl, arith}
use Rattle.std.specs.Prelude.{◌&&◌}
use Rattle.std.proofs.lemmas.Bool.{and_parts}
use Rattle.std.proofs.lemmas.Int.{ints}
use Rattle.std.proofs.lemmas.Nat.{le_or_l, le_or_r}
use Rattle.apl_answer.specs.Arguments.{is_bit}

low_bit : (x : ℤ) → FitsSigned w64 x → of_z w64 x < 2 → is_bit x ≡ true
low_bit (pos zero) fits low = refl
low_bit (pos (suc zero)) fits low = refl
low_bit (pos (suc (suc n))) fits low = absurd (omega (arith, low))
low_bit (negsuc n) fits low = absurd (omega (arith, ints, fits, low))

-- numbers without a bit above the lowest
pub low_bits : (x y : ℤ) → FitsSigned w64 x → FitsSigned w64 y → (m n : ℕ) → m ≡ of_z w64 x → n ≡ of_z w64 y → bit_or m n / 2 ≡ 0 → is_bit x && is_bit y ≡ true
low_bits x y left right m n first second none =
    let first_is = low_bit x left (omega (arith, none, first, le_or_l m n)) in
    let second_is = low_bit y right (omega (arith, none, second, le_or_r m n)) in
    rw (first_is, second_is) refl

from_bit : (x : ℤ) → is_bit x ≡ true → (P : ℤ → Type 0) → P (pos 0) → P (pos 1) → P x
from_bit (pos zero) is P at_0 at_1 = at_0
from_bit (pos (suc zero)) is P at_0 at_1 = at_1
from_bit (pos (suc (suc n))) is P at_0 at_1 = absurd (grind (arith, ints, is))
from_bit (negsuc n) is P at_0 at_1 = absurd cc

-- what holds of 0 and 1 holds of two numbers that are 0 or 1
pub from_bits : (x y : ℤ) → is_bit x && is_bit y ≡ true → (P : ℤ → ℤ → Type 0) → P (pos 0) (pos 0) → P (pos 0) (pos 1) → P (pos 1) (pos 0) → P (pos 1) (pos 1) → P x y
from_bits x y are P at_00 at_01 at_10 at_11 =
    let both = and_parts _ _ are in
    from_bit x both.0 (λ z. P z y) (from_bit y both.1 (P (pos 0)) at_00 at_01) (from_bit y both.1 (P (pos 1)) at_10 at_11)

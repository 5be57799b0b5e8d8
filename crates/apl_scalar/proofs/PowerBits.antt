-- Powers by the bits of an exponent.
use Rattle.std.proofs.Common.{◌≡◌, ℕ, zero, suc, ◌+◌, ◌*◌, ◌%◌, ◌^◌, ◌<◌, ◌≤◌, ◌==◌, Bool, true, false, ℤ, pos, negsuc, neg_ℤ, ◌*ℤ◌, FitsSigned, of_z, w32, w64, refl, sym, ap, ◌∙◌, arith}
use Rattle.std.specs.Prelude.{not, if◌then◌else◌}
use Rattle.std.specs.Int.{int_pow, is_negative}
use Rattle.std.proofs.lemmas.Int.{ints}
use Rattle.std.proofs.lemmas.Nat.{pow-add}
use Rattle.std.proofs.Math.IntN.{negsuc-*ℤ-pos, zero-*ℤ}
use Rattle.std.proofs.Math.Nat.{pow-suc, pow-zero}
use Rattle.apl_scalar.specs.Scalar.{exact, power}

once : (a : ℕ) → a ^ 1 ≡ a
once a = pow-suc a 0 ∙ ap (λ p. p * a) (pow-zero a) ∙ omega arith

pub first_power : (x : ℤ) → int_pow x 1 ≡ x
first_power (pos a) = ap pos (once a)
first_power (negsuc a) = ap (λ m. neg_ℤ (pos m)) (once (suc a))

times_negative : (k m : ℕ) → pos k *ℤ neg_ℤ (pos m) ≡ neg_ℤ (pos (k * m))
times_negative k zero = let none : k * 0 ≡ 0 = omega arith in rw none refl
times_negative k (suc m) = refl

abbrev same : Bool → Bool → Bool
same true even = even
same false even = not even

signed_product : (p q : Bool) (m n : ℕ) → (if p then pos m else neg_ℤ (pos m)) *ℤ (if q then pos n else neg_ℤ (pos n)) ≡ (if same p q then pos (m * n) else neg_ℤ (pos (m * n)))
signed_product true true m n = refl
signed_product true false m n = times_negative m n
signed_product false true zero n = let none : 0 * n ≡ 0 = omega arith in rw none refl
signed_product false true (suc m) n = negsuc-*ℤ-pos m n
signed_product false false zero n = let none : 0 * n ≡ 0 = omega arith in rw none (zero-*ℤ (neg_ℤ (pos n)))
signed_product false false (suc m) zero = let none : suc m * 0 ≡ 0 = omega arith in rw none refl
signed_product false false (suc m) (suc n) = refl

parity : (m n : ℕ) (p q : Bool) → (m % 2 == 0) ≡ p → (n % 2 == 0) ≡ q → ((m + n) % 2 == 0) ≡ same p q
parity m n true true is are = grind (arith, is, are)
parity m n true false is are = grind (arith, is, are)
parity m n false true is are = grind (arith, is, are)
parity m n false false is are = grind (arith, is, are)

-- the product of two powers has the sum of their exponents
pub power_sum : (x : ℤ) (m n : ℕ) → int_pow x m *ℤ int_pow x n ≡ int_pow x (m + n)
power_sum (pos a) m n = ap pos (sym (pow-add a m n))
power_sum (negsuc a) m n =
    signed_product (m % 2 == 0) (n % 2 == 0) (suc a ^ m) (suc a ^ n)
    ∙ ap (λ even. if even then pos (suc a ^ m * suc a ^ n) else neg_ℤ (pos (suc a ^ m * suc a ^ n))) (sym (parity m n _ _ refl refl))
    ∙ ap (λ k. if (m + n) % 2 == 0 then pos k else neg_ℤ (pos k)) (sym (pow-add (suc a) m n))

pub no_power : (x : ℤ) → int_pow x 0 ≡ pos 1
no_power (pos a) = ap pos (pow-zero a)
no_power (negsuc a) = ap pos (pow-zero (suc a))

-- a square to the power of one bit
pub power_of_square : (x : ℤ) (bit : ℕ) → bit ≤ 1 → int_pow (x *ℤ x) bit ≡ int_pow x (bit + bit)
power_of_square x zero most = no_power (x *ℤ x) ∙ sym (no_power x)
power_of_square x (suc zero) most = first_power (x *ℤ x) ∙ ap (λ z. z *ℤ z) (sym (first_power x)) ∙ power_sum x 1 1
power_of_square x (suc (suc bit)) most = absurd (omega (arith, most))

-- the power by one bit is 1 or the number itself
pub narrow_power : (x : ℤ) (bit : ℕ) → bit ≤ 1 → FitsSigned w32 x → FitsSigned w32 (int_pow x bit)
narrow_power x zero most fits = rw (no_power x) (omega (arith, ints))
narrow_power x (suc zero) most fits = rw (first_power x) fits
narrow_power x (suc (suc bit)) most fits = absurd (omega (arith, most))

-- a number whose 64 bits are below 8 is not negative
pub small_natural : (y : ℤ) (n : ℕ) → FitsSigned w64 y → n ≡ of_z w64 y → n < 8 → y ≡ pos n
small_natural (pos m) n fits is small = ap pos (omega (arith, ints, fits, is))
small_natural (negsuc m) n fits is small = absurd (omega (arith, ints, fits, is, small))

pub natural_power : (x : ℤ) (n : ℕ) → power x (pos n) ≡ exact (int_pow x n)
natural_power x n = let natural : is_negative (pos n) ≡ false = grind (arith, ints) in rw natural refl

-- Powers from the 64th on: they leave the range, but for those of -1, 0 and 1.
use Rattle.std.proofs.Common.{◌≡◌, ℕ, zero, suc, ◌%◌, ◌^◌, ◌<◌, ◌≤◌, ◌==◌, Bool, true, false, ℤ, pos, negsuc, neg_ℤ, Ok, Err, refl, sym, ap, ◌∙◌, to_z, of_z, ◌≤ℤ◌, ◌<ℤ◌, arith}
use Rattle.std.specs.Prelude.{FitsSigned, unsigned_abs, if◌then◌else◌}
use Rattle.std.specs.Int.{w64, int_pow}
use Rattle.std.proofs.lemmas.Int.{ints}
use Rattle.std.proofs.Math.Nat.{pow-suc, pow-le-pow_left, pow-le-pow_right}
use Rattle.apl_pool.specs.declared.kernel.Fault.TheVariants.{Limit}
use Rattle.apl_scalar.specs.Scalar.{exact}
use Rattle.apl_scalar.proofs.Exact.{RangeLaw, exact_past}

one_pow : (n : ℕ) → 1 ^ n ≡ 1
one_pow zero = refl
one_pow (suc n) = omega (arith, pow-suc 1 n, one_pow n)

zero_pow : (n : ℕ) → 0 < n → 0 ^ n ≡ 0
zero_pow zero some = absurd (omega arith)
zero_pow (suc n) some = omega (arith, pow-suc 0 n)

pub power_of_zero : (n : ℕ) → 0 < n → Ok (pos 0) ≡ exact (int_pow (pos 0) n)
power_of_zero n some = rw (zero_pow n some) refl

pub power_of_one : (n : ℕ) → Ok (pos 1) ≡ exact (int_pow (pos 1) n)
power_of_one n = rw (one_pow n) refl

sign_in_range : (even : Bool) → exact (if even then pos 1 else neg_ℤ (pos 1)) ≡ Ok (if even then pos 1 else negsuc 0)
sign_in_range true = refl
sign_in_range false = refl

pub power_of_minus_one_is : (n : ℕ) → exact (int_pow (negsuc 0) n) ≡ Ok (if n % 2 == 0 then pos 1 else negsuc 0)
power_of_minus_one_is n = rw (one_pow n) (sign_in_range (n % 2 == 0))

large : (a n : ℕ) → 2 ≤ a → 64 ≤ n → 2 ^ 64 ≤ a ^ n
large a n two most =
    let up = pow-le-pow_right (let h : 0 < 2 = omega arith in h) most in
    let wide = pow-le-pow_left two n in
    omega (arith, up, wide)

beyond : (m : ℕ) → 2 ^ 64 ≤ m → FitsSigned w64 (pos m) → ⊥
beyond m far fits = omega (arith, ints)

beyond_negative : (m : ℕ) → 2 ^ 64 ≤ m → FitsSigned w64 (neg_ℤ (pos m)) → ⊥
beyond_negative m far fits = omega (arith, ints)

beyond_either : (m : ℕ) (even : Bool) → 2 ^ 64 ≤ m → FitsSigned w64 (if even then pos m else neg_ℤ (pos m)) → ⊥
beyond_either m true far fits = beyond m far fits
beyond_either m false far fits = beyond_negative m far fits

pub large_power_past : (range : RangeLaw) (x : ℤ) (n : ℕ) → 2 ≤ unsigned_abs x → 64 ≤ n → exact (int_pow x n) ≡ Err Limit
large_power_past range (pos a) n two most = exact_past range (pos (a ^ n)) (beyond (a ^ n) (large a n two most))
large_power_past range (negsuc a) n two most = exact_past range (int_pow (negsuc a) n) (beyond_either (suc a ^ n) (n % 2 == 0) (large (suc a) n two most))

-- those of 0 and 1 are themselves
pub power_of_bit : (x : ℤ) (n : ℕ) → pos 0 ≤ℤ x → unsigned_abs x ≤ 1 → 0 < n → Ok x ≡ exact (int_pow x n)
power_of_bit (pos zero) n natural small some = power_of_zero n some
power_of_bit (pos (suc zero)) n natural small some = power_of_one n
power_of_bit (pos (suc (suc m))) n natural small some = absurd (omega arith)
power_of_bit (negsuc m) n natural small some = absurd (omega (arith, ints))

pub minus_one : (x : ℤ) → x <ℤ pos 0 → unsigned_abs x ≤ 1 → x ≡ negsuc 0
minus_one (pos m) below small = absurd (omega (arith, ints))
minus_one (negsuc zero) below small = refl
minus_one (negsuc (suc m)) below small = absurd (omega arith)

passed_sign : (even : Bool) → to_z w64 (of_z w64 (if even then pos 1 else negsuc 0)) ≡ (if even then pos 1 else negsuc 0)
passed_sign true = refl
passed_sign false = refl

pub minus_one_is : (n : ℕ) (sign : ℤ) → sign ≡ (if n % 2 == 0 then pos 1 else negsuc 0) → Ok (to_z w64 (of_z w64 sign)) ≡ exact (int_pow (negsuc 0) n)
minus_one_is n sign is = rw is (ap Ok (passed_sign (n % 2 == 0)) ∙ sym (power_of_minus_one_is n))

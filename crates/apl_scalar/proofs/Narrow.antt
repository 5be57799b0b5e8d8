-- Numbers that 32 bits hold, and the low 32 bits of others.
use Rattle.std.proofs.Common.{◌≡◌, ℕ, zero, suc, ◌+◌, ◌-◌, ◌*◌, ◌/◌, ◌%◌, ◌^◌, ◌<◌, ℤ, pos, negsuc, ◌+ℤ◌, w32, w64, of_z, bit_and, FitsSigned, refl, ap, ◌∙◌, ⊎_elim, arith}
use Rattle.std.specs.Prelude.{IsTrue, ◌<ℤ◌, Ok}
use Rattle.std.specs.Int.{cast_signed, int_rem_euclid, int_wrap}
use Rattle.std.specs.Ordering.{int_eq}
use Rattle.std.proofs.lemmas.Bool.{cases_Bool}
use Rattle.std.proofs.lemmas.Bool.Decides.{Decides-int_eq}
use Rattle.std.proofs.lemmas.Int.{ints, int_wrap_fits}
use Rattle.std.proofs.lemmas.Nat.{and_mask, div-add-mod', mod-mul-add}
use Rattle.std.proofs.Math.Nat.{mod-lt}
use Rattle.apl_scalar.specs.Arithmetic.{residue}
use Rattle.apl_array.specs.declared.array.Elem.{Elem}
use Rattle.apl_array.specs.declared.array.Elem.TheVariants.{Int, Chr}
use Rattle.apl_array.specs.declared.function.ScalarFunction.TheVariants.{Stile}
use Rattle.apl_answer.specs.Elements.{element_outcome}
use Rattle.apl_scalar.specs.Scalar.{as_element, dyadic_of, has_narrow_residues, narrow_outcome}
use Rattle.apl_scalar.proofs.Residues.{residue_pos, residue_zero, residue_neg}

-- the low bits of a negative number's bits
low_negative : (k n : ℕ) → n + suc k ≡ 2 ^ 64 → n % 2 ^ 32 ≡ 2 ^ 32 - 1 - k % 2 ^ 32
low_negative k n whole =
    let below = mod-lt k (let h : 0 < 2 ^ 32 = omega arith in h) in
    let parts : n ≡ (2 ^ 32 - 1 - k / 2 ^ 32) * 2 ^ 32 + (2 ^ 32 - 1 - k % 2 ^ 32) = omega (arith, whole, below, div-add-mod' k (2 ^ 32)) in
    ap (λ x. x % 2 ^ 32) parts ∙ mod-mul-add (2 ^ 32 - 1 - k / 2 ^ 32) (2 ^ 32) (2 ^ 32 - 1 - k % 2 ^ 32) (omega (arith, below))

-- a remainder that is never negative is below the divisor's magnitude
rest_fits : (b : ℤ) (m : ℕ) → m < 2147483648 → FitsSigned w32 (int_rem_euclid b (pos (suc m)))
rest_fits (pos k) m small = let below = mod-lt k (let h : 0 < suc m = omega arith in h) in omega (arith, ints, small, below)
rest_fits (negsuc k) m small = omega (arith, ints, small)

negative_fits : (b : ℤ) (m : ℕ) → m < 2147483648 → FitsSigned w32 (int_rem_euclid b (negsuc m) +ℤ negsuc m)
negative_fits (pos k) m small = let below = mod-lt k (let h : 0 < suc m = omega arith in h) in omega (arith, ints, small, below)
negative_fits (negsuc k) m small = omega (arith, ints, small)

residue_fits : (a b : ℤ) → IsTrue (has_narrow_residues a) → FitsSigned w32 (residue a b)
residue_fits (pos zero) b narrow = absurd cc
residue_fits (pos (suc m)) b narrow =
    rw (residue_pos (pos (suc m)) b (omega (arith, ints))) (rest_fits b m (grind (arith, narrow)))
residue_fits (negsuc m) b narrow =
    let small : m < 2147483648 = grind (arith, narrow) in
    let below : negsuc m <ℤ pos 0 = omega (arith, ints) in
    ⊎_elim
    (λ is. rw (residue_zero (negsuc m) b below ((Decides-int_eq (int_rem_euclid b (negsuc m)) (pos 0)).0 is)) (omega (arith, ints)))
    (λ is_not. rw (residue_neg (negsuc m) b below (λ e. absurd (grind (arith, e, is_not)))) (negative_fits b m small))
    (cases_Bool (int_eq (int_rem_euclid b (negsuc m)) (pos 0)))

pub narrow_residue : (a : ℤ) (y : Elem) → IsTrue (has_narrow_residues a) → element_outcome Int (narrow_outcome (dyadic_of Stile (Int a) y)) ≡ as_element (dyadic_of Stile (Int a) y)
narrow_residue a (Int b) narrow = ap (λ z. Ok (Int z)) (int_wrap_fits w32 (residue a b) (residue_fits a b narrow))
narrow_residue a (Chr c) narrow = refl

-- the low 32 bits of a number, as they are masked
pub masked : (z : ℤ) → FitsSigned w64 z → (n : ℕ) → n ≡ of_z w64 z → cast_signed w32 (bit_and n 4294967295) ≡ int_wrap w32 z
unfolding int_wrap
masked (pos k) fits n is = rw (and_mask n 32, is) refl
masked (negsuc k) fits n is =
    let low : n % 2 ^ 32 ≡ 2 ^ 32 - 1 - k % 2 ^ 32 = low_negative k n (omega (arith, ints, fits, is)) in
    rw (and_mask n 32, low) refl

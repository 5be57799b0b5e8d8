-- What a carry and its digit are of the number that a radix takes apart, in exact numbers.
use Rattle.std.proofs.Common.{◌≡◌, zero, suc, ℤ, pos, negsuc, ◌+ℤ◌, ◌*ℤ◌, ap, ◌∙◌, arith}
use Rattle.std.proofs.lemmas.Int.{ints}
use Rattle.apl_scalar.specs.Arithmetic.{floor_quotient, residue}
use Rattle.apl_reduce.specs.Encoding.{carried}
use Rattle.apl_reduce.proofs.Carries.{carried_some}
use Rattle.apl_reduce.proofs.Residues.{IsWithin, residue_some, residue_within}
use Rattle.std.proofs.Math.IntN.{*ℤ_comm}

taken_apart : (a c : ℤ) → (a ≡ pos 0 → ⊥) → carried a c *ℤ a +ℤ residue a c ≡ c
taken_apart a c some =
    let order = *ℤ_comm (floor_quotient c a) a in
    ap (λ q. q *ℤ a +ℤ residue a c) (carried_some a c some) ∙ ap (λ r. floor_quotient c a *ℤ a +ℤ r) (residue_some a c some) ∙ omega (arith, ints, order)

-- what is carried past a radix, times the radix, and the digit are the number
pub carry_and_digit : (a c : ℤ) → carried a c *ℤ a +ℤ residue a c ≡ c
carry_and_digit (pos zero) c = omega (arith, ints)
carry_and_digit (pos (suc n)) c = taken_apart (pos (suc n)) c (λ e. absurd (omega (arith, ints, e)))
carry_and_digit (negsuc n) c = taken_apart (negsuc n) c (λ e. absurd (omega (arith, ints, e)))

-- the digit at a radix that is not 0 is 0, or of its sign and nearer to 0
pub digit_within : (a c : ℤ) → (a ≡ pos 0 → ⊥) → IsWithin a (residue a c)
digit_within a c some = residue_within a c some

-- What is left of a carry.
use Rattle.std.proofs.Common.{◌≡◌, ◌^◌, ◌≤◌, ℤ, pos, ◌-ℤ◌, ◌*ℤ◌, FitsSigned, to_z, of_z, w64, sym, ap, ◌∙◌}
use Rattle.std.specs.Prelude.{unsigned_abs}
use Rattle.std.specs.Int.{w128}
use Rattle.std.proofs.lemmas.Int.{to_z-of_z}
use Rattle.apl_scalar.specs.Arithmetic.{floor_quotient, residue}
use Rattle.apl_reduce.proofs.Casts.{size_within, within_128, product_within, difference_within, wide}
use Rattle.apl_reduce.proofs.Residues.{residue_some}

pub left_fits_cast : (carry radix q : ℤ) → unsigned_abs carry ≤ 2 ^ 63 → FitsSigned w64 radix → unsigned_abs q ≤ 2 ^ 63
    → FitsSigned w128 (to_z w128 (of_z w128 carry) -ℤ to_z w128 (of_z w128 (to_z w128 (of_z w128 (to_z w64 (of_z w64 radix))) *ℤ to_z w128 (of_z w128 q))))
left_fits_cast carry radix q near fits nigh =
    let size = size_within radix fits in
    let fc : FitsSigned w128 carry = within_128 carry near in
    let fq : FitsSigned w128 q = within_128 q nigh in
    let fp : FitsSigned w128 (radix *ℤ q) = product_within radix q size nigh in
    rw (to_z-of_z w128 carry fc, wide radix fits, to_z-of_z w128 q fq, to_z-of_z w128 (radix *ℤ q) fp) (difference_within carry radix q near size nigh)

left_over : (carry radix q : ℤ) → unsigned_abs carry ≤ 2 ^ 63 → FitsSigned w64 radix → unsigned_abs q ≤ 2 ^ 63
    → to_z w128 (of_z w128 (to_z w128 (of_z w128 carry) -ℤ to_z w128 (of_z w128 (to_z w128 (of_z w128 (to_z w64 (of_z w64 radix))) *ℤ to_z w128 (of_z w128 q))))) ≡ carry -ℤ radix *ℤ q
left_over carry radix q near fits nigh =
    let size = size_within radix fits in
    let fc : FitsSigned w128 carry = within_128 carry near in
    let fr : FitsSigned w128 radix = within_128 radix size in
    let fq : FitsSigned w128 q = within_128 q nigh in
    let fp : FitsSigned w128 (radix *ℤ q) = product_within radix q size nigh in
    let fd : FitsSigned w128 (carry -ℤ radix *ℤ q) = difference_within carry radix q near size nigh in
    simp to_z-of_z

-- it is the residue
pub carry_left : (carry radix q : ℤ) → unsigned_abs carry ≤ 2 ^ 63 → FitsSigned w64 radix → FitsSigned w128 carry → unsigned_abs q ≤ 2 ^ 63 → (radix ≡ pos 0 → ⊥)
    → q ≡ floor_quotient (to_z w128 (of_z w128 carry)) (to_z w64 (of_z w64 radix))
    → to_z w128 (of_z w128 (to_z w128 (of_z w128 carry) -ℤ to_z w128 (of_z w128 (to_z w128 (of_z w128 (to_z w64 (of_z w64 radix))) *ℤ to_z w128 (of_z w128 q))))) ≡ residue radix carry
carry_left carry radix q near fits inside nigh some is =
    let quotient : q ≡ floor_quotient carry radix =
    is ∙ ap (λ x. floor_quotient x (to_z w64 (of_z w64 radix))) (to_z-of_z w128 carry inside) ∙ ap (floor_quotient carry) (to_z-of_z w64 radix fits) in
    left_over carry radix q near fits nigh ∙ ap (λ x. carry -ℤ radix *ℤ x) quotient ∙ sym (residue_some radix carry some)

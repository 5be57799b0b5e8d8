-- Residues and what is carried past a radix.
use Rattle.std.proofs.Common.{◌≡◌, ℕ, zero, suc, ◌*◌, ◌<◌, ℤ, pos, negsuc, neg_ℤ, ◌-ℤ◌, ◌*ℤ◌, refl, ⊎_elim, arith}
use Rattle.std.specs.Prelude.{◌<ℤ◌, ◌≤ℤ◌}
use Rattle.std.specs.Int.{div_ceil}
use Rattle.std.proofs.Math.Nat.{mod-lt}
use Rattle.std.proofs.lemmas.Grind.{div_ceil_times}
use Rattle.std.proofs.lemmas.Nat.{div-add-mod'}
use Rattle.std.specs.Ordering.{int_eq}
use Rattle.std.proofs.lemmas.Bool.{cases_Bool}
use Rattle.std.proofs.lemmas.Bool.Decides.{Decides-int_eq}
use Rattle.std.proofs.lemmas.Int.{ints}
use Rattle.apl_scalar.specs.Arithmetic.{floor_quotient, residue}

-- the residue by a number that is not 0
pub residue_some : (a b : ℤ) → (a ≡ pos 0 → ⊥) → residue a b ≡ b -ℤ a *ℤ floor_quotient b a
residue_some a b some =
    ⊎_elim
    (λ is. absurd (some ((Decides-int_eq a (pos 0)).0 is)))
    (λ is_not. rw is_not refl)
    (cases_Bool (int_eq a (pos 0)))

-- 0, or of the sign of a and nearer to 0
abbrev pub IsWithin : ℤ → ℤ → Type 0
IsWithin (pos a) r = (pos 0 ≤ℤ r) × (r <ℤ pos a)
IsWithin (negsuc a) r = (negsuc a <ℤ r) × (r ≤ℤ pos 0)

neg_times : (m d : ℕ) → negsuc m *ℤ neg_ℤ (pos d) ≡ pos (suc m * d)
neg_times m zero = omega (arith, ints)
neg_times m (suc d) = refl

left_within : (a b : ℤ) → (a ≡ pos 0 → ⊥) → IsWithin a (b -ℤ a *ℤ floor_quotient b a)
left_within (pos zero) b some = absurd (some refl)
left_within (pos (suc a)) (pos b) some =
    let rest = mod-lt b (let h : 0 < suc a = omega arith in h) in
    let whole = div-add-mod' b (suc a) in
    (omega (arith, ints, whole, rest), omega (arith, ints, whole, rest))
left_within (pos (suc a)) (negsuc b) some =
    let rest = mod-lt b (let h : 0 < suc a = omega arith in h) in
    let whole = div-add-mod' b (suc a) in
    (omega (arith, ints, whole, rest), omega (arith, ints, whole, rest))
left_within (negsuc a) (pos b) some =
    let ends = div_ceil_times b (suc a) (omega arith) in
    let product = neg_times a (div_ceil b (suc a)) in
    rw product (omega (arith, ints, ends.1), omega (arith, ints, ends.0))
left_within (negsuc a) (negsuc b) some =
    let rest = mod-lt (suc b) (let h : 0 < suc a = omega arith in h) in
    let whole = div-add-mod' (suc b) (suc a) in
    (omega (arith, ints, whole, rest), omega (arith, ints, whole, rest))

pub residue_within : (a b : ℤ) → (a ≡ pos 0 → ⊥) → IsWithin a (residue a b)
residue_within a b some = rw (residue_some a b some) (left_within a b some)

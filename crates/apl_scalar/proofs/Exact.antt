-- What is refused where an exact value leaves the range.
use Rattle.std.proofs.Common.{◌≡◌, ◌↔◌, ℕ, ◌^◌, ◌<◌, ◌≤◌, Bool, true, false, if◌then◌else◌, ℤ, pos, Ok, Err, refl, ⊎_elim, arith}
use Rattle.std.proofs.lemmas.Bool.{cases_Bool}
use Rattle.std.proofs.lemmas.Int.{ints}
use Rattle.std.specs.Prelude.{FitsSigned}
use Rattle.std.specs.Int.{w64}
use Rattle.apl_array.specs.Range.{IsInRange, in_range}
use Rattle.apl_pool.specs.declared.kernel.Fault.TheVariants.{Limit}
use Rattle.apl_scalar.specs.Scalar.{exact}

-- the test decides what is in the range, and that is what 64 bits hold
pub record RangeLaw : Type 0 where
  pub decided : (z : ℤ) → (in_range z ≡ true) ↔ IsInRange z
  pub bits : (z : ℤ) → IsInRange z ↔ FitsSigned w64 z

module _ (range : RangeLaw) where
  pub exact_fits : (z : ℤ) → FitsSigned w64 z → exact z ≡ Ok z
  exact_fits z h = let inside = (range.decided z).1 ((range.bits z).1 h) in rw inside refl

  pub exact_past : (z : ℤ) → (FitsSigned w64 z → ⊥) → exact z ≡ Err Limit
  exact_past z h =
      ⊎_elim
      (λ within. absurd (h ((range.bits z).0 ((range.decided z).0 within))))
      (λ beyond. rw beyond refl)
      (cases_Bool (in_range z))

  pub exact_small : (n : ℕ) → n < 2 ^ 63 → exact (pos n) ≡ Ok (pos n)
  exact_small n h = exact_fits (pos n) (search (arith, ints))

  pub exact_large : (n : ℕ) → 2 ^ 63 ≤ n → exact (pos n) ≡ Err Limit
  exact_large n h = exact_past (pos n) (λ fits. absurd (omega (arith, ints, fits)))

-- an exact number that is in the range is itself
pub exact_is : (z v : ℤ) → exact z ≡ Ok v → z ≡ v
exact_is z v is = by_test (in_range z) is
  where
    by_test : (inside : Bool) → (if inside then Ok z else Err Limit) ≡ Ok v → z ≡ v
    by_test true is = cc
    by_test false is = absurd cc

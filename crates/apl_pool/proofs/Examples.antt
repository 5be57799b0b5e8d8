-- Worked examples of what a pool answers, for kernels whose values are written out.
use Rattle.std.proofs.Common.{◌≡◌, ℕ, zero, suc, ◌*◌, ◌<◌, ℤ, pos, negsuc, [], ◌∷◌, Result, Ok, Err, arith, refl, lit<}
use Rattle.std.specs.Prelude.{◌-ℤ◌, IsOk, slice_index_or}
use Rattle.apl_pool.specs.declared.kernel.Fault.{Fault}
use Rattle.apl_pool.specs.declared.kernel.Fault.TheVariants.{Domain, Limit, Index}
use Rattle.apl_pool.specs.declared.kernel.Stop.TheVariants.{Fault as FaultAt}
use Rattle.apl_pool.specs.Pool.{AreValues, IsStopOf}
use Rattle.apl_pool.specs.Summaries.{fold_onto, and_then}

-- ---- the values at all places

abbrev square_at : ℕ → Result ℕ Fault
square_at place = Ok (place * place)

squares : AreValues square_at 4 (0 ∷ 1 ∷ 4 ∷ 9 ∷ [])
squares = record { len = refl; each = each }
  where
    each : (place : ℕ) (d : ℕ) → place < 4 → square_at place ≡ Ok (slice_index_or (0 ∷ 1 ∷ 4 ∷ 9 ∷ []) place d)
    each zero d below = refl
    each (suc zero) d below = refl
    each (suc (suc zero)) d below = refl
    each (suc (suc (suc zero))) d below = refl
    each (suc (suc (suc (suc place)))) d below = absurd (omega arith)

-- ---- the least place that has a fault

-- a value at 0 and 1, Domain at 2, Limit from there on
abbrev faulty_at : ℕ → Result ℕ Fault
faulty_at zero = Ok 5
faulty_at (suc zero) = Ok 7
faulty_at (suc (suc zero)) = Err Domain
faulty_at (suc (suc (suc place))) = Err Limit

least_place_decides : IsStopOf faulty_at 6 (FaultAt 2 Domain)
least_place_decides = record { below = lit< tt; faulty = refl; earlier = earlier }
  where
    earlier : (place : ℕ) → place < 2 → IsOk (faulty_at place)
    earlier zero below = refl
    earlier (suc zero) below = refl
    earlier (suc (suc place)) below = absurd (omega arith)

-- ---- folds: the last item is the first that meets what comes in

abbrev less : ℤ → ℤ → Result ℤ Fault
less x right = Ok (x -ℤ right)

-- 10 - (4 - (3 - 2))
differences : fold_onto less (pos 10 ∷ pos 4 ∷ pos 3 ∷ []) (pos 2) ≡ Ok (pos 7)
differences = refl

no_item : fold_onto less [] (pos 2) ≡ Ok (pos 2)
no_item = refl

-- an item of 0 is refused with Index, one below it with Domain: the last of them decides
abbrev judged : ℤ → ℤ → Result ℤ Fault
judged (pos zero) right = Err Index
judged (pos (suc n)) right = Ok right
judged (negsuc n) right = Err Domain

last_fault_decides : fold_onto judged (negsuc 0 ∷ pos 1 ∷ pos 0 ∷ pos 1 ∷ []) (pos 2) ≡ Err Index
last_fault_decides = refl

nothing_is_done_after_a_fault : and_then (Err Limit) (less (pos 1)) ≡ Err Limit
nothing_is_done_after_a_fault = refl

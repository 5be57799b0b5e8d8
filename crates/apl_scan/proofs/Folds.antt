-- Right folds of numbers, from the right one number more.
use Rattle.std.proofs.Common.{◌≡◌, ℕ, zero, suc, ℤ, ◌+◌, ◌-◌, ◌*◌, ◌<◌, ◌≤◌, Result, Err, ap, sym, ◌∙◌, arith}
use Rattle.apl_pool.specs.declared.kernel.Fault.{Fault}
use Rattle.apl_pool.specs.Summaries.{and_then}
use Rattle.apl_scan.specs.Lines.{folded}

split_steps : (stride before done : ℕ) → done < before → before * stride ≡ (done + 1) * stride + (before - (done + 1)) * stride
split_steps stride before done more =
    let parts : before ≡ (done + 1) + (before - (done + 1)) = omega (arith, more) in
    let all : before * stride ≡ ((done + 1) + (before - (done + 1))) * stride = ap (λ n. n * stride) parts in
    omega (arith, all)

-- a step to the left stays in the line
pub one_step_within : (place stride before done left : ℕ) → before * stride ≤ place → done < before → left ≡ place - done * stride → stride ≤ left
one_step_within place stride before done left within more is = omega (arith, split_steps stride before done more, within, is)

pub one_step_less : (place stride before done left : ℕ) → before * stride ≤ place → done < before → left ≡ place - done * stride → left - stride ≡ place - (done + 1) * stride
one_step_less place stride before done left within more is = omega (arith, is)

-- and comes to the number that stands so far behind the first
pub reached : (place stride before done left : ℕ) → before * stride ≤ place → done < before → left ≡ place - (done + 1) * stride → left ≡ place - before * stride + (before - (done + 1)) * stride
reached place stride before done left within more is = omega (arith, split_steps stride before done more, within, is)

module _ (step : ℤ → ℤ → Result ℤ Fault) (number : ℕ → ℤ) where
  -- one number more on the left of those behind k
  pub one_more : (k next more done : ℕ) (x : ℤ) (total : Result ℤ Fault) → next ≡ suc k → done ≡ suc more → x ≡ number k → total ≡ folded step number next more
      → and_then total (step x) ≡ folded step number k done
  one_more k next more done x total after count is all =
      ap (λ y. and_then total (step y)) is
      ∙ ap (λ t. and_then t (step (number k))) (all ∙ ap (λ n. folded step number n more) after)
      ∙ ap (folded step number k) (sym count)

  -- a fault is that of all numbers in front of it too
  pub fault_stays : (fault : Fault) (k more all : ℕ) → all ≡ k + more → folded step number k more ≡ Err fault → folded step number 0 all ≡ Err fault
  fault_stays fault zero more all count is = let same : all ≡ more = omega (arith, count) in ap (folded step number 0) same ∙ is
  fault_stays fault (suc k) more all count is = fault_stays fault k (suc more) all (omega (arith, count)) (ap (λ t. and_then t (step (number k))) is)

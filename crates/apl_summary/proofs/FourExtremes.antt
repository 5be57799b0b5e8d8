-- The least or the greatest of a run with four more items on the left.
use Rattle.std.proofs.Common.{◌≡◌, ℕ, ◌+◌, ◌-◌, ◌<◌, Bool, ℤ, Result, Ok, ap, sym, ◌∙◌, subst, arith}
use Rattle.apl_pool.specs.declared.kernel.Fault.{Fault}
use Rattle.apl_pool.specs.Summaries.{IsI64, IsSummaryFrom}
use Rattle.apl_scalar.specs.Scalar.{dyadic_numbers}
use Rattle.apl_summary.specs.declared.extremum.Extremum.{Extremum}
use Rattle.apl_summary.specs.Extremes.{extremum, extreme_function, extreme_of_two, extreme_outcome, extremum_of_one}
use Rattle.apl_summary.specs.ExtremeRuns.{IsExtremumFrom, IsBehindExtremum}
use Rattle.apl_summary.proofs.ExtremeItems.{joined_in_range, nested}
use Rattle.apl_summary.proofs.SmallRuns.{last_extremum, extremum_behind}

module _ (is_least : Bool) (outcome : ℕ → Result ℤ Fault) where
  pub extremum_with : (place to : ℕ) (x b : ℤ) → place < to → outcome place ≡ Ok x → IsI64 x → IsExtremumFrom is_least outcome (place + 1) to b
      → IsExtremumFrom is_least outcome place to (extreme_of_two is_least x b)
  extremum_with place to x b inside is range p =
      let count : 1 + (to - (place + 1)) ≡ to - place = omega (arith, inside) in
      let before = extremum (to - (place + 1)) b in
      let Sums : ℕ → Type 0 = λ n. IsSummaryFrom (dyadic_numbers (extreme_function is_least)) (λ (e : Extremum). e.count) (extreme_outcome is_least) outcome place to (extremum n (extreme_of_two is_least x b)) in
      (subst Sums count (extremum_behind is_least outcome place to x before inside is range p.1 p.0), joined_in_range is_least (extremum_of_one x) before range p.1)

  -- one item
  pub extremum_alone : (place : ℕ) (x : ℤ) → outcome place ≡ Ok x → IsI64 x → IsExtremumFrom is_least outcome place (place + 1) x
  extremum_alone place x is range =
      let one : 1 ≡ place + 1 - place = omega arith in
      let Sums : ℕ → Type 0 = λ n. IsSummaryFrom (dyadic_numbers (extreme_function is_least)) (λ (e : Extremum). e.count) (extreme_outcome is_least) outcome place (place + 1) (extremum n x) in
      (subst Sums one (last_extremum is_least outcome place x is range), range)

  pub moved : (m n to : ℕ) (b : ℤ) → m ≡ n → IsExtremumFrom is_least outcome m to b → IsExtremumFrom is_least outcome n to b
  moved m n to b same p = subst (λ k. IsExtremumFrom is_least outcome k to b) same p

  pub ending : (from m n : ℕ) (b : ℤ) → m ≡ n → IsExtremumFrom is_least outcome from m b → IsExtremumFrom is_least outcome from n b
  ending from m n b same p = subst (λ k. IsExtremumFrom is_least outcome from k b) same p

  two_and_two : (x y z w b : ℤ) → extreme_of_two is_least x (extreme_of_two is_least y (extreme_of_two is_least z (extreme_of_two is_least w b)))
      ≡ extreme_of_two is_least (extreme_of_two is_least (extreme_of_two is_least x y) (extreme_of_two is_least z w)) b
  two_and_two x y z w b =
      let e = extreme_of_two is_least in
      sym (nested is_least (e x y) (e z w) b ∙ ap (e (e x y)) (nested is_least z w b) ∙ nested is_least x y (e z (e w b)))

  pub extremum_with_four : (place : ℕ) (x y z w b : ℤ) → outcome place ≡ Ok x → outcome (place + 1) ≡ Ok y → outcome (place + 2) ≡ Ok z → outcome (place + 2 + 1) ≡ Ok w
      → IsI64 x → IsI64 y → IsI64 z → IsI64 w
      → IsBehindExtremum is_least outcome place (place + 4) b (extreme_of_two is_least (extreme_of_two is_least (extreme_of_two is_least x y) (extreme_of_two is_least z w)) b)
  extremum_with_four place x y z w b first second third fourth in_x in_y in_z in_w to inside p =
      let e = extreme_of_two is_least in
      let from_w = extremum_with (place + 2 + 1) to w b (omega (arith, inside)) fourth in_w (moved (place + 4) (place + 2 + 1 + 1) to b (omega arith) p) in
      let from_z = extremum_with (place + 2) to z (e w b) (omega (arith, inside)) third in_z from_w in
      let from_y = extremum_with (place + 1) to y (e z (e w b)) (omega (arith, inside)) second in_y (moved (place + 2) (place + 1 + 1) to (e z (e w b)) (omega arith) from_z) in
      let from_x = extremum_with place to x (e y (e z (e w b))) (omega (arith, inside)) first in_x from_y in
      subst (λ k. IsExtremumFrom is_least outcome place to k) (two_and_two x y z w b) from_x

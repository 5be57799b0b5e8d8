-- Folds of lines at four places, and values that are written there.
use Rattle.std.proofs.Common.{◌≡◌, ℕ, zero, suc, ℤ, ◌+◌, ◌-◌, ◌*◌, ◌/◌, ◌%◌, ◌<◌, ◌≤◌, List, length, Result, Ok, slice_index_or, sym, ap, ◌∙◌, arith}
use Rattle.apl_array.specs.declared.array.Elem.{Elem}
use Rattle.apl_array.specs.declared.function.ScalarFunction.{ScalarFunction}
use Rattle.apl_pool.specs.declared.kernel.Fault.{Fault}
use Rattle.apl_pool.specs.Runs.{AreWritten}
use Rattle.apl_reduce.specs.declared.four.Four.{Four}
use Rattle.apl_reduce.specs.FourFolds.{AreNeighbours}
use Rattle.apl_reduce.specs.Folded.{folded, element_along, fold_at}

-- a line of neighbours, by where its last item is
pub line_within : (items inner start len : ℕ) → inner ≡ 1 → 2 ≤ items → start + (items - 1) * inner < len → start + items ≤ len
line_within items inner start len near two inside =
    let same : (items - 1) * inner ≡ (items - 1) * 1 = ap (λ n. (items - 1) * n) near in
    omega (arith, same, two, inside)

pub line_fold : (f : ScalarFunction) (elements : List Elem) (items block inner place start : ℕ) (z : ℤ) → inner ≡ 1 → start ≡ place / inner * block + place % inner
    → folded f (element_along elements (start + 0) 1) 0 (items - 2) ≡ Ok z → fold_at f elements items block inner place ≡ Ok z
line_fold f elements items block inner place start z near begins all =
    let same : start ≡ start + 0 = omega arith in
    ap (λ i. folded f (element_along elements i inner) 0 (items - 2)) (sym begins ∙ same)
    ∙ ap (λ n. folded f (element_along elements (start + 0) n) 0 (items - 2)) near
    ∙ all

module _ (outcome : ℕ → Result ℤ Fault) (from : ℕ) (four : Four ℤ) (room : List ℤ) (first : outcome from ≡ Ok four.first) (second : outcome (from + 1) ≡ Ok four.second)
    (third : outcome (from + 2) ≡ Ok four.third) (fourth : outcome (from + 3) ≡ Ok four.fourth) (written : (d : ℤ) → AreNeighbours (λ k. slice_index_or room k d) 0 four) where
  each_of_four : (k : ℕ) (d : ℤ) → k < 4 → outcome (from + k) ≡ Ok (slice_index_or room k d)
  each_of_four zero d below = let here : from + zero ≡ from = omega arith in ap outcome here ∙ first ∙ ap Ok (written d).first
  each_of_four (suc zero) d below = let here : from + suc zero ≡ from + 1 = omega arith in ap outcome here ∙ second ∙ ap Ok (written d).second
  each_of_four (suc (suc zero)) d below = let here : from + suc (suc zero) ≡ from + 2 = omega arith in ap outcome here ∙ third ∙ ap Ok (written d).third
  each_of_four (suc (suc (suc zero))) d below = let here : from + suc (suc (suc zero)) ≡ from + 3 = omega arith in ap outcome here ∙ fourth ∙ ap Ok (written d).fourth
  each_of_four (suc (suc (suc (suc k)))) d below = absurd (omega (arith, below))

  pub four_written : 4 ≤ length room → AreWritten outcome from (from + 4) room
  four_written most = record { room = omega (arith, most); each = λ k d h. each_of_four k d (omega (arith, h)) }

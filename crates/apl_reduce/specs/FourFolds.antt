-- Folds of four runs of neighbours that are read side by side. No contract of a public function cites this file.
use Rattle.std.specs.Prelude.{◌≡◌, ℕ, ℤ, ◌+◌, ◌-◌, ◌^◌, ◌<◌, ◌≤◌, ◌+ℤ◌, List, Ok, map, unsigned_abs}
use Rattle.apl_array.specs.declared.array.Elem.{Elem}
use Rattle.apl_array.specs.declared.array.Elem.TheVariants.{Int}
use Rattle.apl_array.specs.declared.function.ScalarFunction.{ScalarFunction}
use Rattle.apl_reduce.specs.declared.four.Four.{Four}
use Rattle.apl_reduce.specs.declared.near_sums.NearSum.{NearSum}
use Rattle.apl_reduce.specs.declared.near_sums.PairSums.{PairSums}
use Rattle.apl_reduce.specs.Folded.{folded, folded_onto, element_along}
use Rattle.apl_reduce.specs.Items.{item_in}
use Rattle.apl_reduce.specs.Magnitudes.{IsSum}

-- what there is at four neighbouring places
pub record AreNeighbours {T : Type 0} (number : ℕ → T) (place : ℕ) (four : Four T) : Type 0 where
  pub first : four.first ≡ number place
  pub second : four.second ≡ number (place + 1)
  pub third : four.third ≡ number (place + 2)
  pub fourth : four.fourth ≡ number (place + 3)

-- each run has `count` elements before place `end`
pub record AreRuns (starts : Four ℕ) (count end : ℕ) : Type 0 where
  pub first : starts.first + count ≤ end
  pub second : starts.second + count ≤ end
  pub third : starts.third + count ≤ end
  pub fourth : starts.fourth + count ≤ end

-- the sums of the first numbers of these pairs, which are neighbours from place `first` on, and of the second ones
pub record ArePairSums (numbers : List ℤ) (first pairs : ℕ) (sums : PairSums) : Type 0 where
  pub firsts : IsSum numbers first 2 pairs sums.firsts
  pub seconds : IsSum numbers (first + 1) 2 pairs sums.seconds

-- a run of numbers near 0 adds this to each total that is near 0
abbrev pub IsChange : ScalarFunction → List ℤ → (first count : ℕ) → NearSum → Type 0
IsChange f numbers first count change =
    change.bits < 2 ^ 47 → (total : ℤ) → unsigned_abs total < 2 ^ 62 → folded_onto f (item_in (map Int numbers)) first count (Ok total) ≡ Ok (total +ℤ change.sum)

-- each of four runs does
pub record AreChanges (f : ScalarFunction) (numbers : List ℤ) (starts : Four ℕ) (count : ℕ) (changes : Four NearSum) : Type 0 where
  pub first : IsChange f numbers starts.first count changes.first
  pub second : IsChange f numbers starts.second count changes.second
  pub third : IsChange f numbers starts.third count changes.third
  pub fourth : IsChange f numbers starts.fourth count changes.fourth

-- the right fold of each run of `count` elements onto its total
pub record AreFourFolds (f : ScalarFunction) (elements : List Elem) (starts : Four ℕ) (count : ℕ) (totals folds : Four ℤ) : Type 0 where
  pub first : folded_onto f (item_in elements) starts.first count (Ok totals.first) ≡ Ok folds.first
  pub second : folded_onto f (item_in elements) starts.second count (Ok totals.second) ≡ Ok folds.second
  pub third : folded_onto f (item_in elements) starts.third count (Ok totals.third) ≡ Ok folds.third
  pub fourth : folded_onto f (item_in elements) starts.fourth count (Ok totals.fourth) ≡ Ok folds.fourth

-- the right fold of each run of `count` elements, two and more, that are `done` after its start
pub record AreLineFolds (f : ScalarFunction) (elements : List Elem) (starts : Four ℕ) (done count : ℕ) (folds : Four ℤ) : Type 0 where
  pub first : folded f (element_along elements (starts.first + done) 1) 0 (count - 2) ≡ Ok folds.first
  pub second : folded f (element_along elements (starts.second + done) 1) 0 (count - 2) ≡ Ok folds.second
  pub third : folded f (element_along elements (starts.third + done) 1) 0 (count - 2) ≡ Ok folds.third
  pub fourth : folded f (element_along elements (starts.fourth + done) 1) 0 (count - 2) ≡ Ok folds.fourth

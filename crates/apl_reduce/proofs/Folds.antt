-- Right folds, from the right one item more.
use Rattle.std.proofs.Common.{◌≡◌, ℕ, zero, suc, ℤ, pos, ◌+◌, ◌-◌, ◌*◌, ◌<◌, ◌≤◌, List, Result, Ok, Err, slice_index_or, refl, ap, sym, ◌∙◌, arith}
use Rattle.apl_array.specs.declared.array.Elem.{Elem}
use Rattle.apl_array.specs.declared.array.Elem.TheVariants.{Int}
use Rattle.apl_array.specs.declared.function.ScalarFunction.{ScalarFunction}
use Rattle.apl_pool.specs.declared.kernel.Fault.{Fault}
use Rattle.apl_scalar.specs.Scalar.{dyadic_of}
use Rattle.apl_reduce.specs.Folded.{number_step, folded, folded_onto, element_along}
use Rattle.apl_reduce.specs.Items.{item_in}

-- the element at a place that is reached in steps
pub reached : (elements : List Elem) (first stride i place : ℕ) → place ≡ first + i * stride → slice_index_or elements place (Int (pos 0)) ≡ element_along elements first stride i
reached elements first stride i place is = ap (λ p. slice_index_or elements p (Int (pos 0))) is

-- a step back from where n steps lead
pub one_step_less : (first n k stride place : ℕ) → n ≡ k + 1 → place ≡ first + n * stride → place - stride ≡ first + k * stride
one_step_less first n k stride place is from =
    let far : place ≡ first + (k + 1) * stride = from ∙ ap (λ m. first + m * stride) is in
    omega (arith, far)

-- ---- folds onto what comes in

module _ (f : ScalarFunction) where
  -- one item more on the left
  pub one_onto : (item : ℕ → Elem) (k next n done : ℕ) (x : Elem) (total start : Result ℤ Fault) → next ≡ suc k → done ≡ suc n
      → x ≡ item k → total ≡ folded_onto f item next n start → number_step f x total ≡ folded_onto f item k done start
  one_onto item k next n done x total start after count is all =
      ap (λ y. number_step f y total) is
      ∙ ap (number_step f (item k)) (all ∙ ap (λ m. folded_onto f item m n start) after)
      ∙ ap (λ m. folded_onto f item k m start) (sym count)

  -- a fault that comes in
  pub fault_onto : (item : ℕ → Elem) (fault : Fault) (k n : ℕ) → folded_onto f item k n (Err fault) ≡ Err fault
  fault_onto item fault k zero = refl
  fault_onto item fault k (suc n) = ap (number_step f (item k)) (fault_onto item fault (suc k) n)

  -- two runs of items, the right one first
  pub two_runs : (item : ℕ → Elem) (k m n : ℕ) (start : Result ℤ Fault) → folded_onto f item k (m + n) start ≡ folded_onto f item k m (folded_onto f item (k + m) n start)
  two_runs item k zero n start =
      let none : zero + n ≡ n = omega arith in
      let here : k ≡ k + zero = omega arith in
      ap (λ i. folded_onto f item k i start) none ∙ ap (λ i. folded_onto f item i n start) here
  two_runs item k (suc m) n start =
      let more : suc m + n ≡ suc (m + n) = omega arith in
      let next : suc k + m ≡ k + suc m = omega arith in
      ap (λ i. folded_onto f item k i start) more
      ∙ ap (number_step f (item k)) (two_runs item (suc k) m n start ∙ ap (λ i. folded_onto f item (suc k) m (folded_onto f item i n start)) next)

  -- both halves of a run
  pub two_halves : (item : ℕ → Elem) (k n : ℕ) (start : Result ℤ Fault) → folded_onto f item k (2 * n) start ≡ folded_onto f item k n (folded_onto f item (k + n) n start)
  two_halves item k n start =
      let twice : 2 * n ≡ n + n = omega arith in
      ap (λ m. folded_onto f item k m start) twice ∙ two_runs item k n n start

  -- a fault is that of all items in front of it too
  pub fault_stays : (item : ℕ → Elem) (fault : Fault) (first k n all : ℕ) (start : Result ℤ Fault) → all ≡ k + n → folded_onto f item (first + k) n start ≡ Err fault
      → folded_onto f item first all start ≡ Err fault
  fault_stays item fault first k n all start count is =
      ap (λ i. folded_onto f item first i start) count ∙ two_runs item first k n start ∙ ap (folded_onto f item first k) is ∙ fault_onto item fault first k

  -- a run onto what those after it gave
  pub run_onto : (item : ℕ → Elem) (first next n rest count : ℕ) (total start : Result ℤ Fault) → rest ≡ next + n → rest ≤ count
      → total ≡ folded_onto f item (first + rest) (count - rest) start → folded_onto f item (first + next) n total ≡ folded_onto f item (first + next) (count - next) start
  run_onto item first next n rest count total start after within is =
      let place : first + rest ≡ first + next + n = omega (arith, after) in
      let all : n + (count - rest) ≡ count - next = omega (arith, after) in
      ap (folded_onto f item (first + next) n) (is ∙ ap (λ i. folded_onto f item i (count - rest) start) place)
      ∙ sym (two_runs item (first + next) n (count - rest) start)
      ∙ ap (λ i. folded_onto f item (first + next) i start) all

  -- the same items by other numbers, in a run
  pub same_run : (item other : ℕ → Elem) (k j n : ℕ) (start : Result ℤ Fault) → ((i : ℕ) → i < n → item (k + i) ≡ other (j + i)) → folded_onto f item k n start ≡ folded_onto f other j n start
  same_run item other k j zero start each = refl
  same_run item other k j (suc n) start each =
      let first : k ≡ k + 0 = omega arith in
      let same : j + 0 ≡ j = omega arith in
      ap (λ x. number_step f x (folded_onto f item (suc k) n start)) (ap item first ∙ each 0 (omega arith) ∙ ap other same)
      ∙ ap (number_step f (other j)) (same_run item other (suc k) (suc j) n start (λ i inside.
      let left : suc k + i ≡ k + suc i = omega arith in
      let right : j + suc i ≡ suc j + i = omega arith in
      ap item left ∙ each (suc i) (omega (arith, inside)) ∙ ap other right))

  -- and anywhere
  pub same_items : (item other : ℕ → Elem) (k j n : ℕ) (start : Result ℤ Fault) → ((i : ℕ) → item (k + i) ≡ other (j + i)) → folded_onto f item k n start ≡ folded_onto f other j n start
  same_items item other k j n start each = same_run item other k j n start (λ i inside. each i)

  -- two and more of the same items
  pub same_folded : (item other : ℕ → Elem) (k j more : ℕ) → ((i : ℕ) → item (k + i) ≡ other (j + i)) → folded f item k more ≡ folded f other j more
  same_folded item other k j zero each =
      let first : k ≡ k + 0 = omega arith in
      let same : j + 0 ≡ j = omega arith in
      let second : suc k ≡ k + 1 = omega arith in
      let same_second : j + 1 ≡ suc j = omega arith in
      ap (λ x. dyadic_of f x (item (suc k))) (ap item first ∙ each 0 ∙ ap other same)
      ∙ ap (dyadic_of f (other j)) (ap item second ∙ each 1 ∙ ap other same_second)
  same_folded item other k j (suc more) each =
      let first : k ≡ k + 0 = omega arith in
      let same : j + 0 ≡ j = omega arith in
      ap (λ x. number_step f x (folded f item (suc k) more)) (ap item first ∙ each 0 ∙ ap other same)
      ∙ ap (number_step f (other j)) (same_folded item other (suc k) (suc j) more (λ i.
      let left : suc k + i ≡ k + suc i = omega arith in
      let right : j + suc i ≡ suc j + i = omega arith in
      ap item left ∙ each (suc i) ∙ ap other right))

  -- all items, the last two first
  pub last_two_first : (item : ℕ → Elem) (k more : ℕ) → folded f item k more ≡ folded_onto f item k more (dyadic_of f (item (k + more)) (item (suc (k + more))))
  last_two_first item k zero = let here : k ≡ k + zero = omega arith in ap (λ i. dyadic_of f (item i) (item (suc i))) here
  last_two_first item k (suc more) =
      let next : suc k + more ≡ k + suc more = omega arith in
      ap (number_step f (item k)) (last_two_first item (suc k) more ∙ ap (λ i. folded_onto f item (suc k) more (dyadic_of f (item i) (item (suc i)))) next)

  -- a run of items, after the items on its right
  pub folded_by_runs : (item : ℕ → Elem) (k n more : ℕ) → folded f item k (n + more) ≡ folded_onto f item k n (folded f item (k + n) more)
  folded_by_runs item k n more =
      let last : k + (n + more) ≡ k + n + more = omega arith in
      let start = dyadic_of f (item (k + (n + more))) (item (suc (k + (n + more)))) in
      last_two_first item k (n + more)
      ∙ two_runs item k n more start
      ∙ ap (folded_onto f item k n) (ap (λ i. folded_onto f item (k + n) more (dyadic_of f (item i) (item (suc i)))) last ∙ sym (last_two_first item (k + n) more))

  -- neighbours by their places
  pub by_places : (elements : List Elem) (first n : ℕ) (start : Result ℤ Fault) → folded_onto f (element_along elements first 1) 0 n start ≡ folded_onto f (item_in elements) first n start
  by_places elements first n start =
      same_items (element_along elements first 1) (item_in elements) 0 first n start
      (λ i. let place : first + (0 + i) * 1 ≡ first + i = omega arith in ap (item_in elements) place)

  -- a line of neighbours, the last of which are folded first
  pub line_folded : (elements : List Elem) (start done count : ℕ) (last all : ℤ) → done + 2 ≤ count → folded f (element_along elements (start + done) 1) 0 (count - done - 2) ≡ Ok last
      → folded_onto f (item_in elements) start done (Ok last) ≡ Ok all → folded f (element_along elements (start + 0) 1) 0 (count - 2) ≡ Ok all
  line_folded elements start done count last all within last_is all_is =
      let item = element_along elements (start + 0) 1 in
      let more = count - done - 2 in
      let split : count - 2 ≡ done + more = omega (arith, within) in
      let place : (i : ℕ) → start + 0 + (0 + done + i) * 1 ≡ start + done + (0 + i) * 1 = λ i. omega arith in
      let here : start + 0 ≡ start = omega arith in
      ap (folded f item 0) split
      ∙ folded_by_runs item 0 done more
      ∙ ap (folded_onto f item 0 done) (same_folded item (element_along elements (start + done) 1) (0 + done) 0 more (λ i. ap (item_in elements) (place i)) ∙ last_is)
      ∙ by_places elements (start + 0) done (Ok last)
      ∙ ap (λ i. folded_onto f (item_in elements) i done (Ok last)) here
      ∙ all_is

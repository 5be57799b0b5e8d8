-- A run of items that are numbers folds as these.
use Rattle.std.proofs.Common.{◌≡◌, ℕ, zero, suc, ℤ, pos, ◌+◌, ◌-◌, ◌*◌, ◌<◌, ◌≤◌, List, map, slice_index_or, Option, Some, None, Result, Ok, Err, refl, sym, ap, ◌∙◌, arith}
use Rattle.std.specs.Prelude.{IfSome}
use Rattle.std.specs.Result.{result_ok}
use Rattle.std.proofs.Math.ListN.{get_or-map}
use Rattle.apl_array.specs.declared.array.Elem.{Elem}
use Rattle.apl_array.specs.declared.array.Elem.TheVariants.{Int}
use Rattle.apl_array.specs.declared.function.ScalarFunction.{ScalarFunction}
use Rattle.apl_pool.specs.declared.kernel.Fault.{Fault}
use Rattle.apl_reduce.specs.Folded.{folded_onto, element_along}
use Rattle.apl_reduce.specs.Folded
use Rattle.apl_scalar.specs.Meeting.{meeting_number}
use Rattle.apl_reduce.specs.Items.{as_number, number_step, folded_from, judged_items}
use Rattle.apl_reduce.proofs.JudgedItems.{judged_value}

-- a step by the element that a number is
step_of_number : (f : ScalarFunction) (z : ℤ) (r : Result ℤ Fault) → Folded.number_step f (Int z) r ≡ number_step f (Ok z) r
step_of_number f z (Ok y) = refl
step_of_number f z (Err fault) = refl

module _ (item : ℕ → Result ℤ Fault) (numbers : List ℤ) (f : ScalarFunction) (first count more : ℕ) (folded : ℤ)
    (each : (k : ℕ) → k < count → item (first + k) ≡ Ok (slice_index_or numbers k (pos 0)))
    (right : folded_from item f (first + count) more ≡ Ok folded) where
  element : (j : ℕ) → element_along (map Int numbers) 0 1 j ≡ Int (slice_index_or numbers j (pos 0))
  element j =
      let here : 0 + j * 1 ≡ j = omega arith in
      rw here (get_or-map Int numbers j (pos 0))

  folds_from : (j n : ℕ) → j + n ≡ count → folded_onto f (element_along (map Int numbers) 0 1) j n (Ok folded) ≡ folded_from item f (first + j) (n + more)
  folds_from j zero all =
      let end : first + count ≡ first + j = omega (arith, all) in
      let none : 0 + more ≡ more = omega arith in
      rw none (sym right ∙ ap (λ k. folded_from item f k more) end)
  folds_from j (suc n) all =
      let next : first + suc j ≡ first + j + 1 = omega arith in
      let longer : suc n + more ≡ suc (n + more) = omega arith in
      let rest = folded_onto f (element_along (map Int numbers) 0 1) (suc j) n (Ok folded) in
      rw longer
      (ap (λ x. Folded.number_step f x rest) (element j)
      ∙ step_of_number f (slice_index_or numbers j (pos 0)) rest
      ∙ ap (number_step f (Ok (slice_index_or numbers j (pos 0)))) (folds_from (suc j) n (omega (arith, all)) ∙ ap (λ k. folded_from item f k (n + more)) next)
      ∙ ap (λ x. number_step f x (folded_from item f (first + j + 1) (n + more))) (sym (each j (omega (arith, all)))))

  pub run_folds : folded_onto f (element_along (map Int numbers) 0 1) 0 count (Ok folded) ≡ folded_from item f first (count + more)
  run_folds =
      let start : first + 0 ≡ first = omega arith in
      folds_from 0 count (omega arith) ∙ ap (λ k. folded_from item f k (count + more)) start

some_of : (r total : Result ℤ Fault) → r ≡ total → IfSome (result_ok r) (λ z. total ≡ Ok z)
some_of (Ok z) total is = sym is
some_of (Err fault) total is = tt

-- what the numbers fold to is the fold of the items, if it is a number
pub run_value : (item : ℕ → Result ℤ Fault) (numbers : List ℤ) (f : ScalarFunction) (first count last : ℕ) (folded : ℤ) (r : Result ℤ Fault) (found : Option ℤ) → first + count ≤ last
    → ((k : ℕ) → k < count → item (first + k) ≡ Ok (slice_index_or numbers k (pos 0))) → folded_from item f (first + count) (last - (first + count)) ≡ Ok folded
    → r ≡ folded_onto f (element_along (map Int numbers) 0 1) 0 count (Ok folded) → found ≡ result_ok r → IfSome found (λ z. folded_from item f first (last - first) ≡ Ok z)
run_value item numbers f first count last folded r found below each right is ok =
    let all : count + (last - (first + count)) ≡ last - first = omega (arith, below) in
    rw ok (some_of r (folded_from item f first (last - first)) (is ∙ run_folds item numbers f first count (last - (first + count)) folded each right ∙ ap (folded_from item f first) all))

-- an item of a run is one of all items
pub item_of_run : (g : ScalarFunction) (left right : List Elem) (start stride other gap first k : ℕ)
    → meeting_number g left (start + first * stride) stride right (other + first * gap) gap (0 + k) ≡ meeting_number g left start stride right other gap (first + k)
item_of_run g left right start stride other gap first k =
    let here : start + first * stride + (0 + k) * stride ≡ start + (first + k) * stride = omega arith in
    let there : other + first * gap + (0 + k) * gap ≡ other + (first + k) * gap = omega arith in
    rw (here, there) refl

-- the fold of all items is what they are reduced to, if it is a number
pub number_of_fold : (item : ℕ → Result ℤ Fault) (f : ScalarFunction) (n : ℕ) (found : Option ℤ) → 0 < n → IfSome found (λ z. folded_from item f 0 (n - 1) ≡ Ok z)
    → IfSome found (λ z. as_number (judged_items item f n) ≡ Ok z)
number_of_fold item f n (Some z) some is =
    let all : n ≡ suc (n - 1) = omega (arith, some) in
    sym (judged_value item f (n - 1) (Ok z) (sym is) refl ∙ ap (λ m. as_number (judged_items item f m)) (sym all))
number_of_fold item f n None some is = tt

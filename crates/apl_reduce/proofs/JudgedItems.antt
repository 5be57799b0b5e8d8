-- Items that are folded from the last to the first, and judged from the first to the last.
use Rattle.std.proofs.Common.{◌≡◌, ℕ, zero, suc, ℤ, pos, ◌+◌, ◌-◌, ◌<◌, ◌≤◌, arith, List, ◌∷◌, map, Option, Some, None, Result, Ok, Err, refl, sym, ap, ◌∙◌}
use Rattle.std.specs.Prelude.{true}
use Rattle.std.specs.Result.{is_ok}
use Rattle.std.specs.List.{range_with_len}
use Rattle.apl_array.specs.declared.array.Elem.{Elem}
use Rattle.apl_array.specs.declared.array.Elem.TheVariants.{Int}
use Rattle.apl_array.specs.declared.function.ScalarFunction.{ScalarFunction}
use Rattle.apl_pool.specs.declared.kernel.Fault.{Fault}
use Rattle.apl_answer.specs.Pointwise.{and_first, collect_outcomes}
use Rattle.apl_scalar.specs.Scalar.{as_element, identity_of}
use Rattle.apl_reduce.specs.Folding.{fold_step, right_fold, identity_or_fault}
use Rattle.apl_reduce.specs.Items.{as_number, number_step, or_next_fault, folded_from, first_fault, judged_items}
use Rattle.apl_reduce.specs.Products.{judged_reduction}

-- the number of an item, and 0 for a faulty one
abbrev pub number_or_zero : Result ℤ Fault → ℤ
number_or_zero (Ok z) = z
number_or_zero (Err fault) = pos 0

-- all of the items, or the fault of the first faulty one
abbrev pub unless_fault : Option Fault → List Elem → Result (List Elem) Fault
unless_fault None items = Ok items
unless_fault (Some fault) items = Err fault

and_unless : (x : Elem) (first : Option Fault) (items : List Elem) → and_first x (unless_fault first items) ≡ unless_fault first (x ∷ items)
and_unless x None items = refl
and_unless x (Some fault) items = refl

judged_once : (r : Result ℤ Fault) (first : Option Fault) (items : List Elem) (outcomes : List (Result Elem Fault))
    → collect_outcomes outcomes ≡ unless_fault first items
    → collect_outcomes (as_element r ∷ outcomes) ≡ unless_fault (or_next_fault r first) (Int (number_or_zero r) ∷ items)
judged_once (Ok z) first items outcomes is = ap (and_first (Int z)) is ∙ and_unless (Int z) first items
judged_once (Err fault) first items outcomes is = refl

folded_once : (f : ScalarFunction) (r rest : Result ℤ Fault) (next : Option Fault) → or_next_fault r next ≡ None
    → fold_step f (Int (number_or_zero r)) (as_element rest) ≡ as_element (number_step f r rest)
folded_once f (Ok x) (Ok z) next none = refl
folded_once f (Ok x) (Err fault) next none = refl
folded_once f (Err fault) rest next none = absurd cc

none_before : (r : Result ℤ Fault) (next : Option Fault) → or_next_fault r next ≡ None → next ≡ None
none_before (Ok z) next none = none
none_before (Err fault) next none = absurd cc

one_number : (r : Result ℤ Fault) (next : Option Fault) → or_next_fault r next ≡ None → Ok (Int (number_or_zero r)) ≡ as_element r
one_number (Ok z) next none = refl
one_number (Err fault) next none = absurd cc

-- a fold that has a value had one on its right, and its item had one
stepped : (f : ScalarFunction) (r rest : Result ℤ Fault) (z : ℤ) → number_step f r rest ≡ Ok z → ((next : Option Fault) → next ≡ None → or_next_fault r next ≡ None) × ((y : ℤ) × (rest ≡ Ok y))
stepped f (Ok x) (Ok y) z is = (λ next none. none, (y, refl))
stepped f (Err fault) (Ok y) z is = absurd cc
stepped f r (Err fault) z is = absurd cc

pub number_of_element : (r : Result ℤ Fault) → as_number (as_element r) ≡ r
number_of_element (Ok z) = refl
number_of_element (Err fault) = refl

identity_is_number : (z : Option ℤ) → as_element (as_number (identity_or_fault z)) ≡ identity_or_fault z
identity_is_number (Some z) = refl
identity_is_number None = refl

module _ (item : ℕ → Result ℤ Fault) where
  items_from : ℕ → ℕ → List Elem
  items_from k n = map (λ i. Int (number_or_zero (item i))) (range_with_len k n)

  judged_from : (k n : ℕ) → collect_outcomes (map (λ i. as_element (item i)) (range_with_len k n)) ≡ unless_fault (first_fault item k n) (items_from k n)
  unfolding items_from
  judged_from k zero = refl
  judged_from k (suc n) = judged_once (item k) (first_fault item (k + 1) n) (items_from (k + 1) n) (map (λ i. as_element (item i)) (range_with_len (k + 1) n)) (judged_from (k + 1) n)

  -- without a faulty item the right fold of the list is that of the loop
  right_fold_from : (f : ScalarFunction) (k more : ℕ) → first_fault item k (suc more) ≡ None
      → right_fold f (Int (number_or_zero (item k))) (items_from (k + 1) more) ≡ as_element (folded_from item f k more)
  unfolding items_from
  right_fold_from f k zero none = one_number (item k) None none
  right_fold_from f k (suc more) none =
      ap (fold_step f (Int (number_or_zero (item k)))) (right_fold_from f (k + 1) more (none_before (item k) (first_fault item (k + 1) (suc more)) none))
      ∙ folded_once f (item k) (folded_from item f (k + 1) more) (first_fault item (k + 1) (suc more)) none

  -- where the fold has a value no item is faulty
  none_folded : (f : ScalarFunction) (k more : ℕ) (z : ℤ) → folded_from item f k more ≡ Ok z → first_fault item k (suc more) ≡ None
  none_folded f k zero z is = ap (λ r. or_next_fault r None) is
  none_folded f k (suc more) z is =
      let parts = stepped f (item k) (folded_from item f (k + 1) more) z is in
      parts.0 (first_fault item (k + 1) (suc more)) (none_folded f (k + 1) more parts.1.0 parts.1.1)

  -- what is judged, by whether an item is faulty
  judged_none : (f : ScalarFunction) (more : ℕ) → first_fault item 0 (suc more) ≡ None → judged_items item f (suc more) ≡ as_element (folded_from item f 0 more)
  unfolding items_from
  judged_none f more none =
      ap (judged_reduction f) (judged_from 0 (suc more) ∙ ap (λ first. unless_fault first (items_from 0 (suc more))) none) ∙ right_fold_from f 0 more none

  judged_fault : (f : ScalarFunction) (n : ℕ) (fault : Fault) → first_fault item 0 n ≡ Some fault → judged_items item f n ≡ Err fault
  judged_fault f n fault is = ap (judged_reduction f) (judged_from 0 n ∙ ap (λ first. unless_fault first (items_from 0 n)) is)

  judged_whole : (f : ScalarFunction) (more : ℕ) (r : Result ℤ Fault) → r ≡ folded_from item f 0 more → first_fault item 0 (suc more) ≡ None → r ≡ as_number (judged_items item f (suc more))
  judged_whole f more r is none = is ∙ sym (ap as_number (judged_none f more none) ∙ number_of_element (folded_from item f 0 more))

  pub judged_value : (f : ScalarFunction) (more : ℕ) (r : Result ℤ Fault) → r ≡ folded_from item f 0 more → is_ok r ≡ true → r ≡ as_number (judged_items item f (suc more))
  judged_value f more (Ok z) is ok = judged_whole f more (Ok z) is (none_folded f 0 more z (sym is))
  judged_value f more (Err fault) is ok = absurd cc

  -- what the search for the first faulty item has found decides
  pub judged_without_fault : (f : ScalarFunction) (n more : ℕ) (r : Result ℤ Fault) (found : Option Fault) → n ≡ suc more → r ≡ folded_from item f 0 more → found ≡ first_fault item 0 n → found ≡ None
      → r ≡ as_number (judged_items item f n)
  judged_without_fault f n more r found long is search none = rw long (judged_whole f more r is (rw long at (sym search ∙ none)))

  pub judged_with_fault : (f : ScalarFunction) (n : ℕ) (fault : Fault) (found : Option Fault) → found ≡ first_fault item 0 n → found ≡ Some fault → Err fault ≡ as_number (judged_items item f n)
  judged_with_fault f n fault found search is = sym (ap as_number (judged_fault f n fault (sym search ∙ is)))

  -- a number, or a fault
  judged_by : (f : ScalarFunction) (more : ℕ) (first : Option Fault) → first_fault item 0 (suc more) ≡ first → as_element (as_number (judged_items item f (suc more))) ≡ judged_items item f (suc more)
  judged_by f more None is =
      let same = judged_none f more is in
      ap (λ r. as_element (as_number r)) same ∙ ap as_element (number_of_element (folded_from item f 0 more)) ∙ sym same
  judged_by f more (Some fault) is =
      let same = judged_fault f (suc more) fault is in
      ap (λ r. as_element (as_number r)) same ∙ sym same

  pub judged_is_number : (f : ScalarFunction) (n : ℕ) → as_element (as_number (judged_items item f n)) ≡ judged_items item f n
  judged_is_number f zero = identity_is_number (identity_of f)
  judged_is_number f (suc more) = judged_by f more (first_fault item 0 (suc more)) refl

  -- ---- the fold in steps from the last item, and the search from the first

  pub next_folded : (f : ScalarFunction) (k last : ℕ) → 0 < k → k ≤ last
      → folded_from item f (k - 1) (last - (k - 1)) ≡ number_step f (item (k - 1)) (folded_from item f k (last - k))
  next_folded f k last some below =
      let more : last - (k - 1) ≡ suc (last - k) = omega arith in
      let next : k - 1 + 1 ≡ k = omega arith in
      rw more (ap (λ j. number_step f (item (k - 1)) (folded_from item f j (last - k))) next)

  passed_on : (f : ScalarFunction) (before k more : ℕ) (fault : Fault) → folded_from item f (k + before) more ≡ Err fault → folded_from item f k (before + more) ≡ Err fault
  passed_on f zero k more fault is = let same : k + 0 ≡ k = omega arith in let none : 0 + more ≡ more = omega arith in rw none (rw same at is)
  passed_on f (suc before) k more fault is =
      let same : k + suc before ≡ k + 1 + before = omega arith in
      let next : suc before + more ≡ suc (before + more) = omega arith in
      rw next (ap (number_step f (item k)) (passed_on f before (k + 1) more fault (rw same at is)))

  -- the fault that the fold meets is that of the whole
  fault_of_all : (f : ScalarFunction) (k last : ℕ) (fault : Fault) → k ≤ last → folded_from item f k (last - k) ≡ Err fault → Err fault ≡ folded_from item f 0 last
  fault_of_all f k last fault below is =
      let all : k + (last - k) ≡ last = omega arith in
      let start : 0 + k ≡ k = omega arith in
      sym (rw all at (passed_on f k 0 (last - k) fault (rw start is)))

  pub last_fault_of_all : (f : ScalarFunction) (last : ℕ) (r : Result ℤ Fault) (fault : Fault) → r ≡ item last → r ≡ Err fault → Err fault ≡ folded_from item f 0 last
  last_fault_of_all f last r fault here faulty =
      let none : last - last ≡ 0 = omega arith in
      fault_of_all f last last fault (omega arith) (rw none (sym here ∙ faulty))

  pub next_fault_of_all : (f : ScalarFunction) (k last : ℕ) (z : ℤ) (r : Result ℤ Fault) (fault : Fault) → 0 < k → k ≤ last → folded_from item f k (last - k) ≡ Ok z
      → r ≡ number_step f (item (k - 1)) (Ok z) → r ≡ Err fault → Err fault ≡ folded_from item f 0 last
  next_fault_of_all f k last z r fault some below value here faulty =
      fault_of_all f (k - 1) last fault (omega arith) (next_folded f k last some below ∙ ap (number_step f (item (k - 1))) value ∙ sym here ∙ faulty)

  pub search_goes_on : (k n : ℕ) (r : Result ℤ Fault) (z : ℤ) (found : Option Fault) → k < n → r ≡ item k → r ≡ Ok z → first_fault item k (n - k) ≡ found
      → first_fault item (k + 1) (n - (k + 1)) ≡ found
  search_goes_on k n r z found below here ok is =
      let more : n - k ≡ suc (n - (k + 1)) = omega arith in
      sym (ap (λ x. or_next_fault x (first_fault item (k + 1) (n - (k + 1)))) (sym here ∙ ok)) ∙ (rw more at is)

-- Reductions of the items along an axis, by the places of the items.
use Rattle.std.proofs.Common.{◌≡◌, ℕ, zero, suc, ℤ, pos, ◌+◌, ◌-◌, ◌*◌, ◌/◌, ◌%◌, ◌<◌, List, map, length, Result, Ok, Err, slice_index, slice_index_or, refl, ap, sym, ◌∙◌, ⊎_elim, arith}
use Rattle.std.specs.Prelude.{◌≤◌, ◌^◌, take, drop, insert, remove}
use Rattle.std.specs.List.{range_with_len}
use Rattle.std.proofs.lemmas.Bool.{cases_Bool, eqb-true}
use Rattle.apl_array.specs.declared.array.Elem.{Elem}
use Rattle.apl_array.specs.declared.array.Elem.TheVariants.{Int}
use Rattle.apl_array.specs.declared.function.ScalarFunction.{ScalarFunction}
use Rattle.apl_array.specs.Shape.{IsIndexOf, count_of, place_of, index_at}
use Rattle.apl_array.specs.Array.{ArrayValue, element_at}
use Rattle.apl_answer.specs.Arguments.{is_scalar, rank_of}
use Rattle.apl_answer.specs.Elements.{element_outcome, HaveOutcomes}
use Rattle.apl_pool.specs.declared.kernel.Fault.{Fault}
use Rattle.apl_scalar.specs.Scalar.{dyadic_of, as_element}
use Rattle.apl_reduce.specs.Folding.{fold_step, right_fold, reduction}
use Rattle.apl_reduce.specs.Folded.{number_step, folded, element_along, fold_at}
use Rattle.apl_reduce.specs.Reducing.{items_along}

step_is : (f : ScalarFunction) (x : Elem) (total : Result ℤ Fault) → as_element (number_step f x total) ≡ fold_step f x (as_element total)
step_is f x (Ok r) = refl
step_is f x (Err fault) = refl

-- a number as an element
pub outcome_is : (r : Result ℤ Fault) → element_outcome Int r ≡ as_element r
outcome_is (Ok z) = refl
outcome_is (Err fault) = refl

-- what is known of an axis where the result has elements
pub record AxisFacts (n inner : ℕ) : Type 0 where
  pub inner_some : 0 < inner
  pub block_most : n * inner ≤ 2 ^ 30

pub axis_facts : (outer n inner rest count : ℕ) → rest ≡ outer * inner → 0 < rest → count ≡ outer * n * inner → count ≤ 2 ^ 30 → AxisFacts n inner
axis_facts zero n inner rest count is some all most = absurd (omega (arith, is, some))
axis_facts (suc outer) n zero rest count is some all most = absurd (omega (arith, is, some))
axis_facts (suc outer) n (suc inner) rest count is some all most = record { inner_some = omega arith; block_most = omega (arith, all, most) }

-- the fold of items k and the more + 1 behind it
pub folded_is : (f : ScalarFunction) (item : ℕ → Elem) (k more : ℕ) → as_element (folded f item k more) ≡ right_fold f (item k) (map item (range_with_len (suc k) (suc more)))
folded_is f item k zero = refl
folded_is f item k (suc more) =
    let next : suc (suc k) ≡ suc k + 1 = omega arith in
    step_is f (item k) (folded f item (suc k) more)
    ∙ ap (fold_step f (item k)) (folded_is f item (suc k) more ∙ ap (λ j. right_fold f (item (suc k)) (map item (range_with_len j (suc more)))) next)

-- the same items have the same fold
pub folded_same : (f : ScalarFunction) (item other : ℕ → Elem) (n k more : ℕ) → k + more + 2 ≤ n → ((i : ℕ) → i < n → item i ≡ other i) → folded f item k more ≡ folded f other k more
folded_same f item other n k zero inside same =
    ap (λ x. dyadic_of f x (item (suc k))) (same k (omega (arith, inside))) ∙ ap (dyadic_of f (other k)) (same (suc k) (omega (arith, inside)))
folded_same f item other n k (suc more) inside same =
    ap (λ x. number_step f x (folded f item (suc k) more)) (same k (omega (arith, inside)))
    ∙ ap (number_step f (other k)) (folded_same f item other n (suc k) more (omega (arith, inside)) same)

-- an array with an axis has its items along it
pub items_are : (b : ArrayValue) (k : ℕ) (index : List ℕ) → k < rank_of b → items_along b k index ≡ map (λ i. element_at b (insert index k i)) (range_with_len 0 (slice_index b.shape k))
items_are b k index axis =
    ⊎_elim
    (λ none. let no : rank_of b ≡ 0 = eqb-true (rank_of b) 0 none in absurd (omega (arith, no, axis)))
    (λ some. rw some refl)
    (cases_Bool (is_scalar b))

-- a list of two and more items is folded
pub reduction_is : (f : ScalarFunction) (item : ℕ → Elem) (n : ℕ) → 2 ≤ n → as_element (folded f item 0 (n - 2)) ≡ reduction f (map item (range_with_len 0 n))
reduction_is f item zero two = absurd (omega (arith, two))
reduction_is f item (suc zero) two = absurd (omega (arith, two))
reduction_is f item (suc (suc more)) two =
    let rest : suc (suc more) - 2 ≡ more = omega arith in
    ap (λ m. as_element (folded f item 0 m)) rest ∙ folded_is f item 0 more

module _ (removed : (shape : List ℕ) (k : ℕ) → k < length shape → count_of (remove shape k) ≡ count_of (take k shape) * count_of (drop (k + 1) shape))
    (counted : (shape : List ℕ) (k : ℕ) → k < length shape → count_of shape ≡ count_of (take k shape) * slice_index shape k * count_of (drop (k + 1) shape)) where
  pub facts_along : (shape rest : List ℕ) (k : ℕ) → k < length shape → rest ≡ remove shape k → 0 < count_of rest → count_of shape ≤ 2 ^ 30
      → AxisFacts (slice_index shape k) (count_of (drop (k + 1) shape))
  facts_along shape rest k axis is some most =
      axis_facts (count_of (take k shape)) (slice_index shape k) (count_of (drop (k + 1) shape)) (count_of (remove shape k)) (count_of shape)
      (removed shape k axis) (omega (arith, some, ap count_of is)) (counted shape k axis) most

module _ (lawful : (shape : List ℕ) (place : ℕ) → place < count_of shape → IsIndexOf shape (index_at shape place))
    (below : (shape index : List ℕ) → IsIndexOf shape index → place_of shape index < count_of shape)
    (inserted : (shape index : List ℕ) (k i : ℕ) → k < length shape → IsIndexOf (remove shape k) index → i < slice_index shape k → IsIndexOf shape (insert index k i))
    (placed : (shape : List ℕ) (k place i : ℕ) → k < length shape → place < count_of (remove shape k)
    → place_of shape (insert (index_at (remove shape k) place) k i)
    ≡ (place / count_of (drop (k + 1) shape) * slice_index shape k + i) * count_of (drop (k + 1) shape) + place % count_of (drop (k + 1) shape)) where
  module _ (b : ArrayValue) (k : ℕ) (axis : k < length b.shape) where
    abbrev pub inner : ℕ
    inner = count_of (drop (k + 1) b.shape)

    abbrev pub first : ℕ → ℕ
    first place = place / inner * (slice_index b.shape k * inner) + place % inner

    -- the place of an item
    pub item_place : (place i : ℕ) → place < count_of (remove b.shape k) → place_of b.shape (insert (index_at (remove b.shape k) place) k i) ≡ first place + i * inner
    item_place place i inside = omega (arith, placed b.shape k place i axis inside)

    -- all items are elements
    pub item_within : (place i : ℕ) → place < count_of (remove b.shape k) → i < slice_index b.shape k → first place + i * inner < count_of b.shape
    item_within place i inside item =
        let index = insert (index_at (remove b.shape k) place) k i in
        let is : place_of b.shape index < count_of b.shape = below b.shape index (inserted b.shape (index_at (remove b.shape k) place) k i axis (lawful (remove b.shape k) place inside) item) in
        omega (arith, is, item_place place i inside)

    pub item_is : (place i : ℕ) → place < count_of (remove b.shape k) → element_along b.ravel (first place) inner i ≡ element_at b (insert (index_at (remove b.shape k) place) k i)
    item_is place i inside = ap (λ p. slice_index_or b.ravel p (Int (pos 0))) (sym (item_place place i inside))

    -- the reduction at a place
    pub axis_folded : (f : ScalarFunction) (place : ℕ) → 2 ≤ slice_index b.shape k → place < count_of (remove b.shape k)
        → as_element (folded f (element_along b.ravel (first place) inner) 0 (slice_index b.shape k - 2)) ≡ reduction f (items_along b k (index_at (remove b.shape k) place))
    axis_folded f place two inside =
        let n = slice_index b.shape k in
        let index = index_at (remove b.shape k) place in
        let item : ℕ → Elem = λ i. element_at b (insert index k i) in
        ap as_element (folded_same f (element_along b.ravel (first place) inner) item n 0 (n - 2) (omega (arith, two)) (λ i here. item_is place i inside))
        ∙ reduction_is f item n two
        ∙ ap (reduction f) (sym (items_are b k index axis))

    -- the folds are the reductions at all places
    pub outcomes_along : (f : ScalarFunction) (shape : List ℕ) (elements : List Elem) (items block apart : ℕ) → b.ravel ≡ elements → items ≡ slice_index b.shape k → block ≡ slice_index b.shape k * inner → apart ≡ inner
        → 2 ≤ slice_index b.shape k → shape ≡ remove b.shape k
        → HaveOutcomes Int (fold_at f elements items block apart) shape (λ index. reduction f (items_along b k index))
    outcomes_along f shape elements items block apart ravel items_is block_is apart_is two rest = λ place inside.
        let here : place < count_of (remove b.shape k) = rw rest at inside in
        outcome_is (fold_at f elements items block apart place) ∙ rw (items_is, block_is, apart_is, sym ravel, rest) (axis_folded f place two here)

-- The reductions of the items up to each place, by the places of the numbers.
use Rattle.std.proofs.Common.{◌≡◌, ℕ, zero, suc, ℤ, pos, ◌+◌, ◌-◌, ◌*◌, ◌/◌, ◌%◌, ◌<◌, ◌≤◌, List, map, length, Result, Ok, Err, slice_index, slice_index_or, refl, ap, sym, ◌∙◌, arith, div-add-mod', mul-pos}
use Rattle.std.specs.Prelude.{◌^◌, take, drop, slice_set}
use Rattle.std.specs.List.{range_with_len}
use Rattle.std.proofs.Math.Nat.{div-div-eq-div-mul, div-eq_of_lt-le}
use Rattle.std.proofs.Math.ListN.{get_or-map}
use Rattle.apl_array.specs.declared.array.Elem.{Elem}
use Rattle.apl_array.specs.declared.array.Elem.TheVariants.{Int}
use Rattle.apl_array.specs.declared.function.ScalarFunction.{ScalarFunction}
use Rattle.apl_array.specs.Shape.{count_of, place_of, index_at}
use Rattle.apl_array.specs.Array.{ArrayValue, element_in, element_at}
use Rattle.apl_answer.specs.Elements.{element_outcome, HaveOutcomes}
use Rattle.apl_pool.specs.declared.kernel.Fault.{Fault}
use Rattle.apl_pool.specs.Summaries.{and_then}
use Rattle.apl_scalar.specs.Scalar.{dyadic_numbers, as_element}
use Rattle.apl_reduce.specs.Folding.{fold_step, right_fold, reduction}
use Rattle.apl_scan.specs.Scanning.{items_up_to}
use Rattle.apl_scan.specs.Lines.{folded, number_along, numbers_before, scan_at}

step_is : (f : ScalarFunction) (x : ℤ) (total : Result ℤ Fault) → as_element (and_then total (dyadic_numbers f x)) ≡ fold_step f (Int x) (as_element total)
step_is f x (Ok r) = refl
step_is f x (Err fault) = refl

-- a number as an element
outcome_is : (r : Result ℤ Fault) → element_outcome Int r ≡ as_element r
outcome_is (Ok z) = refl
outcome_is (Err fault) = refl

folded_is : (f : ScalarFunction) (number : ℕ → ℤ) (k more : ℕ)
    → as_element (folded (dyadic_numbers f) number k more) ≡ right_fold f (Int (number k)) (map (λ j. Int (number j)) (range_with_len (suc k) more))
folded_is f number k zero = refl
folded_is f number k (suc more) =
    let item : ℕ → Elem = λ j. Int (number j) in
    let next : suc (suc k) ≡ suc k + 1 = omega arith in
    step_is f (number k) (folded (dyadic_numbers f) number (suc k) more)
    ∙ ap (fold_step f (item k)) (folded_is f number (suc k) more ∙ ap (λ j. right_fold f (item (suc k)) (map item (range_with_len j more))) next)

pub reduction_is : (f : ScalarFunction) (number : ℕ → ℤ) (n : ℕ) → as_element (folded (dyadic_numbers f) number 0 n) ≡ reduction f (map (λ j. Int (number j)) (range_with_len 0 (n + 1)))
reduction_is f number n =
    let all : n + 1 ≡ suc n = omega arith in
    folded_is f number 0 n ∙ ap (λ m. reduction f (map (λ j. Int (number j)) (range_with_len 0 m))) (sym all)

-- the places of a line begin at this one
place_parts : (place items inner : ℕ) → place - numbers_before items inner place * inner ≡ place / (items * inner) * items * inner + place % inner
place_parts place items inner =
    let row = div-add-mod' place inner in
    let line = div-add-mod' (place / inner) items in
    let turned : inner * items ≡ items * inner = omega arith in
    let block : place / inner / items ≡ place / (items * inner) = div-div-eq-div-mul place inner items ∙ ap (λ n. place / n) turned in
    let q = place / (items * inner) in
    let before = place / inner % items in
    let first : place / inner ≡ q * items + before = omega (arith, line, ap (λ n. n * items) block) in
    let all : place / inner * inner ≡ (q * items + before) * inner = ap (λ n. n * inner) first in
    omega (arith, row, all)

-- and one of them is so far behind the first
line_place : (place items inner i : ℕ) → place - numbers_before items inner place * inner + i * inner ≡ (place / (items * inner) * items + i) * inner + place % inner
line_place place items inner i = omega (arith, place_parts place items inner)

-- what is known of an axis of an array with elements
pub record IsAxis (items inner : ℕ) : Type 0 where
  pub items_some : 0 < items
  pub items_most : items ≤ 2 ^ 30
  pub inner_some : 0 < inner
  pub inner_most : inner ≤ 2 ^ 30

pub axis_is : (outer items inner count : ℕ) → count ≡ outer * items * inner → 0 < count → count ≤ 2 ^ 30 → IsAxis items inner
axis_is zero items inner count is some most = absurd (omega (arith, is, some))
axis_is (suc outer) zero inner count is some most = absurd (omega (arith, is, some))
axis_is (suc outer) (suc items) zero count is some most = absurd (omega (arith, is, some))
axis_is (suc outer) (suc items) (suc inner) count is some most =
    record { items_some = omega arith; items_most = omega (arith, is, most); inner_some = omega arith; inner_most = omega (arith, is, most) }

-- they are whole lines
pub whole_lines : (outer items inner count : ℕ) → 0 < items → 0 < inner → count ≡ outer * items * inner → count / (items * inner) * (items * inner) ≡ count
whole_lines outer items inner count items_some inner_some is =
    let some : 0 < items * inner = mul-pos items_some inner_some in
    let same : count / (items * inner) ≡ outer = div-eq_of_lt-le (items * inner) (omega (arith, is)) (omega (arith, is, some)) in
    ap (λ q. q * (items * inner)) same ∙ omega (arith, is)

-- the axis is of neighbours, and the elements are whole lines along it
pub record AreLines (shape : List ℕ) (k count : ℕ) : Type 0 where
  pub some : 0 < slice_index shape k
  pub whole : count / slice_index shape k * slice_index shape k ≡ count

pub are_lines : (shape : List ℕ) (k count : ℕ) → 1 ≡ count_of (drop (k + 1) shape) → count ≡ count_of shape
    → count_of shape ≡ count_of (take k shape) * slice_index shape k * count_of (drop (k + 1) shape) → 0 < count_of shape → count_of shape ≤ 2 ^ 30 → AreLines shape k count
are_lines shape k count near all product some most =
    let n = slice_index shape k in
    let apart = count_of (drop (k + 1) shape) in
    let axis = axis_is (count_of (take k shape)) n apart (count_of shape) product some most in
    let whole = whole_lines (count_of (take k shape)) n apart count axis.items_some axis.inner_some (all ∙ product) in
    let neighbours : n * apart ≡ n = ap (λ m. n * m) (sym near) ∙ omega arith in
    record { some = axis.items_some; whole = rw neighbours at whole }

module _ (placed : (shape : List ℕ) (k place i : ℕ) → k < length shape → place < count_of shape
    → place_of shape (slice_set (index_at shape place) k i)
    ≡ (place / (slice_index shape k * count_of (drop (k + 1) shape)) * slice_index shape k + i) * count_of (drop (k + 1) shape) + place % count_of (drop (k + 1) shape))
    (split : (shape : List ℕ) (k place : ℕ) → k < length shape → slice_index (index_at shape place) k ≡ place / count_of (drop (k + 1) shape) % slice_index shape k) where
  module _ (b : ArrayValue) (numbers : List ℤ) (k : ℕ) (axis : k < length b.shape) (ravel : b.ravel ≡ map Int numbers) where
    abbrev pub items : ℕ
    items = slice_index b.shape k

    abbrev pub inner : ℕ
    inner = count_of (drop (k + 1) b.shape)

    abbrev pub number : ℕ → ℕ → ℤ
    number place = number_along numbers (place - numbers_before items inner place * inner) inner

    item_is : (place i : ℕ) → place < count_of b.shape → element_at b (slice_set (index_at b.shape place) k i) ≡ Int (number place i)
    item_is place i inside =
        let there : place_of b.shape (slice_set (index_at b.shape place) k i) ≡ place - numbers_before items inner place * inner + i * inner =
        placed b.shape k place i axis inside ∙ sym (line_place place items inner i) in
        ap (element_in b) there
        ∙ ap (λ r. slice_index_or r (place - numbers_before items inner place * inner + i * inner) (Int (pos 0))) ravel
        ∙ get_or-map Int numbers (place - numbers_before items inner place * inner + i * inner) (pos 0)

    items_are : (place : ℕ) → place < count_of b.shape
        → items_up_to b k (index_at b.shape place) ≡ map (λ i. Int (number place i)) (range_with_len 0 (numbers_before items inner place + 1))
    items_are place inside =
        ap (λ n. map (λ i. element_at b (slice_set (index_at b.shape place) k i)) (range_with_len 0 (n + 1))) (split b.shape k place axis)
        ∙ same 0 (numbers_before items inner place + 1)
      where
        same : (from n : ℕ) → map (λ i. element_at b (slice_set (index_at b.shape place) k i)) (range_with_len from n) ≡ map (λ i. Int (number place i)) (range_with_len from n)
        same from zero = refl
        same from (suc n) = rw (item_is place from inside, same (from + 1) n) refl

    -- the folds are the reductions at all places
    pub outcomes_along : (f : ScalarFunction) (lines : List ℤ) (count apart : ℕ) → lines ≡ numbers → count ≡ items → apart ≡ inner
        → HaveOutcomes Int (scan_at (dyadic_numbers f) lines count apart) b.shape (λ index. reduction f (items_up_to b k index))
    outcomes_along f lines count apart lines_are count_is apart_is = λ place inside.
        outcome_is (scan_at (dyadic_numbers f) lines count apart place)
        ∙ rw (lines_are, count_is, apart_is) (reduction_is f (number place) (numbers_before items inner place))
        ∙ ap (reduction f) (sym (items_are place inside))

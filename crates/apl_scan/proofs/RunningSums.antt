-- Running sums along an axis, and where the sums of consecutive items leave the range.
use Rattle.std.proofs.Common.{◌≡◌, ◌↔◌, ℕ, zero, suc, ◌+◌, ◌-◌, ◌<◌, ◌≤◌, ℤ, pos, ◌+ℤ◌, true, false, Bool, List, [], ◌∷◌, map, take, drop, length, set, get_or, slice_index, slice_set, Result, Ok, Err, refl, ap, sym, ◌∙◌, subst, inl, inr, ⊎_elim, arith}
use Rattle.std.specs.Prelude.{◌⊎◌, All, IsTrue, ◌||◌, ◌==◌, if◌then◌else◌, min}
use Rattle.std.specs.List.{range_with_len}
use Rattle.std.proofs.lemmas.Bool.{cases_lt, cases_Bool, eqb-true}
use Rattle.std.proofs.lemmas.Int.{ints}
use Rattle.std.proofs.lemmas.List.{get_or_past, get_or-set_same, length-drop}
use Rattle.std.proofs.lemmas.List.Elements.{All-map}
use Rattle.std.proofs.lemmas.List.FromFn.{length-map-range_with_len, take-map-range_with_len}
use Rattle.std.proofs.Math.ListN.{get_or-map}
use Rattle.apl_array.specs.declared.array.Elem.{Elem}
use Rattle.apl_array.specs.declared.array.Elem.TheVariants.{Int}
use Rattle.apl_array.specs.declared.array.Kind.TheVariants.{Number}
use Rattle.apl_array.specs.declared.axis.Axis.{Axis}
use Rattle.apl_array.specs.declared.function.ScalarFunction.{ScalarFunction}
use Rattle.apl_array.specs.declared.function.ScalarFunction.TheVariants.{Plus}
use Rattle.apl_array.specs.Array.{ArrayValue, number_array, element_in, element_at}
use Rattle.apl_array.specs.Axes.{has_axis, axis_of}
use Rattle.apl_array.specs.Range.{IsInRange, in_range}
use Rattle.apl_array.specs.Shape.{IsIndexOf, place_of}
use Rattle.apl_pool.specs.declared.kernel.Fault.{Fault}
use Rattle.apl_pool.specs.declared.kernel.Fault.TheVariants.{Limit}
use Rattle.apl_answer.specs.declared.fault.OpFault.{OpFault}
use Rattle.apl_answer.specs.declared.fault.OpFault.TheVariants.{Index, Limit as Refused}
use Rattle.apl_answer.specs.Arguments.{number_of}
use Rattle.apl_answer.specs.Pointwise.{index_lists, answer_of}
use Rattle.apl_answer.specs.Rows.{first_failure_or, result_of}
use Rattle.apl_summary.specs.ConsecutiveSums.{total}
use Rattle.apl_reduce.specs.Folding.{reduction}
use Rattle.apl_reduce.specs.Refusals.{IsRefusedOr}
use Rattle.apl_reduce.specs.ExactFolds.{IsExactly, exact_fold_of, HasEndOutside}
use Rattle.apl_scan.specs.Scanning.{is_short, is_unchanged, items_up_to, scanned, scan_row}
use Rattle.apl_scan.specs.RunningSums.{line_through, HasSumOutsideAlong, running_sums}

-- what `limits_are_answered` and `exact_folds_decide` say
abbrev pub AnswerLaw : Type 0
AnswerLaw = (shape : List ℕ) (outcome : List ℕ → Result Elem Fault) (value : List ℕ → ℤ)
    → ((index : List ℕ) → IsIndexOf shape index → (outcome index ≡ Err Limit) ⊎ (outcome index ≡ Ok (Int (value index))))
    → IsRefusedOr Refused ((index : List ℕ) × IsIndexOf shape index × (outcome index ≡ Err Limit)) (number_array shape (map value (index_lists shape))) (answer_of shape outcome Number)

abbrev pub FoldLaw : Type 0
FoldLaw = (f : ScalarFunction) (exact : ℤ → ℤ → ℤ) (identity : ℤ) (numbers : List ℤ) → IsExactly f exact identity → All IsInRange numbers
    → IsRefusedOr Limit (HasEndOutside exact identity numbers) (Int (exact_fold_of exact identity numbers)) (reduction f (map Int numbers))

-- the same where something else holds exactly of the index lists whose outcome is LIMIT
answers_told : AnswerLaw → (shape : List ℕ) (outcome : List ℕ → Result Elem Fault) (Outside : List ℕ → Type 0) (value : List ℕ → ℤ)
    → ((index : List ℕ) → IsIndexOf shape index → IsRefusedOr Limit (Outside index) (Int (value index)) (outcome index))
    → IsRefusedOr Refused ((index : List ℕ) × IsIndexOf shape index × Outside index) (number_array shape (map value (index_lists shape))) (answer_of shape outcome Number)
answers_told law shape outcome Outside value each =
    let there = λ (index : List ℕ) (is : IsIndexOf shape index) (limit : outcome index ≡ Err Limit). ⊎_elim (λ one. one.0) (λ none. absurd (let e = sym none.1 ∙ limit in cc)) (each index is) in
    let back = λ (index : List ℕ) (is : IsIndexOf shape index) (outside : Outside index). ⊎_elim (λ one. one.1) (λ none. absurd (none.0 outside)) (each index is) in
    ⊎_elim
    (λ one. inl ((one.0.0, one.0.1, there one.0.0 one.0.1 one.0.2), one.1))
    (λ none. inr (λ w. none.0 (w.0, w.1, back w.0 w.1 w.2), none.1))
    (law shape outcome value (λ index is. ⊎_elim (λ one. inl one.1) (λ none. inr none.1) (each index is)))

abbrev plus : ℤ → ℤ → ℤ
plus = λ x y. x +ℤ y

fold_is : (numbers : List ℤ) → exact_fold_of plus (pos 0) numbers ≡ total numbers
fold_is [] = refl
fold_is (x ∷ rest) = ap (λ t. x +ℤ t) (fold_is rest)

-- ---- ends of beginnings are consecutive items

take_of_none : (n : ℕ) → take {A = ℤ} n [] ≡ []
take_of_none zero = refl
take_of_none (suc n) = refl

end_of_beginning : (from most : ℕ) (xs : List ℤ) → drop from (take most xs) ≡ take (most - from) (drop from xs)
end_of_beginning zero most xs = ap (λ n. take n xs) (omega arith)
end_of_beginning (suc from) zero xs = ap (λ n. take n (drop (suc from) xs)) (let e : 0 ≡ 0 - suc from = omega arith in e)
end_of_beginning (suc from) (suc most) [] = sym (take_of_none (suc most - suc from))
end_of_beginning (suc from) (suc most) (x ∷ xs) = end_of_beginning from most xs ∙ ap (λ n. take n (drop from xs)) (let e : most - from ≡ suc most - suc from = omega arith in e)

take_more_than : (n : ℕ) (xs : List ℤ) → length xs ≤ n → take n xs ≡ xs
take_more_than zero [] most = refl
take_more_than (suc n) [] most = refl
take_more_than zero (x ∷ xs) most = absurd (omega (arith, most))
take_more_than (suc n) (x ∷ xs) most = ap (λ (l : List ℤ). x ∷ l) (take_more_than n xs (omega (arith, most)))

-- consecutive items end a beginning
beginning_of : (from count n : ℕ) (xs : List ℤ) → length xs ≡ n → drop from (take (min (from + count) n) xs) ≡ take count (drop from xs)
beginning_of from count n xs len =
    end_of_beginning from (min (from + count) n) xs
    ∙ ⊎_elim
    (λ past.
    let rest : length (drop from xs) ≡ n - from = length-drop from xs ∙ ap (λ m. m - from) len in
    let all : min (from + count) n - from ≡ n - from = omega (arith, past) in
    ap (λ m. take m (drop from xs)) all ∙ take_more_than (n - from) (drop from xs) (omega (arith, rest)) ∙ sym (take_more_than count (drop from xs) (omega (arith, rest, past))))
    (λ within. let all : min (from + count) n - from ≡ count = omega (arith, within) in ap (λ m. take m (drop from xs)) all)
    (cases_lt n (from + count))

-- ---- one index replaced twice

set_twice : (xs : List ℕ) (k i j : ℕ) → set (set xs k i) k j ≡ set xs k j
set_twice [] k i j = refl
set_twice (x ∷ xs) zero i j = refl
set_twice (x ∷ xs) (suc k) i j = ap (λ (l : List ℕ). x ∷ l) (set_twice xs k i j)

same_line : (b : ArrayValue) (k i : ℕ) (index : List ℕ) → line_through b k (slice_set index k i) ≡ line_through b k index
same_line b k i index = by (range_with_len 0 (slice_index b.shape k)) where
  by : (xs : List ℕ) → map (λ j. number_of (element_at b (slice_set (slice_set index k i) k j))) xs ≡ map (λ j. number_of (element_at b (slice_set index k j))) xs
  by [] = refl
  by (j ∷ xs) =
      ap (λ l. number_of (element_at b l) ∷ map (λ j. number_of (element_at b (slice_set (slice_set index k i) k j))) xs) (set_twice index k i j)
      ∙ ap (λ r. number_of (element_at b (slice_set index k j)) ∷ r) (by xs)

module _ (decided : (z : ℤ) → (in_range z ≡ true) ↔ IsInRange z) (answers : AnswerLaw) (folds : FoldLaw)
    (lawful : (shape index : List ℕ) (k i : ℕ) → IsIndexOf shape index → i < slice_index shape k → IsIndexOf shape (slice_set index k i)) where
  module _ (shape : List ℕ) (numbers : List ℤ) (all : All IsInRange numbers) (k : ℕ) where
    abbrev b : ArrayValue
    b = number_array shape numbers

    abbrev line : List ℕ → List ℤ
    line index = line_through b k index

    element_is : (place : ℕ) → element_in b place ≡ Int (get_or numbers place (pos 0))
    element_is place = get_or-map Int numbers place (pos 0)

    read_in : (place : ℕ) → IsInRange (get_or numbers place (pos 0))
    read_in place =
        ⊎_elim
        (λ below. all place (pos 0) below)
        (λ past. rw (get_or_past numbers place (pos 0) past) ((decided (pos 0)).0 refl))
        (cases_lt place (length numbers))

    number_in : (index : List ℕ) → IsInRange (number_of (element_at b index))
    number_in index = subst (λ e. IsInRange (number_of e)) (sym (element_is (place_of shape index))) (read_in (place_of shape index))

    -- the numbers at some indexes along the axis
    abbrev numbers_at : List ℕ → List ℕ → List ℤ
    numbers_at index xs = map (λ i. number_of (element_at b (slice_set index k i))) xs

    numbers_are : (index xs : List ℕ) → map Int (numbers_at index xs) ≡ map (λ i. element_at b (slice_set index k i)) xs
    numbers_are index [] = refl
    numbers_are index (i ∷ xs) =
        let is = element_is (place_of shape (slice_set index k i)) in
        ap (λ e. Int (number_of e) ∷ map Int (numbers_at index xs)) is ∙ ap (λ e. e ∷ map Int (numbers_at index xs)) (sym is)
        ∙ ap (λ r. element_at b (slice_set index k i) ∷ r) (numbers_are index xs)

    numbers_in : (index xs : List ℕ) → All IsInRange (numbers_at index xs)
    numbers_in index xs = All-map IsInRange (λ i. number_of (element_at b (slice_set index k i))) xs (λ j d inside. number_in (slice_set index k (get_or xs j d)))

    -- an end of the beginning of a line that ends with its item at an index list
    abbrev IsOutsideAt : List ℕ → Type 0
    IsOutsideAt index = (from : ℕ) × (in_range (total (take (slice_index index k + 1 - from) (drop from (line index)))) ≡ false)

    outcome_told : (index : List ℕ) → slice_index index k < slice_index shape k
        → IsRefusedOr Limit (IsOutsideAt index) (Int (total (take (slice_index index k + 1) (line index)))) (reduction Plus (items_up_to b k index))
    outcome_told index below =
        let most = slice_index index k + 1 in
        let beginning = numbers_at index (range_with_len 0 most) in
        let is : take most (line index) ≡ beginning = take-map-range_with_len (λ i. number_of (element_at b (slice_set index k i))) 0 (slice_index shape k) most (omega arith) in
        let told = folds Plus plus (pos 0) beginning (record { function = refl; none = refl }) (numbers_in index (range_with_len 0 most)) in
        let end = λ (from : ℕ). fold_is (drop from beginning) ∙ ap (λ l. total (drop from l)) (sym is) ∙ ap total (end_of_beginning from most (line index)) in
        ⊎_elim
        (λ one. inl ((one.0.0, sym (ap in_range (end one.0.0)) ∙ one.0.1), ap (reduction Plus) (sym (numbers_are index (range_with_len 0 most))) ∙ one.1))
        (λ none. inr (
          λ w. none.0 (w.0, ap in_range (end w.0) ∙ w.1),
          ap (reduction Plus) (sym (numbers_are index (range_with_len 0 most))) ∙ none.1 ∙ ap (λ z. Ok (Int z)) (fold_is beginning ∙ ap total (sym is)),
        ))
        told

    some_at : ((index : List ℕ) × IsIndexOf shape index × IsOutsideAt index) → HasSumOutsideAlong b k
    some_at w = (w.0, w.2.0, slice_index w.0 k + 1 - w.2.0, w.1, w.2.1)

    at_some : k < length shape → 0 < slice_index shape k → HasSumOutsideAlong b k → ((index : List ℕ) × IsIndexOf shape index × IsOutsideAt index)
    at_some axis some w = by w.0 w.1 w.2 w.3 w.4 where
      by : (index : List ℕ) (from count : ℕ) → IsIndexOf shape index → in_range (total (take count (drop from (line index)))) ≡ false → ((index : List ℕ) × IsIndexOf shape index × IsOutsideAt index)
      by index from zero is outside = absurd (let e : true ≡ false = outside in cc)
      by index from (suc count) is outside =
          let n = slice_index shape k in
          let last = min (from + suc count) n - 1 in
          let below : last < n = omega (arith, some) in
          let there = slice_set index k last in
          let own : slice_index there k ≡ last = get_or-set_same index k last 0 (omega (arith, is.len, axis)) in
          let most : slice_index there k + 1 ≡ min (from + suc count) n = omega (arith, own, some) in
          let len : length (line index) ≡ n = length-map-range_with_len (λ i. number_of (element_at b (slice_set index k i))) 0 n in
          let part : take (slice_index there k + 1 - from) (drop from (line there)) ≡ take (suc count) (drop from (line index)) =
          ap (λ m. take (m - from) (drop from (line there))) most ∙ ap (λ l. take (min (from + suc count) n - from) (drop from l)) (same_line b k last index)
          ∙ sym (end_of_beginning from (min (from + suc count) n) (line index)) ∙ beginning_of from (suc count) n (line index) len in
          (there, lawful shape index k last is below, (from, ap (λ l. in_range (total l)) part ∙ outside))

    axis_there : 2 ≤ slice_index shape k → k < length shape
    axis_there long =
        ⊎_elim
        (λ below. below)
        (λ past. let none : slice_index shape k ≡ 0 = get_or_past shape k 0 past in absurd (omega (arith, long, none)))
        (cases_lt k (length shape))

    changed : 2 ≤ slice_index shape k → is_unchanged b k ≡ false
    changed long = some_false (length shape == 0) (is_short (slice_index shape k)) (no_scalar (length shape) (axis_there long)) (no_short (slice_index shape k) long) where
      some_false : (p q : Bool) → p ≡ false → q ≡ false → (p || q) ≡ false
      some_false p q none neither = rw (none, neither) refl

      no_scalar : (rank : ℕ) → k < rank → (rank == 0) ≡ false
      no_scalar rank axis = ⊎_elim (λ is. let none : rank ≡ 0 = eqb-true rank 0 is in absurd (omega (arith, none, axis))) (λ is_not. is_not) (cases_Bool (rank == 0))

      no_short : (n : ℕ) → 2 ≤ n → is_short n ≡ false
      no_short zero long = absurd (omega (arith, long))
      no_short (suc zero) long = absurd (omega (arith, long))
      no_short (suc (suc n)) long = refl

  -- the result, by whether the axis exists and whether the argument is answered as it is
  abbrev result_by : ArrayValue → ℕ → Bool → Bool → Result ArrayValue OpFault
  result_by own k exists same =
      first_failure_or ((exists, Index) ∷ [])
      (answer_of own.shape (λ index. if same then Ok (element_at own index) else scanned Plus own.kind (items_up_to own k index)) (if same then own.kind else Number))

  pub sums_told : (shape : List ℕ) (numbers : List ℤ) (axis : Axis) → All IsInRange numbers → IsTrue (has_axis axis (length shape)) → 2 ≤ slice_index shape (axis_of axis (length shape))
      → IsRefusedOr Refused (HasSumOutsideAlong (number_array shape numbers) (axis_of axis (length shape))) (running_sums (number_array shape numbers) (axis_of axis (length shape)))
      (result_of (scan_row Plus (number_array shape numbers) axis))
  sums_told shape numbers axis all has long =
      let own = number_array shape numbers in
      let k = axis_of axis (length shape) in
      let exists : has_axis axis (length shape) ≡ true = has in
      let longer : is_unchanged own k ≡ false = changed shape numbers all k long in
      let value = λ (index : List ℕ). total (take (slice_index index k + 1) (line_through own k index)) in
      let result : answer_of shape (λ index. reduction Plus (items_up_to own k index)) Number ≡ result_of (scan_row Plus own axis) =
      sym (ap (λ p. result_by own k p (is_unchanged own k)) exists ∙ ap (result_by own k true) longer) in
      let told = answers_told answers shape (λ index. reduction Plus (items_up_to own k index)) (IsOutsideAt shape numbers all k) value
      (λ index is. outcome_told shape numbers all k index (is.below k (axis_there shape numbers all k long))) in
      subst (IsRefusedOr Refused (HasSumOutsideAlong own k) (running_sums own k)) result
      (⊎_elim
      (λ one. inl (some_at shape numbers all k one.0, one.1))
      (λ none. inr (λ w. none.0 (at_some shape numbers all k (axis_there shape numbers all k long) (omega (arith, long)) w), none.1))
      told)

  -- ---- an axis of at most one item

  sum_in : (xs : List ℤ) (from count : ℕ) → length xs ≤ 1 → All IsInRange xs → in_range (total (take count (drop from xs))) ≡ true
  sum_in xs from zero short within = refl
  sum_in [] zero (suc count) short within = refl
  sum_in [] (suc from) (suc count) short within = refl
  sum_in (x ∷ []) zero (suc count) short within =
      ap (λ (l : List ℤ). in_range (x +ℤ total l)) (take_of_none count) ∙ ap in_range (let e : x +ℤ pos 0 ≡ x = omega (arith, ints) in e) ∙ (decided x).1 (within 0 x (omega arith))
  sum_in (x ∷ []) (suc from) (suc count) short within = sum_in [] from (suc count) (omega arith) (λ i d inside. absurd (omega (arith, inside)))
  sum_in (x ∷ y ∷ rest) from count short within = absurd (omega (arith, short))

  short_sums : (shape : List ℕ) (numbers : List ℤ) (k : ℕ) → All IsInRange numbers → slice_index shape k ≤ 1 → HasSumOutsideAlong (number_array shape numbers) k → ⊥
  short_sums shape numbers k all short w =
      let n = slice_index shape k in
      let items = line_through (number_array shape numbers) k w.0 in
      let len : length items ≡ n = length-map-range_with_len (λ i. number_of (element_at (number_array shape numbers) (slice_set w.0 k i))) 0 n in
      let within = sum_in items w.1 w.2 (omega (arith, len, short)) (numbers_in shape numbers all k w.0 (range_with_len 0 n)) in
      absurd (let e = sym within ∙ w.4 in cc)

  unchanged : (shape : List ℕ) (numbers : List ℤ) (k : ℕ) → slice_index shape k ≤ 1 → is_unchanged (number_array shape numbers) k ≡ true
  unchanged shape numbers k short = either (length shape == 0) (is_short (slice_index shape k)) (is (slice_index shape k) short) where
    either : (p q : Bool) → q ≡ true → (p || q) ≡ true
    either true q is_true = refl
    either false q is_true = is_true

    is : (n : ℕ) → n ≤ 1 → is_short n ≡ true
    is zero short = refl
    is (suc zero) short = refl
    is (suc (suc n)) short = absurd (omega (arith, short))

  short_told : (shape : List ℕ) (numbers : List ℤ) (axis : Axis) → All IsInRange numbers → IsTrue (has_axis axis (length shape)) → slice_index shape (axis_of axis (length shape)) ≤ 1
      → result_of (scan_row Plus (number_array shape numbers) axis) ≡ Err Refused → ⊥
  short_told shape numbers axis all has short refused =
      let own = number_array shape numbers in
      let k = axis_of axis (length shape) in
      let exists : has_axis axis (length shape) ≡ true = has in
      let same : is_unchanged own k ≡ true = unchanged shape numbers k short in
      let result : result_of (scan_row Plus own axis) ≡ answer_of shape (λ index. Ok (element_at own index)) Number =
      ap (λ p. result_by own k p (is_unchanged own k)) exists ∙ ap (result_by own k true) same in
      let told = answers_told answers shape (λ index. Ok (element_at own index)) (λ index. ⊥) (λ index. get_or numbers (place_of shape index) (pos 0))
      (λ index is. inr (λ never. never, ap (λ (e : Elem). Ok e) (element_is shape numbers all k (place_of shape index)))) in
      ⊎_elim (λ one. one.0.2) (λ none. absurd (let e = sym none.1 ∙ sym result ∙ refused in cc)) told

  -- along any axis that exists
  pub limit_told : (shape : List ℕ) (numbers : List ℤ) (axis : Axis) → All IsInRange numbers → IsTrue (has_axis axis (length shape))
      → (result_of (scan_row Plus (number_array shape numbers) axis) ≡ Err Refused) ↔ HasSumOutsideAlong (number_array shape numbers) (axis_of axis (length shape))
  limit_told shape numbers axis all has =
      let k = axis_of axis (length shape) in
      ⊎_elim
      (λ long.
      ⊎_elim
      (λ one. (λ e. one.0, λ w. one.1))
      (λ none. (λ e. absurd (let f = sym none.1 ∙ e in cc), λ w. absurd (none.0 w)))
      (sums_told shape numbers axis all has long))
      (λ short. (λ e. absurd (short_told shape numbers axis all has (omega (arith, short)) e), λ w. absurd (short_sums shape numbers k all (omega (arith, short)) w)))
      (cases_lt 1 (slice_index shape k))

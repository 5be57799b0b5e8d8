-- Reductions and inner products of number arrays by + - and ×.
use Rattle.std.proofs.Common.{◌≡◌, ◌↔◌, ℕ, suc, ◌+◌, ◌<◌, ℤ, pos, true, false, Bool, List, [], ◌∷◌, ◌++◌, map, length, Result, Some, get_or, refl, ap, sym, subst, ◌∙◌, inl, inr, ⊎_elim, arith}
use Rattle.std.specs.Prelude.{◌⊎◌, All, ◌||◌, ◌==◌, if◌then◌else◌, insert, remove, slice_index, take, drop, ◌-◌}
use Rattle.std.specs.List.{range_with_len}
use Rattle.std.proofs.lemmas.Bool.{cases_Bool, cases_lt}
use Rattle.std.proofs.lemmas.List.{get_or_past}
use Rattle.std.proofs.lemmas.List.Elements.{All-map, All-cons, All-nil}
use Rattle.std.proofs.lemmas.List.FromFn.{get_or-range_with_len, length-range_with_len}
use Rattle.std.proofs.Math.ListN.{get_or-map}
use Rattle.apl_array.specs.declared.array.Elem.{Elem}
use Rattle.apl_array.specs.declared.array.Elem.TheVariants.{Int}
use Rattle.apl_array.specs.declared.array.Kind.{Kind}
use Rattle.apl_array.specs.declared.array.Kind.TheVariants.{Number}
use Rattle.apl_array.specs.declared.axis.Axis.{Axis}
use Rattle.apl_array.specs.declared.function.ScalarFunction.{ScalarFunction}
use Rattle.apl_array.specs.Array.{ArrayValue, number_array, element_in, element_at}
use Rattle.apl_array.specs.Axes.{axis_of}
use Rattle.apl_array.specs.Range.{IsInRange, in_range}
use Rattle.apl_array.specs.Shape.{IsIndexOf, place_of}
use Rattle.apl_pool.specs.declared.kernel.Fault.{Fault}
use Rattle.apl_pool.specs.declared.kernel.Fault.TheVariants.{Limit}
use Rattle.apl_answer.specs.declared.fault.OpFault.{OpFault}
use Rattle.apl_answer.specs.declared.fault.OpFault.TheVariants.{Limit as Refused}
use Rattle.apl_answer.specs.Arguments.{number_of, only_element, is_scalar, rank_of}
use Rattle.apl_answer.specs.Pointwise.{index_lists, collect_outcomes, answer_of}
use Rattle.apl_answer.specs.Rows.{Check, HavePassed, first_failure_or, result_of}
use Rattle.apl_scalar.specs.Scalar.{exact, as_element}
use Rattle.apl_reduce.specs.Folding.{pair_of, reduction}
use Rattle.apl_reduce.specs.Partial.{exact_function}
use Rattle.apl_reduce.specs.Reducing.{items_along, reduced_kind, reduce_row}
use Rattle.apl_reduce.specs.Products.{is_single, common_length, left_shape, right_shape, left_element, right_element, items_of, judged_reduction, inner_row}
use Rattle.apl_reduce.specs.Refusals.{IsRefusedOr}
use Rattle.apl_reduce.specs.ExactFolds.{IsExactly, exact_fold_of, HasEndOutside, line_at, HasLineOutside, exact_reduction, exact_item, exact_items, HasItemOutside, HasProductOutside, exact_inner_product}
use Rattle.apl_reduce.proofs.Refusals.{all_told}
use Rattle.apl_reduce.proofs.ExactFolds.{exactly, function_is, exact_told, reduction_told}

-- what `answers_told` says
abbrev pub AnswerLaw : Type 1
AnswerLaw = (shape : List ℕ) (outcome : List ℕ → Result Elem Fault) (Outside : List ℕ → Type 0) (value : List ℕ → ℤ)
    → ((index : List ℕ) → IsIndexOf shape index → IsRefusedOr Limit (Outside index) (Int (value index)) (outcome index))
    → IsRefusedOr Refused ((index : List ℕ) × IsIndexOf shape index × Outside index) (number_array shape (map value (index_lists shape))) (answer_of shape outcome Number)

-- where no check fails
passed : (checks : List Check) (answer : Result ArrayValue OpFault) → HavePassed checks → first_failure_or checks answer ≡ answer
passed [] answer h = refl
passed (check ∷ checks) answer h = rw h.0 (passed checks answer h.1)

either_has : {A : Type 0} (P : A → Type 0) (p : Bool) (x y : A) → P x → P y → P (if p then x else y)
either_has P true x y h k = h
either_has P false x y h k = k

-- a number of the range
pub record IsNumberIn (x : Elem) : Type 0 where
  pub is : x ≡ Int (number_of x)
  pub inside : IsInRange (number_of x)

as_numbers : (items : List Elem) → All IsNumberIn items → map Int (map number_of items) ≡ items
as_numbers [] all = refl
as_numbers (x ∷ rest) all =
    let first = all 0 x (omega arith) in
    let more = as_numbers rest (λ k d inside. all (suc k) d (omega (arith, inside))) in
    ap (λ y. y ∷ map Int (map number_of rest)) (sym first.is) ∙ ap (λ r. x ∷ r) more

numbers_in : (items : List Elem) → All IsNumberIn items → All IsInRange (map number_of items)
numbers_in items all = All-map IsInRange number_of items (λ k d inside. (all k d inside).inside)

module _ (decided : (z : ℤ) → (in_range z ≡ true) ↔ IsInRange z) where
  element_is : (shape : List ℕ) (numbers : List ℤ) (place : ℕ) → All IsInRange numbers → IsNumberIn (element_in (number_array shape numbers) place)
  element_is shape numbers place all =
      let z = get_or numbers place (pos 0) in
      let read : get_or (map Int numbers) place (Int (pos 0)) ≡ Int z = get_or-map Int numbers place (pos 0) in
      let within : IsInRange z =
      ⊎_elim
      (λ below. all place (pos 0) below)
      (λ past. rw (get_or_past numbers place (pos 0) past) ((decided (pos 0)).0 refl))
      (cases_lt place (length numbers)) in
      record { is = read ∙ ap (λ e. Int (number_of e)) (sym read); inside = subst (λ e. IsInRange (number_of e)) (sym read) within }

  module _ (law : AnswerLaw) (f : ScalarFunction) (e : ℤ → ℤ → ℤ) (identity : ℤ) (is : IsExactly f e identity) where
    items_told : (items : List Elem) → All IsNumberIn items → IsRefusedOr Limit (HasEndOutside e identity (map number_of items)) (Int (exact_fold_of e identity (map number_of items))) (reduction f items)
    items_told items all =
        let numbers = map number_of items in
        subst (λ xs. IsRefusedOr Limit (HasEndOutside e identity numbers) (Int (exact_fold_of e identity numbers)) (reduction f xs)) (as_numbers items all)
        (reduction_told decided f e identity (exactly f e identity is) numbers (numbers_in items all))

    along : (shape : List ℕ) (numbers : List ℤ) (k : ℕ) (index : List ℕ) → All IsInRange numbers → All IsNumberIn (items_along (number_array shape numbers) k index)
    along shape numbers k index all =
        let b = number_array shape numbers in
        let item = λ (i : ℕ). element_at b (insert index k i) in
        either_has (All IsNumberIn) (is_scalar b) (only_element b ∷ []) (map item (range_with_len 0 (slice_index shape k)))
        (All-cons IsNumberIn (only_element b) [] (element_is shape numbers 0 all) (All-nil IsNumberIn))
        (All-map IsNumberIn item (range_with_len 0 (slice_index shape k)) (λ j d inside. element_is shape numbers (place_of shape (insert index k (get_or (range_with_len 0 (slice_index shape k)) j d))) all))

    pub reduce_told : (shape : List ℕ) (numbers : List ℤ) (axis : Axis) → All IsInRange numbers → HavePassed (reduce_row f (number_array shape numbers) axis).checks
        → IsRefusedOr Refused (HasLineOutside e identity (number_array shape numbers) (axis_of axis (length shape))) (exact_reduction e identity (number_array shape numbers) (axis_of axis (length shape)))
        (result_of (reduce_row f (number_array shape numbers) axis))
    reduce_told shape numbers axis all have =
        let b = number_array shape numbers in
        let k = axis_of axis (length shape) in
        let row = reduce_row f b axis in
        let kind : reduced_kind b k ≡ Number = either_has (λ (kind : Kind). kind ≡ Number) (is_scalar b || (slice_index shape k == 1)) Number Number refl refl in
        let result : answer_of row.shape row.outcome Number ≡ result_of row = ap (answer_of row.shape row.outcome) (sym kind) ∙ sym (passed row.checks (answer_of row.shape row.outcome row.kind) have) in
        subst (IsRefusedOr Refused (HasLineOutside e identity b k) (exact_reduction e identity b k)) result
        (law (remove shape k) row.outcome (λ index. HasEndOutside e identity (line_at b k index)) (λ index. exact_fold_of e identity (line_at b k index))
        (λ index lawful. items_told (items_along b k index) (along shape numbers k index all)))

    -- ---- inner products

    module _ (g : ScalarFunction) (h : ℤ → ℤ → ℤ) (has : exact_function g ≡ Some h) where
      pair_is : (x y : Elem) → IsNumberIn x → IsNumberIn y → pair_of g x y ≡ as_element (exact (h (number_of x) (number_of y)))
      pair_is x y first second =
          ap (λ v. pair_of g v y) first.is ∙ ap (pair_of g (Int (number_of x))) second.is ∙ ap as_element (function_is g h has (number_of x) (number_of y))

      pair_told : (x y : Elem) → IsNumberIn x → IsNumberIn y → IsRefusedOr Limit (in_range (h (number_of x) (number_of y)) ≡ false) (Int (h (number_of x) (number_of y))) (pair_of g x y)
      pair_told x y first second =
          let z = h (number_of x) (number_of y) in
          subst (IsRefusedOr Limit (in_range z ≡ false) (Int z)) (sym (pair_is x y first second)) (exact_told z)

      module _ (a b : ArrayValue) (left : (place : ℕ) → IsNumberIn (element_in a place)) (right : (place : ℕ) → IsNumberIn (element_in b place)) where
        left_is : (index : List ℕ) (i : ℕ) → IsNumberIn (left_element a index i)
        left_is index i = either_has IsNumberIn (is_single a) (only_element a) _ (left 0) (left (place_of a.shape (take (rank_of a - 1) index ++ i ∷ [])))

        right_is : (index : List ℕ) (i : ℕ) → IsNumberIn (right_element a b index i)
        right_is index i = either_has IsNumberIn (is_single b) (only_element b) _ (right 0) (right (place_of b.shape (i ∷ drop (rank_of a - 1) index)))

        all_in : (index : List ℕ) → (HasItemOutside h a b index → ⊥) → All IsInRange (exact_items h a b index)
        all_in index none =
            let n = common_length a b in
            All-map IsInRange (exact_item h a b index) (range_with_len 0 n)
            (λ k d inside.
            let j = get_or (range_with_len 0 n) k d in
            let below : k < n = omega (arith, inside, length-range_with_len 0 n) in
            let at : j ≡ 0 + k = get_or-range_with_len 0 n k d below in
            ⊎_elim
            (λ within. (decided (exact_item h a b index j)).0 within)
            (λ outside. absurd (none (j, omega (arith, at, below), outside)))
            (cases_Bool (in_range (exact_item h a b index j))))

        judged_told : (index : List ℕ) → IsRefusedOr Limit (HasItemOutside h a b index ⊎ HasEndOutside e identity (exact_items h a b index)) (Int (exact_fold_of e identity (exact_items h a b index)))
            (judged_reduction f (collect_outcomes (items_of g a b index)))
        judged_told index =
            let n = common_length a b in
            let item = exact_item h a b index in
            let items = exact_items h a b index in
            let told = all_told (λ i. pair_of g (left_element a index i) (right_element a b index i)) (λ i. in_range (item i) ≡ false) item 0 n
            (λ i from below. pair_told (left_element a index i) (right_element a b index i) (left_is index i) (right_is index i)) in
            ⊎_elim
            (λ one. inl (inl (one.0.0, omega (arith, one.0.2), one.0.3), ap (judged_reduction f) one.1))
            (λ all.
            let none : HasItemOutside h a b index → ⊥ = λ w. all.0 (w.0, omega arith, omega (arith, w.1), w.2) in
            let judged : judged_reduction f (collect_outcomes (items_of g a b index)) ≡ reduction f (map Int items) = ap (judged_reduction f) all.1 in
            ⊎_elim
            (λ end. inl (inr end.0, judged ∙ end.1))
            (λ value. inr (λ w. ⊎_elim none value.0 w, judged ∙ value.1))
            (reduction_told decided f e identity (exactly f e identity is) items (all_in index none)))
            told

        pub inner_of_numbers : HavePassed (inner_row f g a b).checks
            → IsRefusedOr Refused (HasProductOutside e identity h a b) (exact_inner_product e identity h a b) (result_of (inner_row f g a b))
        inner_of_numbers have =
            let row = inner_row f g a b in
            subst (IsRefusedOr Refused (HasProductOutside e identity h a b) (exact_inner_product e identity h a b)) (sym (passed row.checks (answer_of row.shape row.outcome row.kind) have))
            (law (left_shape a ++ right_shape b) row.outcome (λ index. HasItemOutside h a b index ⊎ HasEndOutside e identity (exact_items h a b index)) (λ index. exact_fold_of e identity (exact_items h a b index))
            (λ index lawful. judged_told index))

      pub inner_told : (left right : List ℕ) (ns ms : List ℤ) → All IsInRange ns → All IsInRange ms → HavePassed (inner_row f g (number_array left ns) (number_array right ms)).checks
          → IsRefusedOr Refused (HasProductOutside e identity h (number_array left ns) (number_array right ms)) (exact_inner_product e identity h (number_array left ns) (number_array right ms))
          (result_of (inner_row f g (number_array left ns) (number_array right ms)))
      inner_told left right ns ms all_left all_right =
          inner_of_numbers (number_array left ns) (number_array right ms) (λ place. element_is left ns place all_left) (λ place. element_is right ms place all_right)

-- The answer of one slot at a vector, by the values at its numbers.
use Rattle.std.proofs.Common.{◌≡◌, ◌∙◌, ℕ, ℤ, pos, negsuc, ◌+◌, ◌*◌, ◌%◌, ◌<◌, true, false, List, [], ◌∷◌, ◌++◌, length, map, take, Option, Some, None, Ok, Err, slice_index_or, refl, ap, sym, subst, ⊎_elim, arith}
use Rattle.std.specs.Prelude.{Bool, Result, ◌==◌, ◌&&◌, option_map}
use Rattle.std.specs.List.{list_all, range_with_len}
use Rattle.std.proofs.Math.Nat.{div-one, mod-eq_of_lt}
use Rattle.std.proofs.lemmas.Bool.{cases_Bool, ltb-true, ltb-false}
use Rattle.std.proofs.lemmas.Option.{slice_get-get_or, slice_get_past, slice_get-map}
use Rattle.std.proofs.lemmas.List.{append-nil, length-map}
use Rattle.std.proofs.lemmas.List.Folds.{list_all-map}
use Rattle.std.proofs.lemmas.List.FromFn.{fill_by_all}
use Rattle.std.proofs.lemmas.List.Sums.{AllPass-from_list_all}
use Rattle.apl_array.specs.declared.array.Elem.{Elem}
use Rattle.apl_array.specs.declared.array.Elem.TheVariants.{Int}
use Rattle.apl_array.specs.declared.axis.Origin.{Origin}
use Rattle.apl_array.specs.Axes.{from_origin, origin_number, place_number, is_below}
use Rattle.apl_array.specs.Array.{ArrayValue, IsArray, element_at, element_in}
use Rattle.apl_array.specs.Shape.{is_shape, count_of, place_of, index_at}
use Rattle.apl_pool.specs.declared.kernel.Fault.TheVariants.{Index as IndexFault}
use Rattle.apl_answer.specs.declared.fault.OpFault.{OpFault}
use Rattle.apl_answer.specs.declared.fault.OpFault.TheVariants.{Rank, Domain, Index, Limit}
use Rattle.apl_answer.specs.Arguments.{is_numbers, number_of, numbers_of, rank_of}
use Rattle.apl_answer.specs.Elements.{element_outcome}
use Rattle.apl_answer.specs.Pointwise.{collect_outcomes, index_lists, shaped, IsAnswerAt, IsAnswerOf}
use Rattle.apl_answer.specs.Rows.{Answers, Check, first_failure_or}
use Rattle.apl_struct.specs.Chosen.{value_or_fault, chosen_value, chosen_at}
use Rattle.apl_struct.specs.Indexing.{Slots, are_slots_within, is_slot_of_numbers, select_row, select_source, selected_shape}
use Rattle.apl_struct.proofs.Passing.{answered}
use Rattle.apl_struct.proofs.Sources.{chosen_number}

-- ---- one value

chosen_within : {T : Type 0} (values : List T) (z : ℤ) (d : T) → is_below (length values) z ≡ true → chosen_value values z ≡ Ok (slice_index_or values (place_number z) d)
chosen_within values (pos p) d below = ap value_or_fault (slice_get-get_or values p d (ltb-true p (length values) below))
chosen_within values (negsuc p) d below = absurd cc

pub chosen_past : {T : Type 0} (values : List T) (z : ℤ) → is_below (length values) z ≡ false → chosen_value values z ≡ Err IndexFault
chosen_past values (pos p) past = ap value_or_fault (slice_get_past values p (ltb-false p (length values) past))
chosen_past values (negsuc p) past = refl

mapped : {T : Type 0} (f : T → Elem) (found : Option T) → element_outcome f (value_or_fault found) ≡ value_or_fault (option_map f found)
mapped f (Some value) = refl
mapped f None = refl

-- a value of a list as an element
pub chosen_element : {T : Type 0} (f : T → Elem) (values : List T) (z : ℤ) → element_outcome f (chosen_value values z) ≡ chosen_value (map f values) z
chosen_element f values (pos p) = mapped f _ ∙ ap value_or_fault (sym (slice_get-map f values p))
chosen_element f values (negsuc p) = refl

-- ---- the values at a list of numbers, of which one is no index

collected_fault : {X : Type 0} (number : X → ℤ) (values : List Elem) (xs : List X) → list_all (λ x. is_below (length values) (number x)) xs ≡ false
    → collect_outcomes (map (λ x. chosen_value values (number x)) xs) ≡ Err IndexFault
collected_fault number values [] none = absurd cc
collected_fault number values (x ∷ xs) none =
    let rest = collect_outcomes (map (λ y. chosen_value values (number y)) xs) in
    ⊎_elim
    (λ within.
    let others : list_all (λ y. is_below (length values) (number y)) xs ≡ false = ap (λ b. b && list_all (λ y. is_below (length values) (number y)) xs) (sym within) ∙ none in
    rw (chosen_within values (number x) (Int (pos 0)) within, collected_fault number values xs others) refl)
    (λ past. rw (chosen_past values (number x) past) refl)
    (cases_Bool (is_below (length values) (number x)))

third_fails : (first second third : Check) (rest : List Check) (answer result : Result ArrayValue OpFault) → first.0 ≡ true → second.0 ≡ true → third.0 ≡ false
    → IsAnswerOf (Err third.1) result → IsAnswerOf (first_failure_or (first ∷ second ∷ third ∷ rest) answer) result
third_fails first second third rest answer result passed passed_too fails is = rw (passed, passed_too, fails) is

-- ---- one slot at a vector of `n` elements

module _ (origin : Origin) (a s : ArrayValue) (n : ℕ) (array : IsArray a) (slot : IsArray s) (vector : a.shape ≡ n ∷ []) where
  number_at : (place : ℕ) → place < count_of s.shape
      → number_of (element_at s (take (rank_of s) (index_at (s.shape ++ []) place))) ≡ slice_index_or (numbers_of s) place (pos 0)
  number_at place inside =
      chosen_number s [] place (omega (arith, inside)) ∙ ap (λ q. slice_index_or (numbers_of s) (q % count_of s.shape) (pos 0)) (div-one place)
      ∙ ap (λ q. slice_index_or (numbers_of s) q (pos 0)) (mod-eq_of_lt inside)

  count_is : count_of (s.shape ++ []) ≡ count_of s.shape
  count_is = ap count_of (append-nil s.shape)

  len : length a.ravel ≡ n
  len = omega (arith, array.len, ap count_of vector)

  all_numbers : numbers_of s ≡ map (λ place. number_of (element_at s (take (rank_of s) (index_at (s.shape ++ []) place)))) (range_with_len 0 (count_of (s.shape ++ [])))
  all_numbers =
      fill_by_all (λ place. number_of (element_at s (take (rank_of s) (index_at (s.shape ++ []) place)))) (numbers_of s) (count_of (s.shape ++ [])) (pos 0)
      (omega (arith, length-map s.ravel number_of, slot.len, count_is))
      (λ k inside. sym (number_at k (omega (arith, inside, count_is))))

  tests_are : (test : ℤ → Bool)
      → list_all test (numbers_of s) ≡ list_all (λ index. test (number_of (element_at s (take (rank_of s) index)))) (index_lists (s.shape ++ []))
  tests_are test =
      ap (list_all test) all_numbers
      ∙ list_all-map test (λ place. number_of (element_at s (take (rank_of s) (index_at (s.shape ++ []) place)))) (range_with_len 0 (count_of (s.shape ++ [])))
      ∙ sym (list_all-map (λ index. test (number_of (element_at s (take (rank_of s) index)))) (index_at (s.shape ++ [])) (range_with_len 0 (count_of (s.shape ++ []))))

  element_is : (i : ℕ) → element_in a i ≡ element_at a (i ∷ [])
  element_is i =
      let same : i ≡ i * 1 + 0 = omega arith in
      ap (element_in a) same ∙ ap (λ shape. element_in a (place_of shape (i ∷ []))) (sym vector)

  shape_is : selected_shape a.shape (Some s ∷ []) ≡ s.shape ++ []
  shape_is = ap (λ shape. selected_shape shape (Some s ∷ [])) vector

  within_is : are_slots_within origin a.shape (Some s ∷ []) ≡ list_all (λ number. is_below n (from_origin origin number)) (numbers_of s)
  within_is =
      let both : (b : Bool) → (b && true) ≡ b = λ b. grind arith in
      ap (λ shape. are_slots_within origin shape (Some s ∷ [])) vector ∙ both (list_all (λ number. is_below n (from_origin origin number)) (numbers_of s))

  module _ (result : Result ArrayValue OpFault) (numbers : is_numbers s ≡ true) (lawful : is_shape s.shape ≡ true)
      (is : IsAnswerAt s.shape a.kind (chosen_at a.ravel (numbers_of s) (origin_number origin)) result) where
    given : IsAnswerAt (s.shape ++ []) a.kind (chosen_at a.ravel (numbers_of s) (origin_number origin)) result
    given =
        subst (λ shape. IsAnswerAt shape a.kind (chosen_at a.ravel (numbers_of s) (origin_number origin)) result)
        (sym (append-nil s.shape)) is

    -- each number is an index
    all_within : are_slots_within origin a.shape (Some s ∷ []) ≡ true → Answers (select_row a (Some s ∷ []) origin) result
    all_within within =
        let all = sym within_is ∙ within in
        let elements = given (λ index. Ok (element_at a (select_source origin (Some s ∷ []) index))) (λ place inside.
        let below : place < count_of s.shape = omega (arith, inside, count_is) in
        let long : place < length (numbers_of s) = omega (arith, below, length-map s.ravel number_of, slot.len) in
        let z = from_origin origin (slice_index_or (numbers_of s) place (pos 0)) in
        let index : is_below n z ≡ true = AllPass-from_list_all (λ number. is_below n (from_origin origin number)) (numbers_of s) all place (pos 0) long in
        chosen_within a.ravel z (Int (pos 0)) (ap (λ m. is_below m z) len ∙ index) ∙ ap Ok (element_is (place_number z))
        ∙ ap (λ number. Ok (element_at a (place_number (from_origin origin number) ∷ []))) (sym (number_at place below))) in
        let slots : (is_numbers s && true) ≡ true = ap (λ b. b && true) numbers in
        let shape = ap is_shape (shape_is ∙ append-nil s.shape) ∙ lawful in
        let rank = ap (λ l. 1 == length l) vector in
        answered (select_row a (Some s ∷ []) origin) result (rank, (slots, (within, (shape, tt)))) (rw shape_is elements)

    -- a number is no index
    one_past : are_slots_within origin a.shape (Some s ∷ []) ≡ false → Answers (select_row a (Some s ∷ []) origin) result
    one_past past =
        let index_of : List ℕ → ℤ = λ index. from_origin origin (number_of (element_at s (take (rank_of s) index))) in
        let none = sym (tests_are (λ number. is_below n (from_origin origin number))) ∙ sym within_is ∙ past in
        let fault : collect_outcomes (map (λ index. chosen_value a.ravel (index_of index)) (index_lists (s.shape ++ []))) ≡ Err IndexFault =
        collected_fault index_of a.ravel (index_lists (s.shape ++ [])) (ap (λ m. list_all (λ index. is_below m (index_of index)) (index_lists (s.shape ++ []))) len ∙ none) in
        let elements = given (λ index. chosen_value a.ravel (index_of index)) (λ place inside.
        ap (λ number. chosen_value a.ravel (from_origin origin number)) (sym (number_at place (omega (arith, inside, count_is))))) in
        let kind = a.kind in
        let slots : Slots = Some s ∷ [] in
        let refused = subst (λ answer. IsAnswerOf answer result) (ap (shaped (s.shape ++ []) kind) fault) elements in
        third_fails (1 == rank_of a, Rank) (list_all is_slot_of_numbers slots, Domain) (are_slots_within origin a.shape slots, Index)
        ((is_shape (selected_shape a.shape slots), Limit) ∷ []) _ result (ap (λ l. 1 == length l) vector) (ap (λ b. b && true) numbers) past refused

    pub one_slot : Answers (select_row a (Some s ∷ []) origin) result
    one_slot = ⊎_elim all_within one_past (cases_Bool (are_slots_within origin a.shape (Some s ∷ [])))

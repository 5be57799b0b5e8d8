-- The results of the rows are within all limits.
use Rattle.std.proofs.Common.{◌≡◌, ◌↔◌, ◌+◌, ◌-◌, ◌<◌, ◌==◌, ◌||◌, get_or, ℕ, ℤ, zero, suc, pos, Bool, true, false, List, [], ◌∷◌, ◌++◌, length, take, drop, slice_index, slice_index_or, Result, Ok, Err, IfOk, refl, ap, sym, subst, ◌∙◌, ⊎_elim, eqb-true, arith}
use Rattle.std.specs.Prelude.{All, insert, if◌then◌else◌}
use Rattle.std.specs.List.{list_all, range_with_len}
use Rattle.std.proofs.lemmas.Bool.{cases_Bool, cases_lt}
use Rattle.std.proofs.lemmas.List.{get_or_past, take_all, length-map, length-replicate}
use Rattle.std.proofs.lemmas.List.FromFn.{length-range_with_len, get_or-range_with_len}
use Rattle.std.proofs.lemmas.List.Sums.{AllPass-from_list_all}
use Rattle.std.proofs.lemmas.List.Elements.{All-map}
use Rattle.apl_array.specs.declared.array.Elem.{Elem}
use Rattle.apl_array.specs.declared.array.Elem.TheVariants.{Int, Chr}
use Rattle.apl_array.specs.declared.array.Kind.{Kind}
use Rattle.apl_array.specs.declared.array.Kind.TheVariants.{Number, Character}
use Rattle.apl_array.specs.declared.axis.Axis.{Axis}
use Rattle.apl_array.specs.declared.function.ScalarFunction.{ScalarFunction}
use Rattle.apl_array.specs.declared.function.ScalarFunction.TheVariants.{Plus, Minus, Times, Divide, Stile, Star, Bang, Floor, Ceiling, And, Or, Nand, Nor, Less, LessOrEqual, Equal, GreaterOrEqual, Greater, NotEqual, Tilde}
use Rattle.apl_array.specs.Axes.{axis_of}
use Rattle.apl_array.specs.Shape.{IsShape, IsIndexOf, is_shape, place_of}
use Rattle.apl_array.specs.Array.{ArrayValue, element_in, element_at}
use Rattle.apl_array.specs.Range.{IsInRange, in_range, IsElementInRange, HasNumbersInRange}
use Rattle.apl_array.specs.Limits.{IsWithinLimits}
use Rattle.apl_answer.specs.Arguments.{rank_of, size_of, is_scalar, has_one_element, number_of, numbers_of, only_element}
use Rattle.apl_answer.specs.Pointwise.{and_first, collect_outcomes}
use Rattle.apl_answer.specs.Rows.{Row, HavePassed, result_of}
use Rattle.apl_pool.specs.declared.kernel.Fault.{Fault}
use Rattle.apl_scalar.specs.Arithmetic.{residue}
use Rattle.apl_scalar.specs.Scalar.{dyadic_of, identity_of, exact, as_element}
use Rattle.apl_reduce.specs.Folding.{pair_of, fold_step, right_fold, identity_or_fault, reduction}
use Rattle.apl_reduce.specs.Reducing.{items_along, reduce_row}
use Rattle.apl_reduce.specs.Products.{outer_row, is_single, left_element, right_element, common_length, items_of, judged_reduction, inner_row}
use Rattle.apl_reduce.specs.Decoding.{value_of, decoded, decode_length, extended_to, decode_row}
use Rattle.apl_reduce.specs.Encoding.{carry_past, encoded, encode_row}

-- a lawful shape and elements in the range, where the checks have passed, make a result within all limits
abbrev pub RowLaw : Type 0
RowLaw = (row : Row) (a : ArrayValue) → (HavePassed row.checks → IsShape row.shape)
    → (HavePassed row.checks → (index : List ℕ) → IsIndexOf row.shape index → IfOk (row.outcome index) IsElementInRange)
    → result_of row ≡ Ok a → IsWithinLimits a

either_in : (b : Bool) (x y : Elem) → IsElementInRange x → IsElementInRange y → IsElementInRange (if b then x else y)
either_in true x y h k = h
either_in false x y h k = k

module _ (law : RowLaw) (decided : (lengths : List ℕ) → (is_shape lengths ≡ true) ↔ IsShape lengths)
    (in_range_decided : (z : ℤ) → (in_range z ≡ true) ↔ IsInRange z)
    (pair_in : (f : ScalarFunction) (x y : Elem) → IsElementInRange x → IsElementInRange y → IfOk (dyadic_of f x y) IsInRange) where
  literal_in : (z : ℤ) → in_range z ≡ true → IsInRange z
  literal_in z inside = (in_range_decided z).0 inside

  element_in_in : (b : ArrayValue) (place : ℕ) → HasNumbersInRange b → IsElementInRange (element_in b place)
  element_in_in b place h =
      ⊎_elim
      (λ within. h place (Int (pos 0)) within)
      (λ past. rw (get_or_past b.ravel place (Int (pos 0)) past) (literal_in (pos 0) refl))
      (cases_lt place (length b.ravel))

  as_element_in : (r : Result ℤ Fault) → IfOk r IsInRange → IfOk (as_element r) IsElementInRange
  as_element_in (Ok z) h = h
  as_element_in (Err fault) h = tt

  exact_in : (z : ℤ) → IfOk (as_element (exact z)) IsElementInRange
  exact_in z =
      ⊎_elim
      (λ inside. rw inside (literal_in z inside))
      (λ outside. rw outside tt)
      (cases_Bool (in_range z))

  step_in : (f : ScalarFunction) (x : Elem) (total : Result Elem Fault) → IsElementInRange x → IfOk total IsElementInRange → IfOk (fold_step f x total) IsElementInRange
  step_in f x (Ok r) h k = as_element_in (dyadic_of f x r) (pair_in f x r h k)
  step_in f x (Err fault) h k = tt

  fold_in : (f : ScalarFunction) (x : Elem) (rest : List Elem) → All IsElementInRange (x ∷ rest) → IfOk (right_fold f x rest) IsElementInRange
  fold_in f x [] all = all 0 x (omega arith)
  fold_in f x (y ∷ rest) all =
      step_in f x (right_fold f y rest) (all 0 x (omega arith)) (fold_in f y rest (λ i d inside. all (suc i) d (omega (arith, inside))))

  identity_in : (f : ScalarFunction) → IfOk (identity_or_fault (identity_of f)) IsElementInRange
  identity_in Plus = literal_in _ refl
  identity_in Minus = literal_in _ refl
  identity_in Times = literal_in _ refl
  identity_in Divide = literal_in _ refl
  identity_in Stile = literal_in _ refl
  identity_in Star = literal_in _ refl
  identity_in Bang = literal_in _ refl
  identity_in Floor = literal_in _ refl
  identity_in Ceiling = literal_in _ refl
  identity_in And = literal_in _ refl
  identity_in Or = literal_in _ refl
  identity_in Nand = tt
  identity_in Nor = tt
  identity_in Less = literal_in _ refl
  identity_in LessOrEqual = literal_in _ refl
  identity_in Equal = literal_in _ refl
  identity_in GreaterOrEqual = literal_in _ refl
  identity_in Greater = literal_in _ refl
  identity_in NotEqual = literal_in _ refl
  identity_in Tilde = tt

  reduction_in : (f : ScalarFunction) (items : List Elem) → All IsElementInRange items → IfOk (reduction f items) IsElementInRange
  reduction_in f [] all = identity_in f
  reduction_in f (x ∷ rest) all = fold_in f x rest all

  items_in : (b : ArrayValue) (k : ℕ) (index : List ℕ) → HasNumbersInRange b → All IsElementInRange (items_along b k index)
  items_in b k index h =
      ⊎_elim
      (λ one. rw one (λ i d inside. only i d inside))
      (λ axis. rw axis (All-map IsElementInRange (λ i. element_at b (insert index k i)) (range_with_len 0 (slice_index b.shape k))
      (λ i d inside. element_in_in b (place_of b.shape (insert index k (get_or (range_with_len 0 (slice_index b.shape k)) i d))) h)))
      (cases_Bool (is_scalar b))
    where
      only : (i : ℕ) (d : Elem) → i < 1 → IsElementInRange (get_or (only_element b ∷ []) i d)
      only zero d inside = element_in_in b 0 h
      only (suc i) d inside = absurd (omega (arith, inside))

  pub reduce_within : (f : ScalarFunction) (b r : ArrayValue) (axis : Axis) → IsWithinLimits b → result_of (reduce_row f b axis) ≡ Ok r → IsWithinLimits r
  reduce_within f b r axis h =
      law (reduce_row f b axis) r (λ passed. (decided (reduce_row f b axis).shape).0 passed.1.0)
      (λ passed index inside. reduction_in f (items_along b (axis_of axis (rank_of b)) index) (items_in b (axis_of axis (rank_of b)) index h.numbers))

  pub outer_within : (f : ScalarFunction) (a b r : ArrayValue) → IsWithinLimits a → IsWithinLimits b → result_of (outer_row f a b) ≡ Ok r → IsWithinLimits r
  outer_within f a b r g h =
      law (outer_row f a b) r (λ passed. (decided (outer_row f a b).shape).0 passed.0)
      (λ passed index inside. as_element_in _ (pair_in f _ _ (element_in_in a _ g.numbers) (element_in_in b _ h.numbers)))

  -- ---- inner products

  judged_in : (outcomes : List (Result Elem Fault)) → All (λ outcome. IfOk outcome IsElementInRange) outcomes → IfOk (collect_outcomes outcomes) (All IsElementInRange)
  judged_in [] all = λ i d inside. absurd (omega (arith, inside))
  judged_in (Ok x ∷ outcomes) all = and_first_in x (collect_outcomes outcomes) (all 0 (Ok x) (omega arith)) (judged_in outcomes (λ i d inside. all (suc i) d (omega (arith, inside))))
    where
      and_first_in : (x : Elem) (found : Result (List Elem) Fault) → IsElementInRange x → IfOk found (All IsElementInRange) → IfOk (and_first x found) (All IsElementInRange)
      and_first_in x (Ok xs) h k = front
        where
          front : (i : ℕ) (d : Elem) → i < length (x ∷ xs) → IsElementInRange (get_or (x ∷ xs) i d)
          front zero d inside = h
          front (suc i) d inside = k i d (omega (arith, inside))
      and_first_in x (Err fault) h k = tt
  judged_in (Err fault ∷ outcomes) all = tt

  reduced_in : (f : ScalarFunction) (found : Result (List Elem) Fault) → IfOk found (All IsElementInRange) → IfOk (judged_reduction f found) IsElementInRange
  reduced_in f (Ok items) all = reduction_in f items all
  reduced_in f (Err fault) all = tt

  pub inner_within : (f g : ScalarFunction) (a b r : ArrayValue) → IsWithinLimits a → IsWithinLimits b → result_of (inner_row f g a b) ≡ Ok r → IsWithinLimits r
  inner_within f g a b r k h =
      law (inner_row f g a b) r (λ passed. (decided (inner_row f g a b).shape).0 passed.1.0)
      (λ passed index inside.
      reduced_in f (collect_outcomes (items_of g a b index)) (judged_in (items_of g a b index)
      (All-map (λ outcome. IfOk outcome IsElementInRange) (λ i. pair_of g (left_element a index i) (right_element a b index i)) (range_with_len 0 (common_length a b))
      (λ i d within.
      let n = get_or (range_with_len 0 (common_length a b)) i d in
      as_element_in _ (pair_in g _ _
      (either_in (is_single a) _ _ (element_in_in a 0 k.numbers) (element_in_in a (place_of a.shape (take (rank_of a - 1) index ++ n ∷ [])) k.numbers))
      (either_in (is_single b) _ _ (element_in_in b 0 h.numbers) (element_in_in b (place_of b.shape (n ∷ drop (rank_of a - 1) index)) h.numbers)))))))

  -- ---- decode and encode

  digits_in : (kind : Kind) (radices : List ℤ) (k : ℕ) (x : Elem) → IfOk (encoded kind radices k x) IsElementInRange
  digits_in Number radices k (Int b) = exact_in (residue (slice_index_or radices k (pos 0)) (carry_past (drop (k + 1) radices) b))
  digits_in Number radices k (Chr c) = tt
  digits_in Character radices k x = tt

  pub encode_within : (a b r : ArrayValue) → IsWithinLimits a → IsWithinLimits b → result_of (encode_row a b) ≡ Ok r → IsWithinLimits r
  encode_within a b r g h =
      law (encode_row a b) r (λ passed. (decided (encode_row a b).shape).0 passed.1.0)
      (λ passed index inside. digits_in a.kind (numbers_of a) (slice_index (take (rank_of a) index) 0) (element_at b (drop (rank_of a) index)))

  -- the values of all beginnings are in the range, and the last is that of all digits
  decoded_in : (n : ℕ) (radices digits : List ℤ) → length radices ≡ n → length digits ≡ n → IfOk (decoded n radices digits) IsElementInRange
  decoded_in n radices digits left right =
      let at : ℕ → Bool = λ k. in_range (value_of (take k radices) (take k digits)) in
      ⊎_elim
      (λ all.
      let each = AllPass-from_list_all at (range_with_len 0 (n + 1)) all n 0 (omega (arith, length-range_with_len 0 (n + 1))) in
      let there : get_or (range_with_len 0 (n + 1)) n 0 ≡ n = get_or-range_with_len 0 (n + 1) n 0 (omega arith) ∙ omega arith in
      let last : at n ≡ true = subst (λ k. at k ≡ true) there each in
      let radices_all : take n radices ≡ radices = take_all n radices (omega (arith, left)) in
      let digits_all : take n digits ≡ digits = take_all n digits (omega (arith, right)) in
      let inside : in_range (value_of radices digits) ≡ true = ap (λ rs. in_range (value_of rs digits)) (sym radices_all) ∙ ap (λ ds. in_range (value_of (take n radices) ds)) (sym digits_all) ∙ last in
      rw all (literal_in (value_of radices digits) inside))
      (λ some. rw some tt)
      (cases_Bool (list_all at (range_with_len 0 (n + 1))))

  extended_length : (n : ℕ) (a : ArrayValue) → IsWithinLimits a → (has_one_element a.shape ≡ false → size_of a ≡ n) → length (extended_to n a) ≡ n
  extended_length n a h same =
      ⊎_elim
      (λ one. rw one (length-replicate n (number_of (only_element a))))
      (λ more. rw more (length-map a.ravel number_of ∙ h.len ∙ same more))
      (cases_Bool (has_one_element a.shape))

  pub decode_within : (a b r : ArrayValue) → IsWithinLimits a → IsWithinLimits b → result_of (decode_row a b) ≡ Ok r → IsWithinLimits r
  decode_within a b r g h =
      law (decode_row a b) r (λ passed. (decided []).0 refl)
      (λ passed index inside.
      let n = decode_length a b in
      decoded_in n (extended_to n a) (extended_to n b)
      (extended_length n a g (λ more. rw more refl))
      (extended_length n b h (λ more. other_length a b more passed.1.0)))
    where
      other_length : (a b : ArrayValue) → has_one_element b.shape ≡ false → (has_one_element a.shape || (has_one_element b.shape || (size_of a == size_of b))) ≡ true → size_of b ≡ decode_length a b
      other_length a b more fits =
          ⊎_elim
          (λ one. rw one refl)
          (λ several.
          let eq = size_of a == size_of b in
          let other : (has_one_element b.shape || eq) ≡ true = sym (ap (λ p. p || (has_one_element b.shape || eq)) several) ∙ fits in
          let same : eq ≡ true = sym (ap (λ p. p || eq) more) ∙ other in
          rw several (sym (eqb-true (size_of a) (size_of b) same)))
          (cases_Bool (has_one_element a.shape))

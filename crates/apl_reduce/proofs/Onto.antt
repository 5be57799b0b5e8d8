-- A fold of numbers onto the last one.
use Rattle.std.proofs.Common.{◌≡◌, ℕ, zero, suc, ◌+◌, ◌-◌, ◌*◌, ◌/◌, ◌%◌, ◌<◌, ◌≤◌, ℤ, pos, List, [], ◌∷◌, length, map, slice_index_or, Result, Ok, Err, refl, sym, ap, subst, ◌∙◌, arith}
use Rattle.std.proofs.Math.ListN.{get_or-map}
use Rattle.std.proofs.lemmas.List.{get_or-map as get_or-map_inside}
use Rattle.apl_array.specs.declared.array.Elem.{Elem}
use Rattle.apl_array.specs.declared.array.Elem.TheVariants.{Int}
use Rattle.apl_array.specs.declared.function.ScalarFunction.{ScalarFunction}
use Rattle.apl_pool.specs.declared.kernel.Fault.{Fault}
use Rattle.apl_pool.specs.Pool.{AreValues}
use Rattle.apl_pool.specs.Summaries.{and_then, fold_onto}
use Rattle.apl_scalar.specs.Scalar.{dyadic_of, dyadic_numbers}
use Rattle.apl_summary.specs.RowFolds.{IsRowFold}
use Rattle.apl_reduce.specs.Folded.{number_step, folded, folded_onto, element_along, number_of_axis, fold_at}
use Rattle.apl_reduce.proofs.Folds.{reached, one_onto}

module _ (f : ScalarFunction) where
  step_onto : (x : ℤ) (r : Result ℤ Fault) → number_step f (Int x) r ≡ and_then r (dyadic_numbers f x)
  step_onto x (Ok z) = refl
  step_onto x (Err fault) = refl

  module _ (item : ℕ → Elem) where
    folds_onto : (xs : List ℤ) (k more : ℕ) (last : ℤ) → length xs ≡ suc more → ((j : ℕ) → j < length xs → item (k + j) ≡ Int (slice_index_or xs j (pos 0)))
        → item (k + length xs) ≡ Int last → folded f item k more ≡ fold_onto (dyadic_numbers f) xs last
    folds_onto [] k more last some each end = absurd (omega (arith, some))
    folds_onto (x ∷ []) k (suc more) last some each end = absurd (omega (arith, some))
    folds_onto (x ∷ []) k zero last some each end =
        let first : k + 0 ≡ k = omega arith in
        let second : suc k ≡ k + 1 = omega arith in
        ap (λ e. dyadic_of f e (item (suc k))) (ap item (sym first) ∙ each 0 (omega arith)) ∙ ap (dyadic_of f (Int x)) (ap item second ∙ end)
    folds_onto (x ∷ y ∷ rest) k zero last some each end = absurd (omega (arith, some))
    folds_onto (x ∷ y ∷ rest) k (suc more) last some each end =
        let first : k + 0 ≡ k = omega arith in
        let final : suc k + length (y ∷ rest) ≡ k + length (x ∷ y ∷ rest) = omega arith in
        ap (λ e. number_step f e (folded f item (suc k) more)) (ap item (sym first) ∙ each 0 (omega arith))
        ∙ ap (number_step f (Int x))
        (folds_onto (y ∷ rest) (suc k) more last (omega (arith, some))
        (λ j h. let same : suc k + j ≡ k + suc j = omega arith in ap item same ∙ each (suc j) (omega (arith, h)))
        (ap item final ∙ end))
        ∙ step_onto x (fold_onto (dyadic_numbers f) (y ∷ rest) last)

abbrev value : ℤ → Result ℤ Fault
value z = Ok z

same_value : (x y : ℤ) → value x ≡ value y → x ≡ y
same_value x y e = cc

no_fault : (x : ℤ) (fault : Fault) → value x ≡ Err fault → ⊥
no_fault x fault e = absurd cc

-- the numbers at equal distances, but the last
abbrev pub number_at : List ℤ → ℕ → ℕ → ℕ → ℤ
number_at numbers first stride place = slice_index_or numbers (first + place * stride) (pos 0)

pub folded_stretch : (f : ScalarFunction) (numbers items : List ℤ) (first stride n more : ℕ) (last : ℤ) → n ≡ suc more
    → AreValues (λ place. value (number_at numbers first stride place)) n items → last ≡ number_at numbers first stride n
    → fold_onto (dyadic_numbers f) items last ≡ folded f (element_along (map Int numbers) first stride) 0 more
folded_stretch f numbers items first stride n more last some values end =
    let item = element_along (map Int numbers) first stride in
    let read : (j : ℕ) → item (0 + j) ≡ Int (number_at numbers first stride j) =
    λ j. let same : 0 + j ≡ j = omega arith in ap item same ∙ get_or-map Int numbers (first + j * stride) (pos 0) in
    sym (folds_onto f item items 0 more last (values.len ∙ some)
    (λ j h. read j ∙ ap Int (same_value _ _ (values.each j (pos 0) (omega (arith, h, values.len)))))
    (ap (λ m. item (0 + m)) values.len ∙ read n ∙ ap Int (sym end)))

-- the fold of the items along an axis, the last of which comes in to the others
number_row : (f : ScalarFunction) (numbers : List ℤ) (items block inner place : ℕ) → 2 ≤ items
    → IsRowFold (dyadic_numbers f) (λ k. Ok (number_of_axis numbers block inner place k)) (items - 1) (Ok (number_of_axis numbers block inner place (items - 1))) (fold_at f (map Int numbers) items block inner place)
number_row f numbers items block inner place two =
    let first = place / inner * block + place % inner in
    record {
      folded = λ others values. sym (folded_stretch f numbers others first inner (items - 1) (items - 2) (number_of_axis numbers block inner place (items - 1)) (omega arith) values refl);
      faulty = λ k fault is. absurd (no_fault (number_at numbers first inner k) fault is.faulty);
    }

-- the same of elements that are numbers
module _ {T : Type 0} (elem_of : T → Elem) (number_in : T → ℤ) (is : (x : T) → elem_of x ≡ Int (number_in x)) where
  elements_are : (xs : List T) → map Int (map number_in xs) ≡ map elem_of xs
  elements_are [] = refl
  elements_are (x ∷ xs) = ap (λ e. e ∷ map Int (map number_in xs)) (sym (is x)) ∙ ap (λ es. elem_of x ∷ es) (elements_are xs)

  pub axis_row : (f : ScalarFunction) (xs : List T) (items block inner place : ℕ) → 2 ≤ items
      → IsRowFold (dyadic_numbers f) (λ k. Ok (number_of_axis (map number_in xs) block inner place k)) (items - 1) (Ok (number_of_axis (map number_in xs) block inner place (items - 1))) (fold_at f (map elem_of xs) items block inner place)
  axis_row f xs items block inner place two =
      let numbers = map number_in xs in
      let Is : List Elem → Type 0 = λ es. IsRowFold (dyadic_numbers f) (λ k. Ok (number_of_axis numbers block inner place k)) (items - 1) (Ok (number_of_axis numbers block inner place (items - 1))) (fold_at f es items block inner place) in
      subst Is (elements_are xs) (number_row f numbers items block inner place two)

  -- the number at a place that a step back leads to, onto what those after it gave
  pub one_number_onto : (f : ScalarFunction) (xs : List T) (first stride count done here : ℕ) (element : T) (x total : ℤ) (start : Result ℤ Fault) → done < count
      → here ≡ first + (count - (done + 1)) * stride → here < length xs → element ≡ slice_index_or xs here element → x ≡ number_in element
      → Ok total ≡ folded_onto f (element_along (map elem_of xs) first stride) (count - done) done start
      → dyadic_of f (Int x) (Int total) ≡ folded_onto f (element_along (map elem_of xs) first stride) (count - (done + 1)) (done + 1) start
  one_number_onto f xs first stride count done here element x total start below place inside found number so_far =
      let k = count - (done + 1) in
      let left : count - done ≡ suc k = omega (arith, below) in
      let more : done + 1 ≡ suc done = omega arith in
      let read : Int x ≡ slice_index_or (map elem_of xs) here (Int (pos 0)) =
      ap Int number ∙ sym (is element) ∙ ap elem_of found ∙ sym (get_or-map_inside elem_of xs here element (Int (pos 0)) inside) in
      one_onto f (element_along (map elem_of xs) first stride) k (count - done) done (done + 1) (Int x) (Ok total) start left more
      (read ∙ reached (map elem_of xs) first stride k here place) so_far

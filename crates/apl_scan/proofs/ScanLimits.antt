-- The results of scans are within all limits.
use Rattle.std.proofs.Common.{◌≡◌, ◌↔◌, ◌+◌, get_or, ℕ, ℤ, suc, pos, Bool, true, false, List, [], ◌∷◌, length, slice_index, Result, Ok, Err, IfOk, refl, ⊎_elim, arith}
use Rattle.std.specs.Prelude.{All, slice_set, if◌then◌else◌}
use Rattle.std.specs.List.{range_with_len}
use Rattle.std.proofs.lemmas.Bool.{cases_lt}
use Rattle.std.proofs.lemmas.List.{get_or_past}
use Rattle.std.proofs.lemmas.List.Elements.{All-map}
use Rattle.apl_array.specs.declared.array.Elem.{Elem}
use Rattle.apl_array.specs.declared.array.Elem.TheVariants.{Int}
use Rattle.apl_array.specs.declared.array.Kind.{Kind}
use Rattle.apl_array.specs.declared.array.Kind.TheVariants.{Number, Character}
use Rattle.apl_array.specs.declared.axis.Axis.{Axis}
use Rattle.apl_array.specs.declared.function.ScalarFunction.{ScalarFunction}
use Rattle.apl_array.specs.declared.function.ScalarFunction.TheVariants.{Plus, Minus, Times, Divide, Stile, Star, Bang, Floor, Ceiling, And, Or, Nand, Nor, Less, LessOrEqual, Equal, GreaterOrEqual, Greater, NotEqual, Tilde}
use Rattle.apl_array.specs.Axes.{axis_of}
use Rattle.apl_array.specs.Shape.{IsShape, IsIndexOf, place_of}
use Rattle.apl_array.specs.Array.{ArrayValue, element_in, element_at}
use Rattle.apl_array.specs.Range.{IsInRange, in_range, IsElementInRange, HasNumbersInRange}
use Rattle.apl_array.specs.Limits.{IsWithinLimits}
use Rattle.apl_answer.specs.Arguments.{rank_of}
use Rattle.apl_answer.specs.Rows.{Row, HavePassed, result_of}
use Rattle.apl_pool.specs.declared.kernel.Fault.{Fault}
use Rattle.apl_scalar.specs.Scalar.{dyadic_of, identity_of, as_element}
use Rattle.apl_reduce.specs.Folding.{fold_step, right_fold, identity_or_fault, reduction}
use Rattle.apl_scan.specs.Scanning.{is_unchanged, items_up_to, scanned, scan_row}

-- a lawful shape and elements in the range, where the checks have passed, make a result within all limits
abbrev pub RowLaw : Type 0
RowLaw = (row : Row) (a : ArrayValue) → (HavePassed row.checks → IsShape row.shape)
    → (HavePassed row.checks → (index : List ℕ) → IsIndexOf row.shape index → IfOk (row.outcome index) IsElementInRange)
    → result_of row ≡ Ok a → IsWithinLimits a

either_in : (p : Bool) (x y : Result Elem Fault) → IfOk x IsElementInRange → IfOk y IsElementInRange → IfOk (if p then x else y) IsElementInRange
either_in true x y h k = h
either_in false x y h k = k

module _ (law : RowLaw) (in_range_decided : (z : ℤ) → (in_range z ≡ true) ↔ IsInRange z)
    (pair_in : (f : ScalarFunction) (x y : Elem) → IsElementInRange x → IsElementInRange y → IfOk (dyadic_of f x y) IsInRange) where
  literal_in : (z : ℤ) → in_range z ≡ true → IsInRange z
  literal_in z inside = (in_range_decided z).0 inside

  element_in_in : (b : ArrayValue) (place : ℕ) → HasNumbersInRange b → IsElementInRange (element_in b place)
  element_in_in b place h =
      ⊎_elim
      (λ within. h place (Int (pos 0)) within)
      (λ past. rw (get_or_past b.ravel place (Int (pos 0)) past) (literal_in (pos 0) refl))
      (cases_lt place (length b.ravel))

  as_element_in : (r : Result ℤ Fault) → IfOk r IsInRange → IfOk (as_element r) IsElementInRange
  as_element_in (Ok z) h = h
  as_element_in (Err fault) h = tt

  step_in : (f : ScalarFunction) (x : Elem) (total : Result Elem Fault) → IsElementInRange x → IfOk total IsElementInRange → IfOk (fold_step f x total) IsElementInRange
  step_in f x (Ok r) h k = as_element_in (dyadic_of f x r) (pair_in f x r h k)
  step_in f x (Err fault) h k = tt

  fold_in : (f : ScalarFunction) (x : Elem) (rest : List Elem) → All IsElementInRange (x ∷ rest) → IfOk (right_fold f x rest) IsElementInRange
  fold_in f x [] all = all 0 x (omega arith)
  fold_in f x (y ∷ rest) all =
      step_in f x (right_fold f y rest) (all 0 x (omega arith)) (fold_in f y rest (λ i d inside. all (suc i) d (omega (arith, inside))))

  identity_in : (f : ScalarFunction) → IfOk (identity_or_fault (identity_of f)) IsElementInRange
  identity_in Plus = literal_in _ refl
  identity_in Minus = literal_in _ refl
  identity_in Times = literal_in _ refl
  identity_in Divide = literal_in _ refl
  identity_in Stile = literal_in _ refl
  identity_in Star = literal_in _ refl
  identity_in Bang = literal_in _ refl
  identity_in Floor = literal_in _ refl
  identity_in Ceiling = literal_in _ refl
  identity_in And = literal_in _ refl
  identity_in Or = literal_in _ refl
  identity_in Nand = tt
  identity_in Nor = tt
  identity_in Less = literal_in _ refl
  identity_in LessOrEqual = literal_in _ refl
  identity_in Equal = literal_in _ refl
  identity_in GreaterOrEqual = literal_in _ refl
  identity_in Greater = literal_in _ refl
  identity_in NotEqual = literal_in _ refl
  identity_in Tilde = tt

  reduction_in : (f : ScalarFunction) (items : List Elem) → All IsElementInRange items → IfOk (reduction f items) IsElementInRange
  reduction_in f [] all = identity_in f
  reduction_in f (x ∷ rest) all = fold_in f x rest all

  scanned_in : (f : ScalarFunction) (kind : Kind) (items : List Elem) → All IsElementInRange items → IfOk (scanned f kind items) IsElementInRange
  scanned_in f Number items all = reduction_in f items all
  scanned_in f Character items all = tt

  items_in : (b : ArrayValue) (k : ℕ) (index : List ℕ) → HasNumbersInRange b → All IsElementInRange (items_up_to b k index)
  items_in b k index h =
      All-map IsElementInRange (λ i. element_at b (slice_set index k i)) (range_with_len 0 (slice_index index k + 1))
      (λ i d inside. element_in_in b (place_of b.shape (slice_set index k (get_or (range_with_len 0 (slice_index index k + 1)) i d))) h)

  pub scan_within : (f : ScalarFunction) (b r : ArrayValue) (axis : Axis) → IsWithinLimits b → result_of (scan_row f b axis) ≡ Ok r → IsWithinLimits r
  scan_within f b r axis h =
      let k = axis_of axis (rank_of b) in
      law (scan_row f b axis) r (λ passed. h.shape)
      (λ passed index inside. either_in (is_unchanged b k) _ _ (element_in_in b (place_of b.shape index) h.numbers) (scanned_in f b.kind (items_up_to b k index) (items_in b k index h.numbers)))

-- Folds by + - and × in exact numbers, and where they leave the range.
use Rattle.std.proofs.Common.{◌≡◌, ◌↔◌, ℕ, zero, suc, ℤ, pos, true, false, Bool, List, [], ◌∷◌, map, drop, Result, Ok, Option, Some, None, refl, ap, sym, ◌∙◌, inl, inr, ⊎_elim, arith}
use Rattle.std.specs.Prelude.{All, ◌+ℤ◌, ◌-ℤ◌, ◌*ℤ◌}
use Rattle.std.proofs.Math.IntN.{*ℤ-one}
use Rattle.std.proofs.lemmas.Bool.{cases_Bool}
use Rattle.std.proofs.lemmas.Int.{ints}
use Rattle.std.proofs.lemmas.Option.{none-some}
use Rattle.apl_array.specs.declared.array.Elem.{Elem}
use Rattle.apl_array.specs.declared.array.Elem.TheVariants.{Int}
use Rattle.apl_array.specs.declared.function.ScalarFunction.{ScalarFunction}
use Rattle.apl_array.specs.declared.function.ScalarFunction.TheVariants.{Plus, Minus, Times}
use Rattle.apl_array.specs.Range.{IsInRange, in_range}
use Rattle.apl_pool.specs.declared.kernel.Fault.{Fault}
use Rattle.apl_pool.specs.declared.kernel.Fault.TheVariants.{Limit}
use Rattle.apl_scalar.specs.Scalar.{dyadic_numbers, exact, as_element, identity_of}
use Rattle.apl_reduce.specs.Folding.{fold_step, right_fold, identity_or_fault, reduction}
use Rattle.apl_reduce.specs.Partial.{exact_function}
use Rattle.apl_reduce.specs.Refusals.{IsRefusedOr}
use Rattle.apl_reduce.specs.ExactFolds.{IsExactly, exact_fold_of, HasEndOutside}

-- what of + - × a fold rests on
pub record IsExact (f : ScalarFunction) (e : ℤ → ℤ → ℤ) (identity : ℤ) : Type 0 where
  pub numbers : (x y : ℤ) → dyadic_numbers f x y ≡ exact (e x y)
  pub last : (x : ℤ) → e x identity ≡ x
  pub inside : in_range identity ≡ true
  pub none : identity_of f ≡ Some identity

abbrev function_or : (ℤ → ℤ → ℤ) → Option (ℤ → ℤ → ℤ) → ℤ → ℤ → ℤ
function_or own (Some e) = e
function_or own None = own

abbrev number_or : ℤ → Option ℤ → ℤ
number_or own (Some z) = z
number_or own None = own

as_named : (f : ScalarFunction) (own e : ℤ → ℤ → ℤ) (z identity : ℤ) → ((x y : ℤ) → dyadic_numbers f x y ≡ exact (own x y)) → ((x : ℤ) → own x z ≡ x) → in_range z ≡ true
    → Some own ≡ Some e → Some z ≡ Some identity → identity_of f ≡ Some identity → IsExact f e identity
as_named f own e z identity is last inside function number none =
    let same : own ≡ e = ap (function_or own) function in
    let unit : z ≡ identity = ap (number_or z) number in
    record {
      numbers = λ x y. is x y ∙ ap (λ k. exact (k x y)) same;
      last = λ x. sym (ap (λ k. k x identity) same) ∙ sym (ap (own x) unit) ∙ last x;
      inside = sym (ap in_range unit) ∙ inside;
      none = none;
    }

pub function_is : (f : ScalarFunction) (e : ℤ → ℤ → ℤ) → exact_function f ≡ Some e → (x y : ℤ) → dyadic_numbers f x y ≡ exact (e x y)
function_is Plus e has x y = ap (λ (k : ℤ → ℤ → ℤ). exact (k x y)) (ap (function_or (λ x y. x +ℤ y)) has)
function_is Minus e has x y = ap (λ (k : ℤ → ℤ → ℤ). exact (k x y)) (ap (function_or (λ x y. x -ℤ y)) has)
function_is Times e has x y = ap (λ (k : ℤ → ℤ → ℤ). exact (k x y)) (ap (function_or (λ x y. x *ℤ y)) has)
function_is _ e has x y = absurd (none-some e has)

pub exactly : (f : ScalarFunction) (e : ℤ → ℤ → ℤ) (identity : ℤ) → IsExactly f e identity → IsExact f e identity
exactly Plus e identity is = as_named Plus (λ x y. x +ℤ y) e (pos 0) identity (λ x y. refl) (λ x. omega (arith, ints)) refl is.function is.none is.none
exactly Minus e identity is = as_named Minus (λ x y. x -ℤ y) e (pos 0) identity (λ x y. refl) (λ x. omega (arith, ints)) refl is.function is.none is.none
exactly Times e identity is = as_named Times (λ x y. x *ℤ y) e (pos 1) identity (λ x y. refl) (λ x. omega (arith, ints, *ℤ-one x)) refl is.function is.none is.none
exactly _ e identity is = absurd (none-some e is.function)

true_no_false : (p : Bool) → p ≡ true → p ≡ false → ⊥
true_no_false p is is_not = absurd (let e = sym is ∙ is_not in cc)

-- an exact number is LIMIT where it is outside the range
pub exact_told : (z : ℤ) → IsRefusedOr Limit (in_range z ≡ false) (Int z) (as_element (exact z))
exact_told z =
    ⊎_elim
    (λ inside. inr (true_no_false (in_range z) inside, rw inside refl))
    (λ outside. inl (outside, rw outside refl))
    (cases_Bool (in_range z))

module _ (decided : (z : ℤ) → (in_range z ≡ true) ↔ IsInRange z) (f : ScalarFunction) (e : ℤ → ℤ → ℤ) (identity : ℤ) (is : IsExact f e identity) where
  drop_of_none : (from : ℕ) → in_range (exact_fold_of e identity (drop from [])) ≡ true
  drop_of_none zero = is.inside
  drop_of_none (suc from) = is.inside

  none_of_none : HasEndOutside e identity [] → ⊥
  none_of_none w = true_no_false _ (drop_of_none w.0) w.1

  -- the end is the whole list, or one of the rest
  ends_of : (x : ℤ) (rest : List ℤ) → (in_range (exact_fold_of e identity (x ∷ rest)) ≡ false → ⊥) → (HasEndOutside e identity rest → ⊥) → HasEndOutside e identity (x ∷ rest) → ⊥
  ends_of x rest whole more w = by w.0 w.1 where
    by : (from : ℕ) → in_range (exact_fold_of e identity (drop from (x ∷ rest))) ≡ false → ⊥
    by zero outside = whole outside
    by (suc from) outside = more (from, outside)

  tail_in : (x : ℤ) (rest : List ℤ) → All IsInRange (x ∷ rest) → All IsInRange rest
  tail_in x rest numbers = λ i d inside. numbers (suc i) d (omega (arith, inside))

  step_told : (x : ℤ) (rest : List ℤ) (r : Result Elem Fault) → IsRefusedOr Limit (HasEndOutside e identity rest) (Int (exact_fold_of e identity rest)) r
      → IsRefusedOr Limit (HasEndOutside e identity (x ∷ rest)) (Int (exact_fold_of e identity (x ∷ rest))) (fold_step f (Int x) r)
  step_told x rest r told =
      ⊎_elim
      (λ refused. inl ((suc refused.0.0, refused.0.1), rw refused.1 refl))
      (λ value.
      let step : fold_step f (Int x) r ≡ as_element (exact (exact_fold_of e identity (x ∷ rest))) = ap (fold_step f (Int x)) value.1 ∙ ap as_element (is.numbers x (exact_fold_of e identity rest)) in
      ⊎_elim
      (λ outside. inl ((0, outside.0), step ∙ outside.1))
      (λ inside. inr (ends_of x rest inside.0 value.0, step ∙ inside.1))
      (exact_told (exact_fold_of e identity (x ∷ rest))))
      told

  fold_told : (x : ℤ) (rest : List ℤ) → All IsInRange (x ∷ rest)
      → IsRefusedOr Limit (HasEndOutside e identity (x ∷ rest)) (Int (exact_fold_of e identity (x ∷ rest))) (right_fold f (Int x) (map Int rest))
  fold_told x [] numbers =
      let inside : in_range (e x identity) ≡ true = ap in_range (is.last x) ∙ (decided x).1 (numbers 0 x (omega arith)) in
      inr (ends_of x [] (true_no_false _ inside) none_of_none, ap (λ z. Ok (Int z)) (sym (is.last x)))
  fold_told x (y ∷ rest) numbers = step_told x (y ∷ rest) (right_fold f (Int y) (map Int rest)) (fold_told y rest (tail_in x (y ∷ rest) numbers))

  -- the reduction of numbers of the range
  pub reduction_told : (numbers : List ℤ) → All IsInRange numbers → IsRefusedOr Limit (HasEndOutside e identity numbers) (Int (exact_fold_of e identity numbers)) (reduction f (map Int numbers))
  reduction_told [] inside = inr (none_of_none, ap identity_or_fault is.none)
  reduction_told (x ∷ rest) inside = fold_told x rest inside

-- Folds and the folds of the ends of their lists, in exact numbers.
use Rattle.std.proofs.Common.{◌≡◌, ◌↔◌, ℤ, suc, true, false, Bool, List, [], ◌∷◌, map, Ok, Err, Option, Some, None, refl, ap, sym, ◌∙◌, ⊎_elim, arith}
use Rattle.std.specs.Prelude.{◌&&◌, All, if◌then◌else◌, ◌+ℤ◌, ◌-ℤ◌, ◌*ℤ◌}
use Rattle.std.specs.List.{list_all}
use Rattle.std.proofs.lemmas.Bool.{cases_Bool}
use Rattle.std.proofs.lemmas.Option.{none-some}
use Rattle.apl_array.specs.declared.array.Elem.TheVariants.{Int}
use Rattle.apl_array.specs.declared.function.ScalarFunction.{ScalarFunction}
use Rattle.apl_array.specs.declared.function.ScalarFunction.TheVariants.{Plus, Minus, Times}
use Rattle.apl_array.specs.Range.{IsInRange, in_range}
use Rattle.apl_pool.specs.declared.kernel.Fault.TheVariants.{Limit}
use Rattle.apl_scalar.specs.Scalar.{dyadic_numbers, exact, as_element}
use Rattle.apl_reduce.specs.Folding.{fold_step, right_fold}
use Rattle.apl_reduce.specs.Partial.{exact_function, exact_fold, partial_results, fold_by_partial_results}

abbrev value_or : (ℤ → ℤ → ℤ) → Option (ℤ → ℤ → ℤ) → ℤ → ℤ → ℤ
value_or own (Some e) = e
value_or own None = own

and_true : (p : Bool) → (p && true) ≡ p
and_true true = refl
and_true false = refl

and_false : (p : Bool) → (p && false) ≡ false
and_false true = refl
and_false false = refl

module _ (decided : (z : ℤ) → (in_range z ≡ true) ↔ IsInRange z) where
  module _ (f : ScalarFunction) (e : ℤ → ℤ → ℤ) (is : (x y : ℤ) → dyadic_numbers f x y ≡ exact (e x y)) where
    judged : (z : ℤ) → as_element (exact z) ≡ (if in_range z then Ok (Int z) else Err Limit)
    judged z =
        ⊎_elim
        (λ inside. rw inside refl)
        (λ outside. rw outside refl)
        (cases_Bool (in_range z))

    pub ends_decide : (x : ℤ) (rest : List ℤ) → All IsInRange (x ∷ rest) → right_fold f (Int x) (map Int rest) ≡ fold_by_partial_results e x rest
    ends_decide x [] numbers =
        let inside : in_range x ≡ true = (decided x).1 (numbers 0 x (omega arith)) in
        rw inside refl
    ends_decide x (y ∷ rest) numbers =
        let r = exact_fold e y rest in
        let tail : All IsInRange (y ∷ rest) = λ i d inside. numbers (suc i) d (omega (arith, inside)) in
        let step : right_fold f (Int x) (map Int (y ∷ rest)) ≡ fold_step f (Int x) (fold_by_partial_results e y rest) = ap (fold_step f (Int x)) (ends_decide y rest tail) in
        ⊎_elim
        (λ all.
        let here : fold_step f (Int x) (fold_by_partial_results e y rest) ≡ as_element (exact (e x r)) = rw all (ap as_element (is x r)) in
        let same : (in_range (e x r) && list_all in_range (partial_results e y rest)) ≡ in_range (e x r) = ap (λ q. in_range (e x r) && q) all ∙ and_true (in_range (e x r)) in
        step ∙ here ∙ judged (e x r) ∙ ap (λ p. if p then Ok (Int (e x r)) else Err Limit) (sym same))
        (λ some.
        let here : fold_step f (Int x) (fold_by_partial_results e y rest) ≡ Err Limit = rw some refl in
        let none : (in_range (e x r) && list_all in_range (partial_results e y rest)) ≡ false = ap (λ q. in_range (e x r) && q) some ∙ and_false (in_range (e x r)) in
        step ∙ here ∙ ap (λ p. if p then Ok (Int (e x r)) else Err Limit) (sym none))
        (cases_Bool (list_all in_range (partial_results e y rest)))

  by_function : (f : ScalarFunction) (own e : ℤ → ℤ → ℤ) (x : ℤ) (rest : List ℤ) → ((x y : ℤ) → dyadic_numbers f x y ≡ exact (own x y)) → Some own ≡ Some e → All IsInRange (x ∷ rest)
      → right_fold f (Int x) (map Int rest) ≡ fold_by_partial_results e x rest
  by_function f own e x rest is has numbers = ends_decide f own is x rest numbers ∙ ap (λ k. fold_by_partial_results k x rest) (ap (value_or own) has)

  -- the functions that have an exact one
  pub partial_results_decide : (f : ScalarFunction) (e : ℤ → ℤ → ℤ) (x : ℤ) (rest : List ℤ) → exact_function f ≡ Some e → All IsInRange (x ∷ rest)
      → right_fold f (Int x) (map Int rest) ≡ fold_by_partial_results e x rest
  partial_results_decide Plus e x rest has numbers = by_function Plus (λ x y. x +ℤ y) e x rest (λ x y. refl) has numbers
  partial_results_decide Minus e x rest has numbers = by_function Minus (λ x y. x -ℤ y) e x rest (λ x y. refl) has numbers
  partial_results_decide Times e x rest has numbers = by_function Times (λ x y. x *ℤ y) e x rest (λ x y. refl) has numbers
  partial_results_decide _ e x rest has numbers = absurd (none-some e has)

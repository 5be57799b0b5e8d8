-- Sums over the views of all seats, and how often a number stands in a list.
use Rattle.std.proofs.Common.{◌≡◌, ℕ, zero, suc, ◌+◌, ◌≤◌, ◌≢◌, cond, List, [], ◌∷◌, ◌++◌, set, sym, refl, ap, arith, eq-eqb, ne_eqb}
use mathlib.Core.Option.{some, some-injective, some-ne-none}
use lib.ListN.{get_elem?}
use Rattle.apl_rooms.specs.declared.view.View.{View}
use Rattle.apl_rooms.specs.Views.{times}
use Rattle.apl_rooms.specs.Rule.{total}

pub times-append : (x : ℕ) (xs ys : List ℕ) → times x (xs ++ ys) ≡ times x xs + times x ys
times-append x [] ys = omega arith
times-append x (y ∷ xs) ys = omega (arith, times-append x xs ys)

pub times-same : (x : ℕ) → times x (x ∷ []) ≡ 1
times-same x = ap (λ b. cond b 1 0 + 0) (eq-eqb x x refl)

pub times-other : (x y : ℕ) → y ≢ x → times x (y ∷ []) ≡ 0
times-other x y n = ap (λ b. cond b 1 0 + 0) (ne_eqb y x n)

module _ {X : Type 0} where
  module _ (g : View X → ℕ) where
    pub total-snoc : (l : List (View X)) (w : View X) → total g (l ++ w ∷ []) ≡ total g l + g w
    total-snoc [] w = omega arith
    total-snoc (x ∷ xs) w = omega (arith, total-snoc xs w)

    pub total-set : (l : List (View X)) (j : ℕ) (v w : View X) → get_elem? l j ≡ some v → total g (set l j w) + g v ≡ total g l + g w
    total-set [] j v w e = absurd (some-ne-none v (sym e))
    total-set (x ∷ xs) zero v w e = omega (arith, ap g (some-injective x v e))
    total-set (x ∷ xs) (suc j) v w e = omega (arith, total-set xs j v w e)

    term_le : (l : List (View X)) (j : ℕ) (v : View X) → get_elem? l j ≡ some v → g v ≤ total g l
    term_le [] j v e = absurd (some-ne-none v (sym e))
    term_le (x ∷ xs) zero v e = omega (arith, ap g (some-injective x v e))
    term_le (x ∷ xs) (suc j) v e = omega (arith, term_le xs j v e)

    total_none : (l : List (View X)) → ((j : ℕ) (v : View X) → get_elem? l j ≡ some v → g v ≡ 0) → total g l ≡ 0
    total_none [] h = refl
    total_none (x ∷ xs) h = omega (arith, h 0 x refl, total_none xs (λ j v e. h (suc j) v e))

  -- where one view has the whole of f, and g is 0 of each view with none of f, it has the whole of g
  pub whole : (f g : View X → ℕ) (l : List (View X)) (j : ℕ) (v : View X) → get_elem? l j ≡ some v → total f l ≡ f v → ((i : ℕ) (u : View X) → get_elem? l i ≡ some u → f u ≡ 0 → g u ≡ 0) → total g l ≡ g v
  whole f g [] j v at all none = absurd (some-ne-none v (sym at))
  whole f g (x ∷ xs) zero v at all none =
      let same = some-injective x v at in
      let rest : total f xs ≡ 0 = omega (arith, ap f same) in
      omega (arith, ap g same, total_none g xs (λ i u e. none (suc i) u e (omega (arith, term_le f xs i u e))))
  whole f g (x ∷ xs) (suc j) v at all none =
      let part = term_le f xs j v at in
      omega (arith, none 0 x refl (omega arith), whole f g xs j v at (omega arith) (λ i u e. none (suc i) u e))

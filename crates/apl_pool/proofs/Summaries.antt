-- What follows from the laws of any summary.
use Rattle.std.proofs.Common.{◌≡◌, ℕ, ◌+◌, List, [], ◌∷◌, ◌++◌, ℤ, Result, Ok, Err, refl, sym, ap, ◌∙◌, arith, length-append}
use Rattle.apl_pool.specs.declared.kernel.Fault.{Fault}
use Rattle.apl_pool.specs.Summaries.{IsI64, and_then, fold_onto, IsSummaryOf}

then_then : (o : Result ℤ Fault) (f g : ℤ → Result ℤ Fault) → and_then (and_then o f) g ≡ and_then o (λ z. and_then (f z) g)
then_then (Ok z) f g = refl
then_then (Err fault) f g = refl

module _ {X : Type 0} (step : X → ℤ → Result ℤ Fault) where
  -- a list is folded in two parts, the right one first
  pub fold-append : (xs ys : List X) (right : ℤ) → fold_onto step (xs ++ ys) right ≡ and_then (fold_onto step ys right) (fold_onto step xs)
  fold-append [] ys right = same (fold_onto step ys right) where
    same : (o : Result ℤ Fault) → o ≡ and_then o (λ z. Ok z)
    same (Ok z) = refl
    same (Err fault) = refl
  fold-append (x ∷ xs) ys right = ap (λ (o : Result ℤ Fault). and_then o (step x)) (fold-append xs ys right) ∙ then_then (fold_onto step ys right) (fold_onto step xs) (step x)

  module _ {S : Type 0} (item_count : S → ℕ) (outcome : S → ℤ → Result ℤ Fault) where
    pub summary-one : (s : S) (x : X) → item_count s ≡ 1 → ((right : ℤ) → IsI64 right → outcome s right ≡ step x right) → IsSummaryOf step item_count outcome s (x ∷ [])
    summary-one s x c o = record { number_of_items = c; does = o }

    meets : (a : S) (xs : List X) (o : Result ℤ Fault) → ((z : ℤ) → o ≡ Ok z → IsI64 z) → ((right : ℤ) → IsI64 right → outcome a right ≡ fold_onto step xs right) → and_then o (outcome a) ≡ and_then o (fold_onto step xs)
    meets a xs (Ok z) h k = k z (h z refl)
    meets a xs (Err fault) h k = refl

    pub summary-join : (a b s : S) (xs ys : List X) → ((right z : ℤ) → IsI64 right → outcome b right ≡ Ok z → IsI64 z) → IsSummaryOf step item_count outcome a xs → IsSummaryOf step item_count outcome b ys
        → item_count s ≡ item_count a + item_count b → ((right : ℤ) → IsI64 right → outcome s right ≡ and_then (outcome b right) (outcome a)) → IsSummaryOf step item_count outcome s (xs ++ ys)
    summary-join a b s xs ys range p q c o = record {
      number_of_items = omega (arith, c, p.number_of_items, q.number_of_items, length-append xs ys);
      does = λ right h. o right h ∙ meets a xs (outcome b right) (λ z e. range right z h e) p.does ∙ ap (λ (t : Result ℤ Fault). and_then t (fold_onto step xs)) (q.does right h) ∙ sym (fold-append xs ys right);
    }

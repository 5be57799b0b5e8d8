-- Summaries of numbers that stand behind one another.
use Rattle.std.proofs.Common.{◌≡◌, ℕ, ℤ, ◌+◌, List, [], ◌∷◌, ◌++◌, length, Result, Ok, Err, refl, ap, sym, ◌∙◌, length-append}
use Rattle.apl_pool.specs.declared.kernel.Fault.{Fault}
use Rattle.apl_pool.specs.Summaries.{IsI64, and_then, fold_onto, IsSummaryOf}

pub fold_append : (step : ℤ → ℤ → Result ℤ Fault) (left right : List ℤ) (r : ℤ) → fold_onto step (left ++ right) r ≡ and_then (fold_onto step right r) (fold_onto step left)
fold_append step [] right r = sym (kept (fold_onto step right r))
  where
    kept : (z : Result ℤ Fault) → and_then z (λ y. Ok y) ≡ z
    kept (Ok y) = refl
    kept (Err fault) = refl
fold_append step (x ∷ left) right r = ap (λ z. and_then z (step x)) (fold_append step left right r) ∙ turned (fold_onto step right r)
  where
    turned : (z : Result ℤ Fault) → and_then (and_then z (fold_onto step left)) (step x) ≡ and_then z (λ y. and_then (fold_onto step left y) (step x))
    turned (Ok y) = refl
    turned (Err fault) = refl

module _ {S : Type 0} (step : ℤ → ℤ → Result ℤ Fault) (item_count : S → ℕ) (outcome : S → ℤ → Result ℤ Fault) where
  -- what two summaries do one after the other is what the numbers of both do, where the right one keeps numbers in the range
  one_after_the_other : (left right : S) (xs ys : List ℤ) → IsSummaryOf step item_count outcome left xs → IsSummaryOf step item_count outcome right ys
      → ((r z : ℤ) → IsI64 r → outcome right r ≡ Ok z → IsI64 z) → (r : ℤ) → IsI64 r → and_then (outcome right r) (outcome left) ≡ fold_onto step (xs ++ ys) r
  one_after_the_other left right xs ys is_left is_right range r inside =
      same (outcome right r) refl
      ∙ ap (λ z. and_then z (fold_onto step xs)) (is_right.does r inside)
      ∙ sym (fold_append step xs ys r)
    where
      same : (z : Result ℤ Fault) → outcome right r ≡ z → and_then z (outcome left) ≡ and_then z (fold_onto step xs)
      same (Ok y) is = is_left.does y (range r y inside is)
      same (Err fault) is = refl

  pub of_both : (left right both : S) (xs ys : List ℤ) → IsSummaryOf step item_count outcome left xs → IsSummaryOf step item_count outcome right ys
      → ((r z : ℤ) → IsI64 r → outcome right r ≡ Ok z → IsI64 z)
      → item_count both ≡ item_count left + item_count right → ((r : ℤ) → IsI64 r → outcome both r ≡ and_then (outcome right r) (outcome left))
      → IsSummaryOf step item_count outcome both (xs ++ ys)
  of_both left right both xs ys is_left is_right range count does = record {
    number_of_items = count ∙ ap (λ n. n + item_count right) is_left.number_of_items ∙ ap (λ n. length xs + n) is_right.number_of_items ∙ sym (length-append xs ys);
    does = λ r inside. does r inside ∙ one_after_the_other left right xs ys is_left is_right range r inside;
  }

  pub of_one : (one : S) (x : ℤ) → item_count one ≡ 1 → ((r : ℤ) → IsI64 r → outcome one r ≡ step x r) → IsSummaryOf step item_count outcome one (x ∷ [])
  of_one one x count does = record { number_of_items = count; does = does }

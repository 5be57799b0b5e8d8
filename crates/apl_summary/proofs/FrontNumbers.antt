-- The numbers in front of others, and one more.
use Rattle.std.proofs.Common.{◌≡◌, ℕ, suc, ℤ, pos, ◌+◌, ◌<◌, List, [], ◌∷◌, ◌++◌, length, take, Result, Ok, Err, slice_index_or, slice_set, refl, sym, ap, ◌∙◌, ⊎_elim, arith, take-suc, get_or-set_same, get_or-set_other}
use Rattle.std.proofs.lemmas.Bool.{cases_lt}
use Rattle.std.proofs.lemmas.List.{append-nil, length-append, length_push, get_or_append_left, get_or_push}
use Rattle.apl_pool.specs.declared.kernel.Fault.{Fault}
use Rattle.apl_pool.specs.Summaries.{and_then, fold_onto}
use Rattle.apl_summary.specs.Fronts.{HasMoreAppended}
use Rattle.apl_summary.specs.Running.{AreFoldsBehind, HasFoldsAppended}

fold_append : (step : ℤ → ℤ → Result ℤ Fault) (left right : List ℤ) (r : ℤ) → fold_onto step (left ++ right) r ≡ and_then (fold_onto step right r) (fold_onto step left)
fold_append step [] right r = sym (kept (fold_onto step right r))
  where
    kept : (z : Result ℤ Fault) → and_then z (λ y. Ok y) ≡ z
    kept (Ok y) = refl
    kept (Err fault) = refl
fold_append step (x ∷ left) right r = ap (λ z. and_then z (step x)) (fold_append step left right r) ∙ turned (fold_onto step right r)
  where
    turned : (z : Result ℤ Fault) → and_then (and_then z (fold_onto step left)) (step x) ≡ and_then z (λ y. and_then (fold_onto step left y) (step x))
    turned (Ok y) = refl
    turned (Err fault) = refl

-- what the number gives comes in to those in front of it
pub fold_behind : (step : ℤ → ℤ → Result ℤ Fault) (numbers : List ℤ) (x r : ℤ) → fold_onto step (numbers ++ x ∷ []) r ≡ and_then (step x r) (fold_onto step numbers)
fold_behind step numbers x r = fold_append step numbers (x ∷ []) r

nested : (xs ys zs : List ℤ) → (xs ++ ys) ++ zs ≡ xs ++ (ys ++ zs)
nested [] ys zs = refl
nested (x ∷ xs) ys zs = ap (λ l. x ∷ l) (nested xs ys zs)

pub one_more_behind : (before numbers : List ℤ) (k : ℕ) → k < length numbers → (before ++ take k numbers) ++ slice_index_or numbers k (pos 0) ∷ [] ≡ before ++ take (k + 1) numbers
one_more_behind before numbers k inside =
    let more : k + 1 ≡ suc k = omega arith in
    nested before (take k numbers) (slice_index_or numbers k (pos 0) ∷ [])
    ∙ ap (λ l. before ++ l) (sym (take-suc numbers k (pos 0) inside) ∙ ap (λ n. take n numbers) (sym more))

pub one_more_put : (step : ℤ → ℤ → Result ℤ Fault) (before numbers room : List ℤ) (k : ℕ) (value : ℤ) → k < length room
    → fold_onto step (before ++ take k numbers) (slice_index_or numbers k (pos 0)) ≡ Ok value
    → AreFoldsBehind step before numbers k room → AreFoldsBehind step before numbers (k + 1) (slice_set room k value)
one_more_put step before numbers room k value here is are = λ j d inside.
    ⊎_elim
    (λ less. are j d less ∙ ap (λ (z : ℤ). Ok z) (sym (get_or-set_other room k j value d (λ same. omega (arith, same, less)))))
    (λ last.
    let same : j ≡ k = omega (arith, inside, last) in
    ap (λ n. fold_onto step (before ++ take n numbers) (slice_index_or numbers n (pos 0))) same ∙ is
    ∙ ap (λ (z : ℤ). Ok z) (sym (get_or-set_same room k value d here) ∙ ap (λ n. slice_index_or (slice_set room k value) n d) (sym same)))
    (cases_lt j k)

pub none_appended : (step : ℤ → ℤ → Result ℤ Fault) (numbers values : List ℤ) → HasFoldsAppended step numbers values values
none_appended step numbers values = record {
  folds = [];
  values = sym (append-nil values);
  are = λ k d inside. absurd (omega (arith, inside));
}

pub one_more_appended : (step : ℤ → ℤ → Result ℤ Fault) (numbers old values : List ℤ) (from offset : ℕ) (value : ℤ) → length values ≡ length old + offset
    → fold_onto step (take (from + offset) numbers) (slice_index_or numbers (from + offset) (pos 0)) ≡ Ok value
    → HasMoreAppended step numbers from old values → HasMoreAppended step numbers from old (values ++ value ∷ [])
one_more_appended step numbers old values from offset value len is more = λ before there had.
    let has = more before there had in
    let k = from + offset in
    let count : length has.folds ≡ k = omega (arith, len, there, ap length has.values ∙ length-append before has.folds) in
    record {
      folds = has.folds ++ value ∷ [];
      values = ap (λ l. l ++ value ∷ []) has.values ∙ nested before has.folds (value ∷ []);
      are = λ j d inside.
          ⊎_elim
          (λ less. has.are j d less ∙ ap (λ (z : ℤ). Ok z) (sym (get_or_append_left has.folds (value ∷ []) d j less)))
          (λ last.
          let same : j ≡ k = omega (arith, inside, last, count, length_push has.folds value) in
          ap (λ n. fold_onto step (take n numbers) (slice_index_or numbers n (pos 0))) same ∙ is
          ∙ ap (λ (z : ℤ). Ok z) (sym (get_or_push has.folds value d j (count ∙ sym same))))
          (cases_lt j (length has.folds));
    }

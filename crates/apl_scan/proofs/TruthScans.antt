-- The folds of truth values, appended one after the other.
use Rattle.std.proofs.Common.{◌≡◌, ℕ, suc, ℤ, pos, ◌+◌, ◌-◌, ◌*◌, ◌/◌, ◌<◌, ◌≤◌, Bool, false, List, [], ◌∷◌, ◌++◌, map, length, take, drop, Result, Ok, slice_index_or, refl, sym, ap, subst, ◌∙◌, ⊎_elim, arith, take-suc, length-take-le, length-drop}
use Rattle.std.proofs.lemmas.Bool.{cases_lt}
use Rattle.std.proofs.lemmas.List.{append-nil, append_assoc, length-append, length-map, length_push, take-map, drop-map, get_or_append_left, get_or_push}
use Rattle.std.proofs.Math.ListN.{get_or-map}
use Rattle.apl_array.specs.declared.function.ScalarFunction.{ScalarFunction}
use Rattle.apl_array.specs.Array.{bit}
use Rattle.apl_pool.specs.declared.kernel.Fault.{Fault}
use Rattle.apl_pool.specs.declared.kernel.TheConstants.{MOST_PLACES}
use Rattle.apl_pool.specs.Pool.{AreValues}
use Rattle.apl_pool.specs.Summaries.{fold_onto}
use Rattle.apl_scalar.specs.Scalar.{dyadic_numbers}
use Rattle.apl_summary.specs.Fronts.{HasMoreAppended}
use Rattle.apl_summary.specs.Running.{HasFoldsAppended}
use Rattle.apl_scan.specs.Lines.{scan_at}
use Rattle.apl_scan.proofs.ScannedPlaces.{line_appended, line_within}

-- ---- one truth value more

-- the first truth values as numbers, and the next one
pub one_more : (truths : List Bool) (k : ℕ) → k < length truths → take k (map bit truths) ++ bit (slice_index_or truths k false) ∷ [] ≡ take (k + 1) (map bit truths)
one_more truths k inside =
    let more : k + 1 ≡ suc k = omega arith in
    ap (λ x. take k (map bit truths) ++ x ∷ []) (sym (get_or-map bit truths k false))
    ∙ sym (take-suc (map bit truths) k (pos 0) (omega (arith, inside, length-map truths bit)))
    ∙ ap (λ n. take n (map bit truths)) (sym more)

-- are few
pub few : (truths : List Bool) (k : ℕ) → k < length truths → length truths ≤ MOST_PLACES → length (take k (map bit truths)) < MOST_PLACES
few truths k inside most =
    let all = length-map truths bit in
    omega (arith, inside, most, length-take-le k (map bit truths) (omega (arith, inside, all)))

-- those of a line
part_of_line : (truths : List Bool) (first items : ℕ) → map bit (take (first + items - first) (drop first truths)) ≡ take items (drop first (map bit truths))
part_of_line truths first items =
    let count : first + items - first ≡ items = omega arith in
    sym (take-map bit (first + items - first) (drop first truths)) ∙ ap (λ n. take n (map bit (drop first truths))) count ∙ ap (take items) (sym (drop-map bit first truths))

length_of_part : (truths : List Bool) (first items : ℕ) → first + items ≤ length truths → length (take (first + items - first) (drop first truths)) ≡ items
length_of_part truths first items inside = length-take-le (first + items - first) (drop first truths) (omega (arith, inside, length-drop first truths)) ∙ omega arith

-- after the folds of the lines before those of one more line
pub line_of_folds : (f : ScalarFunction) (truths : List Bool) (items line : ℕ) → 0 < items → line < length truths / items → (old new : List ℤ)
    → (let part = take (line * items + items - line * items) (drop (line * items) truths) in HasFoldsAppended (dyadic_numbers f) (map bit part) old new × (length new ≡ length old + length part))
    → AreValues (scan_at (dyadic_numbers f) (map bit truths) items 1) (line * items) old → AreValues (scan_at (dyadic_numbers f) (map bit truths) items 1) ((line + 1) * items) new
line_of_folds f truths items line some below old new put are =
    let first = line * items in
    let within = line_within (length truths) items line below in
    let long = length_of_part truths first items within in
    let next : first + items ≡ (line + 1) * items = omega arith in
    let part = part_of_line truths first items in
    subst (λ n. AreValues (scan_at (dyadic_numbers f) (map bit truths) items 1) n new) next
    (line_appended (dyadic_numbers f) (map bit truths) old new items line first some refl (omega (arith, within, length-map truths bit)) (rw part at put.0) (omega (arith, put.1, long, are.len)) are)

module _ (step : ℤ → ℤ → Result ℤ Fault) (truths : List Bool) where
  abbrev pub numbers : List ℤ
  numbers = map bit truths

  pub none_appended : (values : List ℤ) → HasFoldsAppended step numbers values values
  none_appended values = record {
    folds = [];
    values = sym (append-nil values);
    are = λ k d inside. absurd (omega (arith, inside));
  }

  pub one_more_appended : (old values : List ℤ) (from offset : ℕ) (value : ℤ) → from + offset < length truths → length values ≡ length old + offset
      → fold_onto step (take (from + offset) numbers) (bit (slice_index_or truths (from + offset) false)) ≡ Ok value
      → HasMoreAppended step numbers from old values → HasMoreAppended step numbers from old (values ++ value ∷ [])
  one_more_appended old values from offset value inside len is more = λ before there had.
      let has = more before there had in
      let k = from + offset in
      let count : length has.folds ≡ k = omega (arith, len, there, ap length has.values ∙ length-append before has.folds) in
      record {
        folds = has.folds ++ value ∷ [];
        values = ap (λ l. l ++ value ∷ []) has.values ∙ append_assoc before has.folds (value ∷ []);
        are = λ j d earlier.
            ⊎_elim
            (λ less. has.are j d less ∙ ap (λ (z : ℤ). Ok z) (sym (get_or_append_left has.folds (value ∷ []) d j less)))
            (λ last.
            let same : j ≡ k = omega (arith, earlier, last, count, length_push has.folds value) in
            ap (λ n. fold_onto step (take n numbers) (slice_index_or numbers n (pos 0))) same
            ∙ ap (fold_onto step (take k numbers)) (get_or-map bit truths k false) ∙ is
            ∙ ap (λ (z : ℤ). Ok z) (sym (get_or_push has.folds value d j (count ∙ sym same))))
            (cases_lt j (length has.folds));
      }

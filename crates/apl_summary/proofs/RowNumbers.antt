-- The numbers to which rows are folded, one after the other, and the fold that there isn't.
use Rattle.std.proofs.Common.{◌≡◌, ℕ, ℤ, pos, ◌<◌, ◌≤◌, List, [], ◌∷◌, ◌++◌, Result, Ok, Err, length, get_or, refl, sym, ◌∙◌, subst, ⊎_elim, arith}
use Rattle.std.specs.Prelude.{IsOk}
use Rattle.std.proofs.lemmas.List.{length_push, get_or_push, get_or_append_left}
use Rattle.std.proofs.lemmas.Bool.{cases_lt}
use Rattle.apl_pool.specs.declared.kernel.Fault.{Fault}
use Rattle.apl_pool.specs.declared.kernel.Stop.{Stop}
use Rattle.apl_pool.specs.declared.kernel.Stop.TheVariants.{Fault as FaultAt, Memory}
use Rattle.apl_pool.specs.Pool.{AreValues, IsLeastFault, IsStopOf}
use Rattle.apl_pool.specs.Summaries.{and_then, fold_onto, IsSummaryOf, IsRowSummary, IsEnd}
use Rattle.apl_summary.specs.RowFolds.{AreRowFolds, stop_at_row}

module _ (step : ℤ → ℤ → Result ℤ Fault) (item : ℕ → ℕ → Result ℤ Fault) (count : ℕ) (incoming : ℕ → Result ℤ Fault) where
  -- what the fold of a row is
  pub record IsFoldOf (row : ℕ) (fold : Result ℤ Fault) : Type 0 where
    pub items : List ℤ
    pub values : AreValues (item row) count items
    pub folds : fold ≡ and_then (incoming row) (fold_onto step items)

  -- the numbers of the rows from the first on
  abbrev pub AreNumbers : List ℤ → Type 0
  AreNumbers numbers = (row : ℕ) (d : ℤ) → row < length numbers → IsFoldOf row (Ok (get_or numbers row d))

  pub numbers_more : (numbers : List ℤ) (number : ℤ) (fold : Result ℤ Fault) → fold ≡ Ok number → AreNumbers numbers → IsFoldOf (length numbers) fold → AreNumbers (numbers ++ number ∷ [])
  numbers_more numbers number fold is before last row d below =
      ⊎_elim
      (λ (low : row < length numbers).
      let P : ℤ → Type 0 = λ z. IsFoldOf row (Ok z) in
      subst P (sym (get_or_append_left numbers (number ∷ []) d row low)) (before row d low))
      (λ (high : length numbers ≤ row).
      let here : length numbers ≡ row = omega (arith, below, high, length_push numbers number) in
      let P : ℤ → Type 0 = λ z. IsFoldOf row (Ok z) in
      let Q : ℕ → Type 0 = λ k. IsFoldOf k fold in
      let R : Result ℤ Fault → Type 0 = λ r. IsFoldOf row r in
      subst P (sym (get_or_push numbers number d row here)) (subst R is (subst Q here last)))
      (cases_lt row (length numbers))

  -- what the summary of a row says of it
  pub fold_of_row : {S : Type 0} (item_count : S → ℕ) (does : S → ℤ → Result ℤ Fault) (s : S) (row : ℕ) (fold : Result ℤ Fault)
      → ((items : List ℤ) → IsSummaryOf step item_count does s items → fold ≡ and_then (incoming row) (fold_onto step items)) → IsRowSummary step item_count does item count row s → IsFoldOf row fold
  fold_of_row item_count does s row fold folds is = record { items = is.items; values = is.values; folds = folds is.items is.summary }

  module _ (rows : ℕ) (outcome : ℕ → Result ℤ Fault) (are : AreRowFolds step item rows count incoming outcome) where
    outcome_is : (row : ℕ) (fold : Result ℤ Fault) → row < rows → IsFoldOf row fold → outcome row ≡ fold
    outcome_is row fold below is = (are row below).folded is.items is.values ∙ sym is.folds

    pub values_of_rows : (numbers : List ℤ) → length numbers ≡ rows → AreNumbers numbers → AreValues outcome rows numbers
    values_of_rows numbers all is = record { len = all; each = λ row d below. outcome_is row _ below (is row d (omega (arith, below, all))) }

    has_number : (numbers : List ℤ) (n : ℕ) → n ≤ rows → n ≤ length numbers → AreNumbers numbers → (row : ℕ) → row < n → IsOk (outcome row)
    has_number numbers n few long is row below =
        let P : Result ℤ Fault → Type 0 = λ r. IsOk r in
        subst P (sym (outcome_is row _ (omega (arith, below, few)) (is row (pos 0) (omega (arith, below, long))))) refl

    -- a fold that leaves the range, or what comes in to it has a fault
    pub fault_of_fold : (numbers : List ℤ) (row : ℕ) (fold : Result ℤ Fault) (fault : Fault) → row < rows → length numbers ≡ row → AreNumbers numbers → IsFoldOf row fold → fold ≡ Err fault
        → IsLeastFault outcome rows row fault
    fault_of_fold numbers row fold fault below long is last faulty = record {
      below = below;
      faulty = outcome_is row fold below last ∙ faulty;
      earlier = has_number numbers row (omega (arith, below)) (omega (arith, long)) is;
    }

    -- a fault at a place of the next row
    pub stop_of_row : {S : Type 0} (item_count : S → ℕ) (does : S → ℤ → Result ℤ Fault) (numbers : List ℤ) (row : ℕ) (stop : Stop) → length numbers ≡ row → AreNumbers numbers
        → IsEnd step item_count does item rows count row (Err stop) → IsStopOf outcome rows (stop_at_row row stop)
    stop_of_row item_count does numbers row (FaultAt place fault) long is end = record {
      below = end.0;
      faulty = (are row end.0).faulty place fault end.1;
      earlier = has_number numbers row (omega (arith, end.0)) (omega (arith, long)) is;
    }
    stop_of_row item_count does numbers row Memory long is end = tt

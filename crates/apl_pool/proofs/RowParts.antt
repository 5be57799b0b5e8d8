-- Rows that are cut alike: where their pieces stand in one list, and the summaries of rows.
use Rattle.std.proofs.Common.{◌≡◌, ℕ, ◌+◌, ◌-◌, ◌*◌, ◌/◌, ◌%◌, ◌<◌, ◌≤◌, List, [], ◌∷◌, ◌++◌, ℤ, Bool, Option, None, Result, Err, length, get_or, drop, sym, ap, ◌∙◌, subst, ⊎_elim, arith, slice_range}
use Rattle.std.proofs.Math.Nat.{mul-le-mul_right, add-mul, mul_comm}
use Rattle.std.proofs.lemmas.Nat.{div-mul-add, mod-mul-add}
use Rattle.std.proofs.lemmas.List.{get_or-take, get_or-drop, get_or_push, get_or_append_left}
use Rattle.std.proofs.lemmas.Bool.{cases_lt}
use Rattle.apl_pool.specs.declared.kernel.Fault.{Fault}
use Rattle.apl_pool.specs.declared.kernel.Stop.{Stop}
use Rattle.apl_pool.specs.declared.kernel.Stop.TheVariants.{Fault as FaultAt, Memory}
use Rattle.apl_pool.specs.Parts.{IsStopFrom}
use Rattle.apl_pool.specs.Crew.{AreMarks}
use Rattle.apl_pool.specs.Summaries.{IsRowSummary, IsEnd}
use Rattle.apl_pool.specs.Folds.{IsFoldFrom, IsFolded, IsFoldedFirst, ArePartsOf}
use Rattle.apl_pool.proofs.Values.{AreValues-from_zero, IsStopOf-from_zero}

-- where the parts of one piece end those of the next one begin
pub part_within : (n row rows count : ℕ) → row < rows → n < count → n * rows + row < rows * count
part_within n row rows count below inside =
    let more : (n + 1) * rows ≤ count * rows = mul-le-mul_right rows (omega arith) in
    omega (arith, more, add-mul n 1 rows, mul_comm count rows)

-- parts of other pieces, and of other rows, stand elsewhere
pub piece_apart : (n m row rows : ℕ) → row < rows → n < m → m * rows + row ≡ n * rows + row → ⊥
piece_apart n m row rows below less same =
    let more : (n + 1) * rows ≤ m * rows = mul-le-mul_right rows (omega arith) in
    absurd (omega (arith, more, add-mul n 1 rows, same))

pub row_apart : (n m row other rows : ℕ) → row < rows → other < rows → row < other → m * rows + other ≡ n * rows + row → ⊥
row_apart n m row other rows below high less same =
    absurd (omega (arith, sym (mod-mul-add m rows other high) ∙ ap (λ k. k % rows) same ∙ mod-mul-add n rows row below))

module _ {S X : Type 0} (step : X → ℤ → Result ℤ Fault) (item_count : S → ℕ) (does : S → ℤ → Result ℤ Fault) (outcome : ℕ → ℕ → Result X Fault) where
  pub row_of_fold : (count row : ℕ) (s : S) → IsFoldFrom step item_count does (outcome row) 0 count s → IsRowSummary step item_count does outcome count row s
  row_of_fold count row s p = record { items = p.items; values = AreValues-from_zero (outcome row) count p.items p.values; summary = p.summary }

  -- one more row
  pub rows_more : (count row n : ℕ) (summaries : List S) (s : S) → length summaries ≡ row → ((r : ℕ) (d : S) → r < row → IsRowSummary step item_count does outcome count r (get_or summaries r d))
      → IsFoldFrom step item_count does (outcome row) 0 count s → n ≡ row + 1 → (r : ℕ) (d : S) → r < n → IsRowSummary step item_count does outcome count r (get_or (summaries ++ s ∷ []) r d)
  rows_more count row n summaries s long before fold next r d below =
      ⊎_elim
      (λ (low : r < row).
      let P : S → Type 0 = λ x. IsRowSummary step item_count does outcome count r x in
      subst P (sym (get_or_append_left summaries (s ∷ []) d r (omega arith))) (before r d low))
      (λ (high : row ≤ r).
      let here : row ≡ r = omega arith in
      let P : S → Type 0 = λ x. IsRowSummary step item_count does outcome count r x in
      let Q : ℕ → Type 0 = λ k. IsRowSummary step item_count does outcome count k s in
      subst P (sym (get_or_push summaries s d r (omega arith))) (subst Q here (row_of_fold count row s fold)))
      (cases_lt r row)

  -- the next row has a fault
  pub end_at : (rows count row : ℕ) (stop : Stop) → row < rows → IsStopFrom (outcome row) 0 count stop → IsEnd step item_count does outcome rows count row (Err stop)
  end_at rows count row (FaultAt place fault) below first = (below, IsStopOf-from_zero (outcome row) count (FaultAt place fault) first)
  end_at rows count row Memory below first = tt

  -- the parts of the rows, from the marks of the rooms of all pieces
  pub parts_of_marks : (rows count : ℕ) (start : ℕ → ℕ) (marks : List Bool) (parts : List (Option S))
      → AreMarks (λ n values. IsFoldedFirst step item_count does (outcome (n % rows)) (start (n / rows)) (start (n / rows + 1)) values) (λ n. n) (rows * count) parts marks
      → ArePartsOf step item_count does outcome rows count start marks parts
  parts_of_marks rows count start marks parts are row n low inside mark =
      let k = n * rows + row in
      let below : k < rows * count = part_within n row rows count low inside in
      let first : get_or (slice_range parts k (k + 1)) 0 None ≡ get_or parts k None =
      get_or-take (k + 1 - k) (drop k parts) 0 None (omega arith) ∙ get_or-drop k parts 0 None ∙ (let same : k + 0 ≡ k = omega arith in ap (λ i. get_or parts i None) same) in
      let F : ℕ → ℕ → Option S → Type 0 = λ r j part. IsFolded step item_count does (outcome r) (start j) (start (j + 1)) part in
      subst (λ r. F r n (get_or parts k None)) (mod-mul-add n rows row low)
      (subst (λ j. F (k % rows) j (get_or parts k None)) (div-mul-add n rows row low) (subst (F (k % rows) (k / rows)) first (are.1 k below mark)))

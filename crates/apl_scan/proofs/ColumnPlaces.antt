-- The folds along columns are those along the lines of an axis.
use Rattle.std.proofs.Common.{◌≡◌, ℕ, zero, suc, ℤ, pos, ◌+◌, ◌-◌, ◌*◌, ◌/◌, ◌%◌, ◌<◌, ◌≤◌, List, length, Result, Ok, slice_index_or, ap, ◌∙◌, arith, mul-le-mul_right}
use Rattle.std.proofs.Math.Nat.{div-add-mod'}
use Rattle.apl_pool.specs.declared.kernel.Fault.{Fault}
use Rattle.apl_pool.specs.Pool.{AreValues}
use Rattle.apl_pool.specs.Summaries.{and_then, fold_onto}
use Rattle.apl_summary.specs.Columns.{column, column_before, AreColumnFolds}
use Rattle.apl_scan.specs.Lines.{folded, number_along, scan_at}

folded_column : (step : ℤ → ℤ → Result ℤ Fault) (numbers : List ℤ) (first inner j more : ℕ)
    → folded step (number_along numbers first inner) j more ≡ fold_onto step (column numbers (first + j * inner) inner more) (slice_index_or numbers (first + (j + more) * inner) (pos 0))
folded_column step numbers first inner j zero =
    let here : j ≡ j + 0 = omega arith in
    ap (λ k. Ok (slice_index_or numbers (first + k * inner) (pos 0))) here
folded_column step numbers first inner j (suc more) =
    let x = slice_index_or numbers (first + j * inner) (pos 0) in
    let next : first + suc j * inner ≡ first + j * inner + inner = omega arith in
    let last : suc j + more ≡ j + suc more = omega arith in
    ap (λ t. and_then t (step x)) (folded_column step numbers first inner (suc j) more)
    ∙ ap (λ f. and_then (fold_onto step (column numbers f inner more) (slice_index_or numbers (first + (suc j + more) * inner) (pos 0))) (step x)) next
    ∙ ap (λ k. and_then (fold_onto step (column numbers (first + j * inner + inner) inner more) (slice_index_or numbers (first + k * inner) (pos 0))) (step x)) last

scan_of_column : (step : ℤ → ℤ → Result ℤ Fault) (numbers : List ℤ) (items inner place : ℕ)
    → scan_at step numbers items inner place ≡ fold_onto step (column_before numbers items inner place) (slice_index_or numbers place (pos 0))
scan_of_column step numbers items inner place =
    let rows = place / inner % items in
    let first = place - rows * inner in
    let row = div-add-mod' place inner in
    let block = div-add-mod' (place / inner) items in
    let within : rows * inner ≤ place / inner * inner = mul-le-mul_right inner (omega (arith, block)) in
    let none : first + 0 * inner ≡ first = omega arith in
    let here : first + (0 + rows) * inner ≡ place = omega (arith, within, row) in
    folded_column step numbers first inner 0 rows
    ∙ ap (λ f. fold_onto step (column numbers f inner rows) (slice_index_or numbers (first + (0 + rows) * inner) (pos 0))) none
    ∙ ap (λ p. fold_onto step (column numbers first inner rows) (slice_index_or numbers p (pos 0))) here

module _ (step : ℤ → ℤ → Result ℤ Fault) (numbers values : List ℤ) (items inner count : ℕ) (are : AreColumnFolds step numbers items inner count values) where
  pub scanned_before : (place : ℕ) (d : ℤ) → place < count → scan_at step numbers items inner place ≡ Ok (slice_index_or values place d)
  scanned_before place d inside = scan_of_column step numbers items inner place ∙ are place d inside

  pub scanned_columns : length values ≡ length numbers → count ≡ length numbers → AreValues (scan_at step numbers items inner) (length numbers) values
  scanned_columns same all = record { len = same; each = λ place d inside. scanned_before place d (omega (arith, inside, all)) }

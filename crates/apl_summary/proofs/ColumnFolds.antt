-- Folds along columns, row by row.
use Rattle.std.proofs.Common.{◌≡◌, ℕ, zero, suc, ℤ, pos, ◌+◌, ◌-◌, ◌*◌, ◌/◌, ◌%◌, ◌<◌, ◌≤◌, List, [], ◌∷◌, ◌++◌, length, Result, Ok, slice_index_or, slice_set, sym, ap, subst, ◌∙◌, ⊎_elim, arith, mul-le-mul_right, get_or-set_same, get_or-set_other, length-set}
use Rattle.std.proofs.lemmas.Bool.{cases_lt}
use Rattle.std.proofs.lemmas.List.{get_or_append_left, get_or_push}
use Rattle.std.proofs.Math.Nat.{mod-lt, div-add-mod', div-eq_of_lt-le}
use Rattle.apl_pool.specs.declared.kernel.Fault.{Fault}
use Rattle.apl_pool.specs.Summaries.{fold_onto}
use Rattle.apl_summary.specs.Columns.{column, column_before, ArePlaceFolds, AreFrontsAt, AreFrontsInRow}

-- ---- a row

pub one_more_fold : (step : ℤ → ℤ → Result ℤ Fault) (before : ℕ → List ℤ) (numbers values : List ℤ) (k : ℕ) (value : ℤ) → length values ≡ k
    → fold_onto step (before k) (slice_index_or numbers k (pos 0)) ≡ Ok value
    → ArePlaceFolds step before numbers k values → ArePlaceFolds step before numbers (k + 1) (values ++ value ∷ [])
one_more_fold step before numbers values k value len is are = λ j d inside.
    ⊎_elim
    (λ less. are j d less ∙ ap (λ (z : ℤ). Ok z) (sym (get_or_append_left values (value ∷ []) d j (omega (arith, less, len)))))
    (λ last.
    let same : j ≡ k = omega (arith, inside, last) in
    ap (λ n. fold_onto step (before n) (slice_index_or numbers n (pos 0))) same ∙ is
    ∙ ap (λ (z : ℤ). Ok z) (sym (get_or_push values value d j (len ∙ sym same))))
    (cases_lt j k)

pub one_more_front : {S : Type 0} (is_of : S → List ℤ → Type 0) (before : ℕ → List ℤ) (numbers : List ℤ) (start done : ℕ) (fronts : List S) (next : S) → done < length fronts
    → is_of next (before (start + done) ++ slice_index_or numbers (start + done) (pos 0) ∷ [])
    → AreFrontsInRow is_of before numbers start done fronts → AreFrontsInRow is_of before numbers start (done + 1) (slice_set fronts done next)
one_more_front is_of before numbers start done fronts next here is are = record {
  past = λ c d earlier.
      ⊎_elim
      (λ less.
      subst (λ s. is_of s (before (start + c) ++ slice_index_or numbers (start + c) (pos 0) ∷ [])) (sym (get_or-set_other fronts done c next d (λ same. omega (arith, same, less))))
      (are.past c d less))
      (λ last.
      let same : c ≡ done = omega (arith, earlier, last) in
      subst (λ n. is_of (slice_index_or (slice_set fronts done next) n d) (before (start + n) ++ slice_index_or numbers (start + n) (pos 0) ∷ [])) (sym same)
      (subst (λ s. is_of s (before (start + done) ++ slice_index_or numbers (start + done) (pos 0) ∷ [])) (sym (get_or-set_same fronts done next d here)) is))
      (cases_lt c done);
  ahead = λ c d later inside.
      subst (λ s. is_of s (before (start + c))) (sym (get_or-set_other fronts done c next d (λ same. omega (arith, same, later))))
      (are.ahead c d (omega (arith, later)) (omega (arith, inside, length-set fronts done next)));
}

-- the front at the next column
pub front_there : {S : Type 0} (is_of : S → List ℤ → Type 0) (before : ℕ → List ℤ) (numbers : List ℤ) (start done place : ℕ) (fronts : List S) (front : S)
    → front ≡ slice_index_or fronts done front → done < length fronts → start + done ≡ place → AreFrontsInRow is_of before numbers start done fronts → is_of front (before place)
front_there is_of before numbers start done place fronts front is here there are =
    subst (λ p. is_of front (before p)) there
    (subst (λ s. is_of s (before (start + done))) (sym is) (are.ahead done front (omega arith) here))

-- ---- rows one after the other

column_and_next : (numbers : List ℤ) (first inner n : ℕ) → column numbers first inner n ++ slice_index_or numbers (first + n * inner) (pos 0) ∷ [] ≡ column numbers first inner (suc n)
column_and_next numbers first inner zero =
    let here : first + 0 * inner ≡ first = omega arith in
    ap (λ p. slice_index_or numbers p (pos 0) ∷ []) here
column_and_next numbers first inner (suc n) =
    let here : first + suc n * inner ≡ first + inner + n * inner = omega arith in
    ap (λ p. slice_index_or numbers first (pos 0) ∷ (column numbers (first + inner) inner n ++ slice_index_or numbers p (pos 0) ∷ [])) here
    ∙ ap (λ l. slice_index_or numbers first (pos 0) ∷ l) (column_and_next numbers (first + inner) inner n)

pub row_of : (inner row c : ℕ) → c < inner → (row * inner + c) / inner ≡ row
row_of inner row c inside = div-eq_of_lt-le inner (omega arith) (omega (arith, inside))

first_of_column : (numbers : List ℤ) (items inner row c : ℕ) → c < inner → row % items ≡ 0 → column_before numbers items inner (row * inner + c) ≡ []
first_of_column numbers items inner row c inside first =
    ap (λ q. column numbers (row * inner + c - q % items * inner) inner (q % items)) (row_of inner row c inside)
    ∙ ap (λ r. column numbers (row * inner + c - r * inner) inner r) first

pub next_in_block : (items row : ℕ) → 0 < items → ((row + 1) % items ≡ 0 → ⊥) → (row + 1) % items ≡ row % items + 1
next_in_block items row some inside =
    let parts = div-add-mod' row items in
    let all = div-add-mod' (row + 1) items in
    let below : row % items < items = mod-lt row some in
    ⊎_elim
    (λ less.
    let block : (row + 1) / items ≡ row / items = div-eq_of_lt-le items (omega (arith, parts)) (omega (arith, parts, less)) in
    omega (arith, all, ap (λ n. n * items) block, parts))
    (λ last.
    let block : (row + 1) / items ≡ row / items + 1 = div-eq_of_lt-le items (omega (arith, parts, last, below)) (omega (arith, parts, last, below)) in
    absurd (inside (omega (arith, all, ap (λ n. n * items) block, parts, last, below))))
    (cases_lt (row % items + 1) items)

pub next_of_column : (numbers : List ℤ) (items inner row c : ℕ) → c < inner → 0 < items → ((row + 1) % items ≡ 0 → ⊥)
    → column_before numbers items inner (row * inner + c) ++ slice_index_or numbers (row * inner + c) (pos 0) ∷ [] ≡ column_before numbers items inner ((row + 1) * inner + c)
next_of_column numbers items inner row c inside some later =
    let done = row % items in
    let first = row * inner + c - done * inner in
    let parts = div-add-mod' row items in
    let within : done * inner ≤ row * inner = mul-le-mul_right inner (omega (arith, parts)) in
    let same : (row + 1) * inner + c - (done + 1) * inner ≡ first = omega (arith, within) in
    let here : first + done * inner ≡ row * inner + c = omega (arith, within) in
    let more : done + 1 ≡ suc done = omega arith in
    ap (λ q. column numbers (row * inner + c - q % items * inner) inner (q % items) ++ slice_index_or numbers (row * inner + c) (pos 0) ∷ []) (row_of inner row c inside)
    ∙ ap (λ p. column numbers first inner done ++ slice_index_or numbers p (pos 0) ∷ []) (sym here)
    ∙ column_and_next numbers first inner done
    ∙ ap (column numbers first inner) (sym more)
    ∙ ap (λ f. column numbers f inner (done + 1)) (sym same)
    ∙ ap (λ r. column numbers ((row + 1) * inner + c - r * inner) inner r) (sym (next_in_block items row some later))
    ∙ ap (λ q. column numbers ((row + 1) * inner + c - q % items * inner) inner (q % items)) (sym (row_of inner (row + 1) c inside))

module _ {S : Type 0} (is_of : S → List ℤ → Type 0) (numbers : List ℤ) (items inner row : ℕ) where
  -- the fronts at the beginning of a row, of which the first of a block are of no number
  pub begun : (old new : List S) (front : S) → is_of front [] → length old ≡ inner → length new ≡ length old
      → (row % items ≡ 0 → (c : ℕ) (d : S) → c < length old → slice_index_or new c d ≡ front) → ((row % items ≡ 0 → ⊥) → new ≡ old)
      → ((row % items ≡ 0 → ⊥) → AreFrontsAt is_of (column_before numbers items inner) (row * inner) old)
      → AreFrontsAt is_of (column_before numbers items inner) (row * inner) new
  begun old new front none wide len first later kept =
      ⊎_elim
      (λ more.
      let inside : row % items ≡ 0 → ⊥ = λ is. omega (arith, more, is) in
      subst (AreFrontsAt is_of (column_before numbers items inner) (row * inner)) (sym (later inside)) (kept inside))
      (λ least.
      let is : row % items ≡ 0 = omega (arith, least) in
      λ c d inside.
      let here : c < length old = omega (arith, inside, len) in
      subst (λ s. is_of s (column_before numbers items inner (row * inner + c))) (sym (first is c d here))
      (subst (is_of front) (sym (first_of_column numbers items inner row c (omega (arith, here, wide)) is)) none))
      (cases_lt 0 (row % items))

  -- the fronts after a row are those of the next
  pub gone_on : (fronts : List S) → length fronts ≡ inner → 0 < items → ((row + 1) % items ≡ 0 → ⊥)
      → AreFrontsInRow is_of (column_before numbers items inner) numbers (row * inner) inner fronts → AreFrontsAt is_of (column_before numbers items inner) ((row + 1) * inner) fronts
  gone_on fronts wide some later are = λ c d inside.
      let here : c < inner = omega (arith, inside, wide) in
      subst (is_of (slice_index_or fronts c d)) (next_of_column numbers items inner row c here some later) (are.past c d here)

-- Right folds of rows, one row more on the left.
use Rattle.std.proofs.Common.{◌≡◌, ℕ, suc, ℤ, pos, ◌+◌, ◌-◌, ◌*◌, ◌/◌, ◌%◌, ◌<◌, ◌≤◌, List, length, map, drop, Ok, slice_index_or, sym, ap, ◌∙◌, arith}
use Rattle.std.proofs.Math.Nat.{zero-add}
use Rattle.std.proofs.lemmas.List.{get_or-drop, drop-map}
use Rattle.apl_array.specs.declared.array.Elem.{Elem}
use Rattle.apl_array.specs.declared.array.Elem.TheVariants.{Int}
use Rattle.apl_array.specs.declared.function.ScalarFunction.{ScalarFunction}
use Rattle.apl_pool.specs.Runs.{AreWritten}
use Rattle.apl_scalar.specs.Scalar.{dyadic_of}
use Rattle.apl_reduce.specs.Folded.{folded, folded_onto, element_along, AreFolds, fold_at}
use Rattle.apl_reduce.specs.Items.{item_in}
use Rattle.apl_reduce.specs.RowFolds.{AreFoldedOnto}
use Rattle.apl_reduce.proofs.Folds.{folded_by_runs, same_items}
use Rattle.apl_reduce.proofs.OuterRows.{same_row}

module _ {T : Type 0} (of : T → Elem) (f : ScalarFunction) (xs : List T) (first stride : ℕ) where
  -- item j of the row that begins at a place
  pub item_of_row : (row : List T) (r j start : ℕ) → row ≡ drop start xs → start ≡ first + r * stride → item_in (map of row) j ≡ element_along (map of xs) (first + j) stride r
  item_of_row row r j start this is =
      ap (λ l. item_in (map of l) j) this
      ∙ ap (λ l. item_in l j) (sym (drop-map of start xs))
      ∙ get_or-drop start (map of xs) j (Int (pos 0))
      ∙ ap (item_in (map of xs)) (omega (arith, is))

  pub last_folds : (left right : List T) (r start below : ℕ) (totals : List ℤ) → left ≡ drop start xs → right ≡ drop below xs → start ≡ first + r * stride → below ≡ start + stride
      → AreWritten (λ j. dyadic_of f (item_in (map of left) j) (item_in (map of right) j)) 0 (length totals) totals
      → AreFolds f (map of xs) first stride r 0 totals
  last_folds left right r start below totals this next is under written j d inside =
      let far : below ≡ first + suc r * stride = omega (arith, is, under) in
      ap (λ x. dyadic_of f x (element_along (map of xs) (first + j) stride (suc r))) (sym (item_of_row left r j start this is))
      ∙ ap (dyadic_of f (item_in (map of left) j)) (sym (item_of_row right (suc r) j below next far))
      ∙ ap (λ k. dyadic_of f (item_in (map of left) k) (item_in (map of right) k)) (sym (zero-add j))
      ∙ written.each j d (omega (arith, inside))

  pub more_folds : (r next n more done start : ℕ) (old new : List ℤ) → next ≡ r + n → done ≡ n + more → start ≡ first + r * stride → length new ≡ length old
      → AreFolds f (map of xs) first stride next more old
      → AreFoldedOnto f (map of xs) start stride n old new
      → AreFolds f (map of xs) first stride r done new
  more_folds r next n more done start old new after count is len before written j d inside =
      let there : j < length old = omega (arith, len, inside) in
      let item = element_along (map of xs) (first + j) stride in
      let total = slice_index_or old j (pos 0) in
      let place : (i : ℕ) → first + j + (r + i) * stride ≡ start + j + (0 + i) * stride = λ i. omega (arith, is) in
      ap (folded f item r) count ∙ folded_by_runs f item r n more
      ∙ ap (λ k. folded_onto f item r n (folded f item k more)) (sym after)
      ∙ ap (folded_onto f item r n) (before j (pos 0) there)
      ∙ same_items f item (element_along (map of xs) (start + j) stride) r 0 n (Ok total) (λ i. ap (item_in (map of xs)) (place i))
      ∙ ap (λ k. folded_onto f (element_along (map of xs) (start + k) stride) 0 n (Ok (slice_index_or old k (pos 0)))) (sym (zero-add j))
      ∙ written.each j d (omega (arith, there))

  -- all folded, these are the folds at the places of a row
  pub written_folds : (from items inner block : ℕ) (totals : List ℤ) → 2 ≤ items → stride ≡ inner → first ≡ from / inner * block + from % inner
      → from % inner + length totals ≤ inner → AreFolds f (map of xs) first stride 0 (items - 2) totals
      → AreWritten (fold_at f (map of xs) items block inner) from (from + length totals) totals
  written_folds from items inner block totals two stride_is first_is inside all = record {
    room = omega arith;
    each = λ j d h.
        let here : j < length totals = omega (arith, h) in
        let same = same_row inner from j (omega (arith, inside, here)) in
        let begins : (from + j) / inner * block + (from + j) % inner ≡ first + j = ap (λ q. q * block + (from + j) % inner) same.0 ∙ ap (λ r. from / inner * block + r) same.1 ∙ omega (arith, first_is) in
        ap (λ a. folded f (element_along (map of xs) a inner) 0 (items - 2)) begins
        ∙ ap (λ n. folded f (element_along (map of xs) (first + j) n) 0 (items - 2)) (sym stride_is)
        ∙ all j d here;
  }

-- the last row has an element for each place of the run
pub last_row_within : (len count from inner block items n : ℕ) → 2 ≤ items → 0 < n → from + n ≤ count → from % inner + n ≤ inner
    → ((place : ℕ) → place < count → place / inner * block + place % inner + (items - 1) * inner < len)
    → from / inner * block + from % inner + (items - 2) * inner + inner + n ≤ len
last_row_within len count from inner block items n two some inside row within =
    let same = same_row inner from (n - 1) (omega arith) in
    let last = within (from + (n - 1)) (omega arith) in
    let begins : (from + (n - 1)) / inner * block + (from + (n - 1)) % inner ≡ from / inner * block + (from % inner + (n - 1)) = ap (λ q. q * block + (from + (n - 1)) % inner) same.0 ∙ ap (λ r. from / inner * block + r) same.1 in
    let rows : (items - 1) * inner ≡ (items - 2 + 1) * inner = ap (λ m. m * inner) (omega arith) in
    omega (arith, last, begins, rows)

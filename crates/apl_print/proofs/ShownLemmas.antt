-- The text of an array: the printer's layout is the one that the definition allows.
use Rattle.std.proofs.Common.{pos, negsuc, ◌≡◌, ℕ, zero, suc, ◌+◌, ◌-◌, ◌<◌, ◌≤◌, List, [], ◌∷◌, ◌++◌, length, take, drop, get_or, map, max, replicate, None, refl, sym, ap, ◌∙◌, subst, ⊎_elim, arith, length-append}
use Rattle.std.specs.Prelude.{encode_utf8_all}
use Rattle.std.specs.List.{All, fold}
use Rattle.std.proofs.lemmas.Bool.{cases_lt}
use Rattle.std.proofs.lemmas.List.{length-replicate, get_or_past}
use Rattle.std.proofs.lemmas.List.Elements.{All-head, All-tail, All-nil, All-cons, All-take, All-drop, All-weaker, All-map}
use Rattle.std.proofs.lemmas.Int.{ints}
use Rattle.std.proofs.lemmas.Fmt.{length-decimal-le}
use Rattle.apl_array.specs.declared.array.Elem.{Elem}
use Rattle.apl_array.specs.declared.array.Elem.TheVariants.{Int, Chr}
use Rattle.apl_array.specs.Array.{ArrayValue}
use Rattle.apl_array.specs.Range.{IsElementInRange, HasNumbersInRange}
use Rattle.apl_print.specs.Text.{line_feed, blank, blanks, indent}
use Rattle.apl_print.specs.Shown.{field_of, gap_of, row_count, row_length, rows_of, column_width, padded, aligned, empty_lines, AreRows, IsText, IsShown}
use Rattle.apl_print.specs.Layout.{rest_of_row, rest_of_rows}
use Rattle.apl_print.specs.Width.{least_width}
use Rattle.apl_print.proofs.RowLemmas.{row_is_laid, IsRow-laid}

-- the layout of a table of so many rows and columns
abbrev pub laid_rows : ℕ → ℕ → List ℕ → ℕ → ℕ → List (List ℕ) → List ℕ
laid_rows width gap shape rows columns fields =
    let table = rows_of rows columns fields in
    rest_of_rows width gap shape 0 (map (aligned (column_width table) 0) table)

abbrev pub laid_table : ℕ → ℕ → List ℕ → List (List ℕ) → List ℕ
laid_table width gap shape fields = laid_rows width gap shape (row_count shape) (row_length shape) fields

-- the layout of an array
abbrev pub laid_text : ℕ → ℕ → List ℕ → List (List ℕ) → List ℕ
laid_text width gap [] fields = rest_of_row width gap None fields
laid_text width gap (n ∷ []) fields = rest_of_row width gap None fields
laid_text width gap (n ∷ m ∷ shape) [] = []
laid_text width gap (n ∷ m ∷ shape) (field ∷ fields) = laid_table width gap (n ∷ m ∷ shape) (field ∷ fields)

module _ (width gap : ℕ) where
  rows_are_laid : (shape : List ℕ) (rows : List (List (List ℕ))) (r : ℕ) (text : List ℕ) → AreRows width gap shape r rows text → text ≡ rest_of_rows width gap shape r rows
  rows_are_laid shape [] r text are = are
  rows_are_laid shape (row ∷ rows) r text are =
      are.4 ∙ ap (λ first. replicate (empty_lines shape r) line_feed ++ (first ++ are.1)) (row_is_laid width gap row are.0 are.2)
      ∙ ap (λ rest. replicate (empty_lines shape r) line_feed ++ (rest_of_row width gap None row ++ rest)) (rows_are_laid shape rows (r + 1) are.1 are.3)

  pub text_is_laid : (shape : List ℕ) (fields : List (List ℕ)) (text : List ℕ) → IsText width gap shape fields text → text ≡ laid_text width gap shape fields
  text_is_laid [] fields text is = row_is_laid width gap fields text is
  text_is_laid (n ∷ []) fields text is = row_is_laid width gap fields text is
  text_is_laid (n ∷ m ∷ shape) [] text is = is
  text_is_laid (n ∷ m ∷ shape) (field ∷ fields) text is = rows_are_laid (n ∷ m ∷ shape) _ 0 text is

  AreRows-laid : (shape : List ℕ) (rows : List (List (List ℕ))) (r : ℕ) → All (All (λ f. indent + length f ≤ width)) rows → AreRows width gap shape r rows (rest_of_rows width gap shape r rows)
  AreRows-laid shape [] r short = refl
  AreRows-laid shape (row ∷ rows) r short = (
    rest_of_row width gap None row,
    rest_of_rows width gap shape (r + 1) rows,
    IsRow-laid width gap row (All-head (All (λ f. indent + length f ≤ width)) row rows short),
    AreRows-laid shape rows (r + 1) (All-tail (All (λ f. indent + length f ≤ width)) row rows short),
    refl,
  )

-- a text is the only one
pub shown_once : (a : ArrayValue) (width : ℕ) (s t : List ℕ) → IsShown a width s → IsShown a width t → s ≡ t
shown_once a width s t first second =
    text_is_laid width (gap_of a.kind) a.shape (map field_of a.ravel) s first
    ∙ sym (text_is_laid width (gap_of a.kind) a.shape (map field_of a.ravel) t second)

-- columns are no wider than the widest field
fold-max-le : (xs : List ℕ) (a n : ℕ) → a ≤ n → All (λ x. x ≤ n) xs → fold max a xs ≤ n
fold-max-le [] a n start all = start
fold-max-le (x ∷ xs) a n start all =
    let first : x ≤ n = All-head (λ x. x ≤ n) x xs all in
    fold-max-le xs (max a x) n (omega arith) (All-tail (λ x. x ≤ n) x xs all)

field_le : (row : List (List ℕ)) (k n : ℕ) → All (λ f. length f ≤ n) row → length (get_or row k []) ≤ n
field_le row k n short = ⊎_elim
    (λ within. short k [] within)
    (λ past. rw (get_or_past row k [] past) (omega arith))
    (cases_lt k (length row))

widths_le : (rows : List (List (List ℕ))) (k n : ℕ) → All (All (λ f. length f ≤ n)) rows → All (λ x. x ≤ n) (map (λ row. length (get_or row k [])) rows)
widths_le [] k n short = All-nil (λ x. x ≤ n)
widths_le (row ∷ rows) k n short =
    All-cons (λ x. x ≤ n) (length (get_or row k [])) (map (λ row. length (get_or row k [])) rows) (field_le row k n (All-head (All (λ f. length f ≤ n)) row rows short))
    (widths_le rows k n (All-tail (All (λ f. length f ≤ n)) row rows short))

pub column_width_le : (rows : List (List (List ℕ))) (k n : ℕ) → All (All (λ f. length f ≤ n)) rows → column_width rows k ≤ n
column_width_le rows k n short = fold-max-le _ 0 n (omega arith) (widths_le rows k n short)

rows_of-short : (rows columns n : ℕ) (fields : List (List ℕ)) → All (λ f. length f ≤ n) fields → All (All (λ f. length f ≤ n)) (rows_of rows columns fields)
rows_of-short zero columns n fields short = All-nil (All (λ f. length f ≤ n))
rows_of-short (suc rows) columns n fields short =
    All-cons (All (λ f. length f ≤ n)) (take columns fields) (rows_of rows columns (drop columns fields)) (All-take (λ f. length f ≤ n) columns fields short)
    (rows_of-short rows columns n (drop columns fields) (All-drop (λ f. length f ≤ n) columns fields short))

pub length-padded : (width : ℕ) (field : List ℕ) → length (padded width field) ≡ (width - length field) + length field
length-padded width field = length-append (blanks (width - length field)) field ∙ ap (λ n. n + length field) (length-replicate (width - length field) blank)

aligned-short : (widths : ℕ → ℕ) (n k : ℕ) (row : List (List ℕ)) → ((k : ℕ) → widths k ≤ n) → All (λ f. length f ≤ n) row → All (λ f. length f ≤ n) (aligned widths k row)
aligned-short widths n k [] narrow short = All-nil (λ f. length f ≤ n)
aligned-short widths n k (f ∷ row) narrow short =
    let first : length f ≤ n = All-head (λ f. length f ≤ n) f row short in
    let column : widths k ≤ n = narrow k in
    All-cons (λ f. length f ≤ n) (padded (widths k) f) (aligned widths (k + 1) row) (omega (arith, length-padded (widths k) f))
    (aligned-short widths n (k + 1) row narrow (All-tail (λ f. length f ≤ n) f row short))

all_aligned-short : (widths : ℕ → ℕ) (n : ℕ) (rows : List (List (List ℕ))) → ((k : ℕ) → widths k ≤ n) → All (All (λ f. length f ≤ n)) rows → All (All (λ f. length f ≤ n)) (map (aligned widths 0) rows)
all_aligned-short widths n [] narrow short = All-nil (All (λ f. length f ≤ n))
all_aligned-short widths n (row ∷ rows) narrow short =
    All-cons (All (λ f. length f ≤ n)) (aligned widths 0 row) (map (aligned widths 0) rows) (aligned-short widths n 0 row narrow (All-head (All (λ f. length f ≤ n)) row rows short))
    (all_aligned-short widths n rows narrow (All-tail (All (λ f. length f ≤ n)) row rows short))

-- the layout is a text of the array, where each field fits on a continuation line
pub IsText-laid : (width gap : ℕ) (shape : List ℕ) (fields : List (List ℕ)) (n : ℕ) → indent + n ≤ width → All (λ f. length f ≤ n) fields → IsText width gap shape fields (laid_text width gap shape fields)
IsText-laid width gap [] fields n fits short =
    IsRow-laid width gap fields (All-weaker (λ f. length f ≤ n) (λ f. indent + length f ≤ width) (λ f h. omega arith) fields short)
IsText-laid width gap (m ∷ []) fields n fits short =
    IsRow-laid width gap fields (All-weaker (λ f. length f ≤ n) (λ f. indent + length f ≤ width) (λ f h. omega arith) fields short)
IsText-laid width gap (m ∷ l ∷ shape) [] n fits short = refl
IsText-laid width gap (m ∷ l ∷ shape) (field ∷ fields) n fits short =
    let rows = rows_of (row_count (m ∷ l ∷ shape)) (row_length (m ∷ l ∷ shape)) (field ∷ fields) in
    let all_short = rows_of-short (row_count (m ∷ l ∷ shape)) (row_length (m ∷ l ∷ shape)) n (field ∷ fields) short in
    AreRows-laid width gap (m ∷ l ∷ shape) (map (aligned (column_width rows) 0) rows) 0
    (All-weaker (All (λ f. length f ≤ n)) (All (λ f. indent + length f ≤ width))
    (λ row h. All-weaker (λ f. length f ≤ n) (λ f. indent + length f ≤ width) (λ f h. omega arith) row h)
    (map (aligned (column_width rows) 0) rows)
    (all_aligned-short (column_width rows) n rows (λ k. column_width_le rows k n all_short) all_short))

-- the three cases of the layout
pub laid_text-row : (width gap : ℕ) (shape : List ℕ) (fields : List (List ℕ)) → length shape ≤ 1 → laid_text width gap shape fields ≡ rest_of_row width gap None fields
laid_text-row width gap [] fields rank = refl
laid_text-row width gap (n ∷ []) fields rank = refl
laid_text-row width gap (n ∷ m ∷ shape) fields rank = absurd (omega arith)

pub laid_text-table : (width gap : ℕ) (shape : List ℕ) (fields : List (List ℕ)) → 1 < length shape → 0 < length fields → laid_text width gap shape fields ≡ laid_table width gap shape fields
laid_text-table width gap [] fields rank some = absurd (omega arith)
laid_text-table width gap (n ∷ []) fields rank some = absurd (omega arith)
laid_text-table width gap (n ∷ m ∷ shape) [] rank some = absurd (omega arith)
laid_text-table width gap (n ∷ m ∷ shape) (field ∷ fields) rank some = refl

pub laid_text-empty : (width gap : ℕ) (shape : List ℕ) (fields : List (List ℕ)) → 1 < length shape → length fields ≡ 0 → laid_text width gap shape fields ≡ []
laid_text-empty width gap [] fields rank none = absurd (omega arith)
laid_text-empty width gap (n ∷ []) fields rank none = absurd (omega arith)
laid_text-empty width gap (n ∷ m ∷ shape) [] rank none = refl
laid_text-empty width gap (n ∷ m ∷ shape) (field ∷ fields) rank none = absurd (omega arith)

-- the bytes of the layout are those of a text that the definition allows
pub shown_by_layout : (a : ArrayValue) (width gap : ℕ) (bytes : List ℕ) → least_width ≤ width → gap ≡ gap_of a.kind → All (λ f. length f ≤ 21) (map field_of a.ravel)
    → bytes ≡ encode_utf8_all (laid_text width gap a.shape (map field_of a.ravel)) → (text : List ℕ) × IsShown a width text × (bytes ≡ encode_utf8_all text)
shown_by_layout a width gap bytes wide is_gap short is_text = (
  laid_text width gap a.shape (map field_of a.ravel),
  subst (λ g. IsText width g a.shape (map field_of a.ravel) (laid_text width gap a.shape (map field_of a.ravel))) is_gap
      (IsText-laid width gap a.shape (map field_of a.ravel) 21 (omega arith) short),
  is_text,
)

-- numbers in the range have short fields
field_of-short : (x : Elem) → IsElementInRange x → length (field_of x) ≤ 21
field_of-short (Int (pos n)) fits = let greatest = fits.greatest in omega (arith, length-decimal-le 20 n (omega arith) (omega (arith, ints)) (omega (arith, ints)))
field_of-short (Int (negsuc n)) fits = let least = fits.least in omega (arith, length-decimal-le 20 (suc n) (omega arith) (omega (arith, ints)) (omega (arith, ints)))
field_of-short (Chr c) fits = omega arith

pub shown_always : (a : ArrayValue) (width : ℕ) → HasNumbersInRange a → least_width ≤ width → (text : List ℕ) × IsShown a width text
shown_always a width in_range wide = (
  laid_text width (gap_of a.kind) a.shape (map field_of a.ravel),
  IsText-laid width (gap_of a.kind) a.shape (map field_of a.ravel) 21 (omega arith)
      (All-map (λ f. length f ≤ 21) field_of a.ravel (All-weaker IsElementInRange (λ x. length (field_of x) ≤ 21) field_of-short a.ravel in_range)),
)

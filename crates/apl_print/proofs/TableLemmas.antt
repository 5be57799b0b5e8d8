-- Rows and columns of a table.
use Rattle.std.proofs.Common.{◌≡◌, ℕ, zero, suc, pos, ◌+◌, ◌-◌, ◌*◌, ◌/◌, ◌<◌, ◌≤◌, List, [], ◌∷◌, ◌++◌, length, take, drop, get_or, map, max, replicate, Option, Some, None, refl, sym, ap, ◌∙◌, subst, ⊎_elim, arith, append_assoc}
use Rattle.std.specs.Prelude.{encode_utf8_all}
use Rattle.std.specs.List.{All, fold}
use Rattle.std.proofs.lemmas.Bool.{cases_lt}
use Rattle.std.proofs.lemmas.List.{drop_more, drop_all, take_all, length-map, get_or-map, drop-drop, take-map, length-take, length-drop, get_or-take, get_or-drop, get_or_default}
use Rattle.std.proofs.lemmas.List.Sums.{fold_more}
use Rattle.std.proofs.Math.Nat.{mul_assoc, mul-div_cancel, mul-le-mul_right}
use Rattle.apl_array.specs.declared.array.Elem.TheVariants.{Int}
use Rattle.apl_array.specs.Shape.{count_of}
use Rattle.apl_array.specs.Array.{ArrayValue, element_in}
use Rattle.apl_print.specs.Text.{line_feed, blanks}
use Rattle.apl_print.specs.Shown.{field_of, row_count, row_length, rows_of, column_width, padded, aligned, plane_starts, empty_lines}
use Rattle.apl_print.specs.Layout.{lead, column_after, rest_of_row, rest_of_rows, fields_between}
use Rattle.apl_print.proofs.TextLemmas.{encodes_after}

-- one more field of a row: the bytes so far, and the layout of the rest
pub row_more : (width gap : ℕ) (column : Option ℕ) (next : ℕ) (widths : ℕ → ℕ) (k : ℕ) (fields : List (List ℕ)) (old new start field : List ℕ) (w : ℕ)
    → k < length fields → get_or fields k [] ≡ field → w ≡ widths k
    → new ≡ old ++ encode_utf8_all (lead width gap column (length (padded w field)) ++ padded w field)
    → next ≡ column_after width gap column (length (padded w field))
    → old ++ encode_utf8_all (rest_of_row width gap column (aligned widths k (drop k fields))) ≡ start
    → new ++ encode_utf8_all (rest_of_row width gap (Some next) (aligned widths (k + 1) (drop (k + 1) fields))) ≡ start
row_more width gap column next widths k fields old new start field w within is_field is_width pushed is_next before =
    let cell = padded w field in
    let rest = aligned widths (k + 1) (drop (k + 1) fields) in
    ap (λ bytes. bytes ++ encode_utf8_all (rest_of_row width gap (Some next) rest)) pushed
    ∙ encodes_after old (lead width gap column (length cell) ++ cell) (rest_of_row width gap (Some next) rest)
    ∙ ap (λ text. old ++ encode_utf8_all text) (append_assoc (lead width gap column (length cell)) cell (rest_of_row width gap (Some next) rest))
    ∙ ap (λ c. old ++ encode_utf8_all (lead width gap column (length cell) ++ (cell ++ rest_of_row width gap (Some c) rest))) is_next
    ∙ ap (λ v. old ++ encode_utf8_all (rest_of_row width gap column (padded v field ∷ rest))) is_width
    ∙ ap (λ fields. old ++ encode_utf8_all (rest_of_row width gap column (aligned widths k fields))) (sym (drop_more fields k [] within ∙ ap (λ f. f ∷ drop (k + 1) fields) is_field))
    ∙ before

-- the layout of a row that has ended
pub row_ends : (width gap : ℕ) (column : Option ℕ) (widths : ℕ → ℕ) (k : ℕ) (fields : List (List ℕ)) → length fields ≤ k → rest_of_row width gap column (aligned widths k (drop k fields)) ≡ line_feed ∷ []
row_ends width gap column widths k fields past = ap (λ rest. rest_of_row width gap column (aligned widths k rest)) (drop_all k fields past)

-- no widths are no padding
pub aligned_none : (widths : ℕ → ℕ) (k : ℕ) (fields : List (List ℕ)) → ((k : ℕ) → widths k ≡ 0) → aligned widths k fields ≡ fields
aligned_none widths k [] none = refl
aligned_none widths k (f ∷ fields) none =
    let no_blanks : widths k - length f ≡ 0 = omega (arith, none k) in
    ap (λ n. (blanks n ++ f) ∷ aligned widths (k + 1) fields) no_blanks ∙ ap (λ rest. f ∷ rest) (aligned_none widths (k + 1) fields none)

-- the same widths give the same fields
pub aligned_same : (widths others : ℕ → ℕ) (n k : ℕ) (fields : List (List ℕ)) → ((j : ℕ) → j < n → widths j ≡ others j) → k + length fields ≤ n → aligned widths k fields ≡ aligned others k fields
aligned_same widths others n k [] same within = refl
aligned_same widths others n k (f ∷ fields) same within =
    ap (λ w. padded w f ∷ aligned widths (k + 1) fields) (same k (omega arith))
    ∙ ap (λ rest. padded (others k) f ∷ rest) (aligned_same widths others n (k + 1) fields same (omega arith))

-- how many rows there are, and which row is which
pub length-rows_of : (rows columns : ℕ) (fields : List (List ℕ)) → length (rows_of rows columns fields) ≡ rows
length-rows_of zero columns fields = refl
length-rows_of (suc rows) columns fields = ap suc (length-rows_of rows columns (drop columns fields))

pub get_or-rows_of : (rows columns r : ℕ) (fields : List (List ℕ)) → r < rows → get_or (rows_of rows columns fields) r [] ≡ take columns (drop (r * columns) fields)
get_or-rows_of zero columns r fields within = absurd (omega arith)
get_or-rows_of (suc rows) columns zero fields within = let e : zero * columns ≡ 0 = omega arith in rw e
get_or-rows_of (suc rows) columns (suc r) fields within =
    get_or-rows_of rows columns r (drop columns fields) (omega arith)
    ∙ ap (take columns) (drop-drop (r * columns) columns fields ∙ (let e : columns + r * columns ≡ suc r * columns = omega arith in ap (λ n. drop n fields) e))

-- the last length, and the product of the others
pub row_length_is : (shape : List ℕ) (d : ℕ) → 0 < length shape → get_or shape (length shape - 1) d ≡ row_length shape
row_length_is [] d some = absurd (omega arith)
row_length_is (n ∷ []) d some = refl
row_length_is (n ∷ m ∷ shape) d some =
    let e : length (n ∷ m ∷ shape) - 1 ≡ suc (length (m ∷ shape) - 1) = omega arith in
    ap (λ i. get_or (n ∷ m ∷ shape) i d) e ∙ row_length_is (m ∷ shape) d (omega arith)

pub count_split : (shape : List ℕ) → row_count shape * row_length shape ≡ count_of shape
count_split [] = refl
count_split (n ∷ []) = omega arith
count_split (n ∷ m ∷ shape) = mul_assoc n (row_count (m ∷ shape)) (row_length (m ∷ shape)) ∙ ap (λ c. n * c) (count_split (m ∷ shape))

positive : (n c : ℕ) → 0 < suc n * c → 0 < c
positive n zero some = absurd (omega arith)
positive n (suc c) some = omega arith

factor : (a b : ℕ) → 0 < a * b → 0 < b
factor a zero some = absurd (omega arith)
factor a (suc b) some = omega arith

-- a shape without its first axis
pub rest_count : (shape : List ℕ) → 0 < length shape → 0 < count_of shape
    → (0 < count_of (take (length shape - 1) (drop 1 shape))) × (count_of (take (length shape - 1) (drop 1 shape)) ≤ count_of shape)
rest_count [] some elements = absurd (omega arith)
rest_count (zero ∷ shape) some elements = absurd (omega arith)
rest_count (suc n ∷ shape) some elements =
    let whole : take (length (suc n ∷ shape) - 1) shape ≡ shape = take_all (length (suc n ∷ shape) - 1) shape (omega arith) in
    let product : suc n * count_of shape ≡ count_of shape + n * count_of shape = omega arith in
    rw whole (positive n (count_of shape) elements, omega arith)

pub row_count_small : (shape : List ℕ) → length shape < 2 → row_count shape ≡ 1
row_count_small [] small = refl
row_count_small (n ∷ []) small = refl
row_count_small (n ∷ m ∷ shape) small = absurd (omega arith)

-- one more row in a column
pub column_width_more : (rows : List (List (List ℕ))) (r k : ℕ) → r < length rows
    → column_width (take (r + 1) rows) k ≡ max (column_width (take r rows) k) (length (get_or (get_or rows r []) k []))
column_width_more rows r k within =
    let size : List (List ℕ) → ℕ = λ row. length (get_or row k []) in
    let inside : r < length (map size rows) = rw (length-map rows size) within in
    ap (fold max 0) (sym (take-map size (r + 1) rows))
    ∙ fold_more max 0 (map size rows) r 0 inside
    ∙ ap (λ front. max (fold max 0 front) (get_or (map size rows) r 0)) (take-map size r rows)
    ∙ ap (λ last. max (fold max 0 (map size (take r rows))) last) (get_or-map size rows r [] 0 within)

-- more fields that are short
pub short_more : (fields : List (List ℕ)) (start n : ℕ) → All (λ f. length f ≤ 21) (take start fields)
    → ((k : ℕ) → k < n → start + k < length fields → length (get_or fields (start + k) []) ≤ 21) → All (λ f. length f ≤ 21) (take (start + n) fields)
short_more fields start n before more p d within =
    let inside : p < start + n = omega (arith, length-take (start + n) fields) in
    let in_fields : p < length fields = omega (arith, length-take (start + n) fields) in
    rw (get_or-take (start + n) fields p d inside)
    (⊎_elim
    (λ below. subst (λ f. length f ≤ 21) (get_or-take start fields p d below) (before p d (omega (arith, length-take start fields))))
    (λ above. let e : start + (p - start) ≡ p = omega arith in
    subst (λ f. length f ≤ 21) (ap (λ i. get_or fields i []) e ∙ get_or_default fields p [] d in_fields) (more (p - start) (omega arith) (omega arith)))
    (cases_lt p start))

-- the field at a place
pub field_at : (a : ArrayValue) (place : ℕ) → place < length a.ravel → get_or (map field_of a.ravel) place [] ≡ field_of (element_in a place)
field_at a place within = get_or-map field_of a.ravel place (Int (pos 0)) [] within

pub field_between : (a : ArrayValue) (start end k : ℕ) → k < end - start → start + k < length a.ravel → get_or (fields_between a start end) k [] ≡ field_of (element_in a (start + k))
field_between a start end k within inside =
    get_or-take (end - start) (drop start (map field_of a.ravel)) k [] within
    ∙ get_or-drop start (map field_of a.ravel) k []
    ∙ field_at a (start + k) inside

pub length-fields_between : (a : ArrayValue) (start end : ℕ) → end ≤ length a.ravel → length (fields_between a start end) ≡ end - start
length-fields_between a start end within =
    omega (arith, length-take (end - start) (drop start (map field_of a.ravel)), length-drop start (map field_of a.ravel), length-map a.ravel field_of)

-- one more row in a column, by the element in it
pub column_step : (a : ArrayValue) (rows columns r k old new : ℕ) → r < rows → k < columns → r * columns + k < length a.ravel
    → new ≡ max old (length (field_of (element_in a (r * columns + k))))
    → old ≡ column_width (take r (rows_of rows columns (map field_of a.ravel))) k
    → new ≡ column_width (take (r + 1) (rows_of rows columns (map field_of a.ravel))) k
column_step a rows columns r k old new row column inside widened before =
    let fields = map field_of a.ravel in
    let field : get_or (get_or (rows_of rows columns fields) r []) k [] ≡ field_of (element_in a (r * columns + k)) =
    ap (λ row. get_or row k []) (get_or-rows_of rows columns r fields row)
    ∙ get_or-take columns (drop (r * columns) fields) k [] column
    ∙ get_or-drop (r * columns) fields k []
    ∙ field_at a (r * columns + k) inside in
    widened ∙ ap (λ w. max w (length (field_of (element_in a (r * columns + k))))) before
    ∙ ap (λ f. max (column_width (take r (rows_of rows columns fields)) k) (length f)) (sym field)
    ∙ sym (column_width_more (rows_of rows columns fields) r k (rw (length-rows_of rows columns fields) row))

-- a row of the table
pub table_row : (a : ArrayValue) (rows columns r : ℕ) (widths : ℕ → ℕ) → r < rows
    → ((k : ℕ) → k < columns → widths k ≡ column_width (rows_of rows columns (map field_of a.ravel)) k)
    → get_or (map (aligned (column_width (rows_of rows columns (map field_of a.ravel))) 0) (rows_of rows columns (map field_of a.ravel))) r []
    ≡ aligned widths 0 (fields_between a (r * columns) ((r + 1) * columns))
table_row a rows columns r widths row same =
    let fields = map field_of a.ravel in
    let table = rows_of rows columns fields in
    let between : (r + 1) * columns - r * columns ≡ columns = omega arith in
    let short : length (fields_between a (r * columns) ((r + 1) * columns)) ≤ columns = omega (arith, length-take ((r + 1) * columns - r * columns) (drop (r * columns) fields)) in
    get_or-map (aligned (column_width table) 0) table r [] [] (rw (length-rows_of rows columns fields) row)
    ∙ ap (aligned (column_width table) 0) (get_or-rows_of rows columns r fields row ∙ ap (λ n. take n (drop (r * columns) fields)) (sym between))
    ∙ sym (aligned_same widths (column_width table) columns 0 (fields_between a (r * columns) ((r + 1) * columns)) same (omega arith))

-- one more row: the bytes so far, and the layout of the rest
pub rows_more : (width gap : ℕ) (shape : List ℕ) (r : ℕ) (table : List (List (List ℕ))) (old mid new start : List ℕ) (row : List (List ℕ))
    → r < length table → get_or table r [] ≡ row
    → mid ≡ old ++ encode_utf8_all (replicate (empty_lines shape r) line_feed)
    → new ≡ mid ++ encode_utf8_all (rest_of_row width gap None row)
    → old ++ encode_utf8_all (rest_of_rows width gap shape r (drop r table)) ≡ start
    → new ++ encode_utf8_all (rest_of_rows width gap shape (r + 1) (drop (r + 1) table)) ≡ start
rows_more width gap shape r table old mid new start row within is_row feeds pushed before =
    let lines = replicate (empty_lines shape r) line_feed in
    let rest = rest_of_rows width gap shape (r + 1) (drop (r + 1) table) in
    ap (λ bytes. bytes ++ encode_utf8_all rest) (pushed ∙ ap (λ bytes. bytes ++ encode_utf8_all (rest_of_row width gap None row)) feeds)
    ∙ ap (λ bytes. bytes ++ encode_utf8_all rest) (encodes_after old lines (rest_of_row width gap None row))
    ∙ encodes_after old (lines ++ rest_of_row width gap None row) rest
    ∙ ap (λ text. old ++ encode_utf8_all text) (append_assoc lines (rest_of_row width gap None row) rest)
    ∙ ap (λ rows. old ++ encode_utf8_all (rest_of_rows width gap shape r rows)) (sym (drop_more table r [] within ∙ ap (λ first. first ∷ drop (r + 1) table) is_row))
    ∙ before

pub rows_end : (width gap : ℕ) (shape : List ℕ) (r : ℕ) (table : List (List (List ℕ))) → length table ≤ r → rest_of_rows width gap shape r (drop r table) ≡ []
rows_end width gap shape r table past = ap (rest_of_rows width gap shape r) (drop_all r table past)

-- rows are as long as the last axis, and each element lies in one
pub row_length_pos : (shape : List ℕ) → 0 < count_of shape → 0 < row_length shape
row_length_pos shape some = factor (row_count shape) (row_length shape) (rw (count_split shape) some)

pub rows_are : (shape : List ℕ) → 0 < count_of shape → count_of shape / row_length shape ≡ row_count shape
rows_are shape some =
    rw (← count_split shape) (mul-div_cancel (row_count shape) (row_length_pos shape some))

pub empty_lines_pos : (shape : List ℕ) (r : ℕ) → 0 < r → empty_lines shape r ≡ plane_starts shape r
empty_lines_pos shape zero some = absurd (omega arith)
empty_lines_pos shape (suc r) some = refl

pub row_within : (r rows columns : ℕ) → r < rows → (r + 1) * columns ≤ rows * columns
row_within r rows columns within = mul-le-mul_right columns (omega arith)

-- all fields are those between the first place and the last
pub fields_between-all : (a : ArrayValue) (count : ℕ) → length a.ravel ≤ count → fields_between a 0 count ≡ map field_of a.ravel
fields_between-all a count whole =
    let fields : List (List ℕ) = map field_of a.ravel in
    take_all (count - 0) fields (omega (arith, length-map a.ravel field_of))

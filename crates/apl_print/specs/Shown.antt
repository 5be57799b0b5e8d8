-- Printed arrays, in characters: fields, columns, rows and planes.
use Rattle.std.specs.Prelude.{◌≡◌, ℕ, suc, zero, ◌+◌, ◌-◌, ◌*◌, ◌%◌, ◌==◌, ℤ, pos, negsuc, List, [], ◌∷◌, ◌++◌, length, take, drop, map, fold, max, replicate, slice_index_or, if◌then◌else◌, decimal}
use Rattle.apl_array.specs.declared.array.Elem.{Elem}
use Rattle.apl_array.specs.declared.array.Elem.TheVariants.{Int, Chr}
use Rattle.apl_array.specs.declared.array.Kind.{Kind}
use Rattle.apl_array.specs.declared.array.Kind.TheVariants.{Number, Character}
use Rattle.apl_array.specs.Array.{ArrayValue}
use Rattle.apl_print.specs.Text.{high_minus, line_feed, blanks}
use Rattle.apl_print.specs.Row.{IsRow}

-- a number: its digits without leading zeros, `¯` before them if it is negative
abbrev pub numeral_of : ℤ → List ℕ
numeral_of (pos n) = decimal n
numeral_of (negsuc n) = high_minus ∷ decimal (suc n)

-- the field of an element
abbrev pub field_of : Elem → List ℕ
field_of (Int n) = numeral_of n
field_of (Chr c) = c ∷ []

-- how many blanks are between two fields
abbrev pub gap_of : Kind → ℕ
gap_of Number = 1
gap_of Character = 0

-- how many fields a row has: the length of the last axis
abbrev pub row_length : List ℕ → ℕ
row_length [] = 1
row_length (n ∷ []) = n
row_length (n ∷ m ∷ shape) = row_length (m ∷ shape)

-- how many rows there are: the product of the other lengths
abbrev pub row_count : List ℕ → ℕ
row_count [] = 1
row_count (n ∷ []) = 1
row_count (n ∷ m ∷ shape) = n * row_count (m ∷ shape)

-- this many rows, of this many fields each
abbrev pub rows_of : ℕ → ℕ → List (List ℕ) → List (List (List ℕ))
rows_of zero columns fields = []
rows_of (suc rows) columns fields = take columns fields ∷ rows_of rows columns (drop columns fields)

-- the width of column k: the length of its widest field, over all rows
abbrev pub column_width : List (List (List ℕ)) → ℕ → ℕ
column_width rows k = fold max 0 (map (λ row. length (slice_index_or row k [])) rows)

-- a field with blanks before it up to a width
abbrev pub padded : ℕ → List ℕ → List ℕ
padded width field = blanks (width - length field) ++ field

-- the fields of a row from column k on, each as wide as its column
abbrev pub aligned : (ℕ → ℕ) → ℕ → List (List ℕ) → List (List ℕ)
aligned widths k [] = []
aligned widths k (field ∷ fields) = padded (widths k) field ∷ aligned widths (k + 1) fields

-- How many empty lines are before row r, above 0: one for each axis but the last two along which a plane begins there.
-- Along an axis a plane begins if r is a multiple of the number of rows that the axes after it have
abbrev pub plane_starts : List ℕ → ℕ → ℕ
plane_starts [] r = 0
plane_starts (n ∷ []) r = 0
plane_starts (n ∷ m ∷ []) r = 0
plane_starts (n ∷ m ∷ l ∷ shape) r = (if r % row_count (m ∷ l ∷ shape) == 0 then 1 else 0) + plane_starts (m ∷ l ∷ shape) r

-- how many empty lines are before row r: none before the first
abbrev pub empty_lines : List ℕ → ℕ → ℕ
empty_lines shape zero = 0
empty_lines shape (suc r) = plane_starts shape (suc r)

-- the rows from row r on, one after the other, each after its empty lines
abbrev pub AreRows : ℕ → ℕ → List ℕ → ℕ → List (List (List ℕ)) → List ℕ → Type 0
AreRows width gap shape r [] text = text ≡ []
AreRows width gap shape r (row ∷ rows) text = (first : List ℕ) × (rest : List ℕ) × IsRow width gap row first
    × AreRows width gap shape (r + 1) rows rest × (text ≡ replicate (empty_lines shape r) line_feed ++ (first ++ rest))

-- the text of an array: a scalar and a vector are one row, others rows in aligned columns, or nothing without elements
abbrev pub IsText : ℕ → ℕ → List ℕ → List (List ℕ) → List ℕ → Type 0
IsText width gap [] fields text = IsRow width gap fields text
IsText width gap (n ∷ []) fields text = IsRow width gap fields text
IsText width gap (n ∷ m ∷ shape) [] text = text ≡ []
IsText width gap (n ∷ m ∷ shape) (field ∷ fields) text =
    let rows = rows_of (row_count (n ∷ m ∷ shape)) (row_length (n ∷ m ∷ shape)) (field ∷ fields) in
    AreRows width gap (n ∷ m ∷ shape) 0 (map (aligned (column_width rows) 0) rows) text

-- the text of an array, on lines of this width
abbrev pub IsShown : ArrayValue → ℕ → List ℕ → Type 0
IsShown a width text = IsText width (gap_of a.kind) a.shape (map field_of a.ravel) text

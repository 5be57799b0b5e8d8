-- How the printer lays out a row, field by field. `Row` and `Shown` define what is printed. No contract of a public function
-- cites this file.
use Rattle.std.specs.Prelude.{◌≡◌, ℕ, ◌+◌, ◌-◌, List, [], ◌∷◌, ◌++◌, Option, Some, None, length, take, drop, map, replicate, nat_le, if◌then◌else◌, string_bytes, encode_utf8_all, String}
use Rattle.apl_print.specs.Text.{line_feed, blanks, indent}
use Rattle.apl_array.specs.Array.{ArrayValue}
use Rattle.apl_print.specs.Shown.{field_of, row_length, row_count, rows_of, column_width, aligned, empty_lines}

-- What is before a field of this many characters: nothing at the start of its row. Else it is the gap if the field fits on the open
-- line, or a new line's blanks
abbrev pub lead : ℕ → ℕ → Option ℕ → ℕ → List ℕ
lead width gap None n = []
lead width gap (Some column) n = if nat_le (column + gap + n) width then blanks gap else line_feed ∷ blanks indent

-- how many characters the open line has after that field
abbrev pub column_after : ℕ → ℕ → Option ℕ → ℕ → ℕ
column_after width gap None n = n
column_after width gap (Some column) n = if nat_le (column + gap + n) width then column + gap + n else indent + n

-- the rest of a row, if the open line has this many characters, or the row has not begun
abbrev pub rest_of_row : ℕ → ℕ → Option ℕ → List (List ℕ) → List ℕ
rest_of_row width gap column [] = line_feed ∷ []
rest_of_row width gap column (field ∷ fields) = lead width gap column (length field)
    ++ (field ++ rest_of_row width gap (Some (column_after width gap column (length field))) fields)

-- the rows from row r on
abbrev pub rest_of_rows : ℕ → ℕ → List ℕ → ℕ → List (List (List ℕ)) → List ℕ
rest_of_rows width gap shape r [] = []
rest_of_rows width gap shape r (row ∷ rows) = replicate (empty_lines shape r) line_feed ++ (rest_of_row width gap None row ++ rest_of_rows width gap shape (r + 1) rows)

-- the fields of the elements from one place up to another
abbrev pub fields_between : ArrayValue → ℕ → ℕ → List (List ℕ)
fields_between a start end = take (end - start) (drop start (map field_of a.ravel))

-- the rows of an array's fields, each field as wide as its column
abbrev pub aligned_rows : ArrayValue → List (List (List ℕ))
aligned_rows a =
    let rows = rows_of (row_count a.shape) (row_length a.shape) (map field_of a.ravel) in
    map (aligned (column_width rows) 0) rows

-- a text grew by these characters
abbrev pub GrowsBy : {Z : Type 0} → (old new : String Z) → List ℕ → Type 0
GrowsBy old new characters = string_bytes new ≡ string_bytes old ++ encode_utf8_all characters

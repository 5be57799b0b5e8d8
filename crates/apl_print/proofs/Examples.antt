-- Worked examples of printed values, of reports and of replies.
use Rattle.std.proofs.Common.{◌≡◌, ℕ, negsuc, List, [], ◌∷◌, ◌++◌, Some, None, map, codes, refl, lit≤, lit<}
use Rattle.std.specs.Prelude.{encode_utf8}
use Rattle.std.specs.Fmt.{digits}
use Rattle.apl_array.specs.declared.array.Elem.TheVariants.{Int, Chr}
use Rattle.apl_print.specs.declared.reports.Report.TheVariants.{Syntax, Domain, WsFull}
use Rattle.apl_print.specs.declared.replies.Reply.TheVariants.{Was, Clear, Incorrect}
use Rattle.apl_print.specs.Row.{IsRow}
use Rattle.apl_print.specs.Shown.{field_of, padded, rows_of, column_width, aligned, plane_starts}
use Rattle.apl_print.specs.Reported.{report_text}
use Rattle.apl_print.specs.Replied.{reply_text}
use Rattle.apl_print.specs.Text.{high_minus, caret}

one_to_thirteen : List (List ℕ)
one_to_thirteen = codes "1" ∷ codes "2" ∷ codes "3" ∷ codes "4" ∷ codes "5" ∷ codes "6" ∷ codes "7" ∷ codes "8" ∷ codes "9" ∷ codes "10" ∷ codes "11" ∷ codes "12" ∷ codes "13" ∷ []

fourteen_on : List (List ℕ)
fourteen_on = codes "14" ∷ codes "15" ∷ codes "16" ∷ codes "17" ∷ codes "18" ∷ codes "19" ∷ codes "20" ∷ []

-- 1 to 20 on lines of 30 characters
twenty_numbers : IsRow 30 1 (one_to_thirteen ++ fourteen_on) (codes "1 2 3 4 5 6 7 8 9 10 11 12 13\n      14 15 16 17 18 19 20\n")
unfolding one_to_thirteen fourteen_on
twenty_numbers = record {
  lines = one_to_thirteen ∷ fourteen_on ∷ [];
  whole = refl;
  laid = (lit< tt, lit≤ tt, lit< tt, (lit< tt, lit≤ tt, tt, tt));
  is_text = refl;
}

-- the columns of a table with the rows 1 ¯10 and 100 2
columns :
    let rows = rows_of 2 2 (codes "1" ∷ (high_minus ∷ codes "10") ∷ codes "100" ∷ codes "2" ∷ []) in
    map (aligned (column_width rows) 0) rows ≡ ((codes "  1" ∷ (high_minus ∷ codes "10") ∷ []) ∷ (codes "100" ∷ codes "  2" ∷ []) ∷ [])
columns = refl

-- the third of the rows of shape 2 2 1 1 begins a plane along two axes, the second along one
two_axes : plane_starts (2 ∷ 2 ∷ 1 ∷ 1 ∷ []) 2 ≡ 2
two_axes = refl

one_axis : plane_starts (2 ∷ 2 ∷ 1 ∷ 1 ∷ []) 1 ≡ 1
one_axis = refl

-- the rows of a matrix have no empty lines between them
no_axis : plane_starts (2 ∷ 2 ∷ []) 1 ≡ 0
no_axis = refl

-- ---- reports and replies

-- 3+
syntax_report : report_text Syntax (codes "3+") (Some 1) ≡ codes "SYNTAX ERROR\n      3+\n       " ++ encode_utf8 caret ++ codes "\n"
unfolding lib.Utf8.encode
syntax_report = refl

-- 7÷2 in bytes, the caret below the symbol
domain_report : report_text Domain (codes "7" ++ 0xC3 ∷ 0xB7 ∷ codes "2") (Some 1)
    ≡ codes "DOMAIN ERROR\n      7" ++ 0xC3 ∷ 0xB7 ∷ codes "2\n       " ++ 0xE2 ∷ 0x88 ∷ 0xA7 ∷ codes "\n"
unfolding lib.Utf8.encode
domain_report = refl

-- lack of memory has no caret
memory_report : report_text WsFull (codes "A") None ≡ codes "WS FULL\n      A\n"
memory_report = refl

width_was : reply_text (Was 120) ≡ codes "WAS 120\n"
unfolding digits
width_was = refl

cleared : reply_text Clear ≡ codes "CLEAR WS\n"
cleared = refl

incorrect : reply_text Incorrect ≡ codes "INCORRECT COMMAND\n"
incorrect = refl

-- ---- fields

minus_twenty : field_of (Int (negsuc 19)) ≡ high_minus ∷ codes "20"
unfolding digits
minus_twenty = refl

character_as_it_is : field_of (Chr 39) ≡ codes "'"
character_as_it_is = refl

padded_on_the_left : padded 4 (codes "12") ≡ codes "  12"
padded_on_the_left = refl

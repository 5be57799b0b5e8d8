-- The text of a report, in bytes: its name, the line, and a caret below a column of the line.
use Rattle.std.specs.Prelude.{ℕ, List, [], ◌++◌, Option, Some, None, codes, encode_utf8}
use Rattle.apl_print.specs.declared.reports.Report.{Report}
use Rattle.apl_print.specs.declared.reports.Report.TheVariants.{Syntax, Value, Index, Rank, Length, Domain, Limit, Character, WsFull}
use Rattle.apl_print.specs.Text.{blanks, indent, caret, ended}

-- the heading of a report
abbrev pub report_name : Report → List ℕ
report_name Syntax = codes "SYNTAX ERROR"
report_name Value = codes "VALUE ERROR"
report_name Index = codes "INDEX ERROR"
report_name Rank = codes "RANK ERROR"
report_name Length = codes "LENGTH ERROR"
report_name Domain = codes "DOMAIN ERROR"
report_name Limit = codes "LIMIT ERROR"
report_name Character = codes "CHARACTER ERROR"
report_name WsFull = codes "WS FULL"

-- the caret's line: as many blanks as the column, and the caret
abbrev pub caret_line : Option ℕ → List ℕ
caret_line None = []
caret_line (Some column) = ended (blanks indent ++ blanks column ++ encode_utf8 caret)

-- the error's name, the line after six blanks, and the caret below a column
abbrev pub report_text : Report → List ℕ → Option ℕ → List ℕ
report_text report line column = ended (report_name report) ++ ended (blanks indent ++ line) ++ caret_line column

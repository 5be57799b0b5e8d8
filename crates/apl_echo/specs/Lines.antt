-- Lines that are printed, and lines that read as a constant.
use Rattle.std.specs.Prelude.{◌==◌, ◌≤◌, ℕ, ℤ, Bool, not, List, length, map, encode_utf8_all, if◌then◌else◌}
use Rattle.apl_array.specs.declared.array.Kind.TheVariants.{Number}
use Rattle.apl_array.specs.Array.{ArrayValue, number_array, character_array}
use Rattle.apl_print.specs.Text.{blank, line_feed, ended}
use Rattle.apl_print.specs.Row.{joined}
use Rattle.apl_print.specs.Shown.{numeral_of, gap_of, IsShown}
use Rattle.apl_tokens.specs.Symbols.{is_listed, is_quote}
use Rattle.apl_tokens.specs.Fronts.{AllPass}
use Rattle.apl_tokens.specs.Lexis.{constant_shape}
use Rattle.apl_grammar.specs.Tree.{value, constant}
use Rattle.apl_syntax.specs.Reading.{statement, IsReading}
use Rattle.apl_syntax.specs.Reading as reading

-- the array of these numbers: a scalar of one, a vector of another number of them
abbrev pub number_value : List ℤ → ArrayValue
number_value numbers = number_array (constant_shape numbers) numbers

-- the array of these characters: a scalar of one, a vector of another number of them
abbrev pub text_value : List ℕ → ArrayValue
text_value characters = character_array (constant_shape characters) characters

-- the numerals of these numbers, with a blank between them
abbrev pub number_line : List ℤ → List ℕ
number_line numbers = joined (gap_of Number) (map numeral_of numbers)

-- another character than the line feed
abbrev pub is_no_line_feed : ℕ → Bool
is_no_line_feed c = not (c == line_feed)

-- another character than the quote
abbrev pub is_no_quote : ℕ → Bool
is_no_quote c = not (is_quote c)

-- the text of the array is this line alone, and the line feed at its end
pub record IsPrintedLine (a : ArrayValue) (width : ℕ) (line : List ℕ) : Type 0 where
  pub shown : IsShown a width (ended line)
  pub one : AllPass is_no_line_feed line

-- the numerals, with a blank between them, fit the width
abbrev pub FitWidth : List ℤ → ℕ → Type 0
FitWidth numbers width = length (number_line numbers) ≤ width

-- all characters are listed symbols
abbrev pub AreListed : List ℕ → Type 0
AreListed characters = AllPass is_listed characters

-- a blank for a line feed, and any other character as it is
abbrev pub blank_for_line_feed : ℕ → ℕ
blank_for_line_feed c = if c == line_feed then blank else c

-- the lines of a text as one line: a blank is in the place of each line feed
abbrev pub on_one_line : List ℕ → List ℕ
on_one_line text = map blank_for_line_feed text

-- the line reads as the statement whose tree is the constant of this value alone, at this column
abbrev pub ReadsAt : ℕ → List ℕ → ArrayValue → Type 0
ReadsAt column line a = IsReading (encode_utf8_all line) (statement (value (constant column a)))

-- the same at column 0
abbrev pub ReadsAs : List ℕ → ArrayValue → Type 0
ReadsAs line a = ReadsAt 0 line a

-- each text of an array, as one line, reads as the constant of this value at some column
abbrev pub TextReadsAs : ArrayValue → (width : ℕ) → ArrayValue → Type 0
TextReadsAs a width b = (text : List ℕ) → IsShown a width text → (column : ℕ) × ReadsAt column (on_one_line text) b

-- the line has no token
abbrev pub ReadsAsBlank : List ℕ → Type 0
ReadsAsBlank line = IsReading (encode_utf8_all line) reading.blank

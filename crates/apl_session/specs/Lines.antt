-- A text as a list of lines.
use Rattle.std.specs.Prelude.{ℕ, ◌-◌, ◌==◌, ◌≢◌, List, [], ◌∷◌, All, if◌then◌else◌, length, take, slice_index}
use Rattle.apl_print.specs.Text.{line_feed}

-- the byte that may be before the line feed
abbrev pub carriage_return : ℕ
carriage_return = 13

-- the lines, with one more byte in front of the first
abbrev pub before_first_line : ℕ → List (List ℕ) → List (List ℕ)
before_first_line byte [] = (byte ∷ []) ∷ []
before_first_line byte (line ∷ lines) = (byte ∷ line) ∷ lines

-- the lines of a text, each without the line feed that ends it; a last line without one is a line unless it is empty
abbrev pub lines_of : List ℕ → List (List ℕ)
lines_of [] = []
lines_of (byte ∷ text) = if byte == line_feed then [] ∷ lines_of text else before_first_line byte (lines_of text)

-- no line ends within these bytes
abbrev pub IsUnbroken : List ℕ → Type 0
IsUnbroken bytes = All (λ byte. byte ≢ line_feed) bytes

-- a line without the one carriage return at its end
abbrev pub without_return : List ℕ → List ℕ
without_return line = if slice_index line (length line - 1) == carriage_return then take (length line - 1) line else line

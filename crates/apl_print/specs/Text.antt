-- Characters that printed texts are made of.
use Rattle.std.specs.Prelude.{ℕ, List, [], ◌∷◌, ◌++◌, replicate}

-- the blank
abbrev pub blank : ℕ
blank = 32

-- LF, which ends a line
abbrev pub line_feed : ℕ
line_feed = 10

-- `¯`, which is before the digits of a negative number
abbrev pub high_minus : ℕ
high_minus = 0xaf

-- `∧`, which is below the place of an error
abbrev pub caret : ℕ
caret = 0x2227

-- n blanks
abbrev pub blanks : ℕ → List ℕ
blanks n = replicate n blank

-- the blanks before a continuation line, and before the lines of a report
abbrev pub indent : ℕ
indent = 6

-- a text as a line
abbrev pub ended : List ℕ → List ℕ
ended text = text ++ line_feed ∷ []

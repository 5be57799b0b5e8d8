-- A row of fields as it is printed, in characters: on one line, or on a line and continuation lines.
use Rattle.std.specs.Prelude.{◌≡◌, ℕ, ◌+◌, ◌<◌, ◌≤◌, List, [], ◌∷◌, ◌++◌, length, take, flat_map}
use Rattle.apl_print.specs.Text.{blanks, indent, ended}

-- fields on one line, with a gap of blanks between them
abbrev pub joined : ℕ → List (List ℕ) → List ℕ
joined gap [] = []
joined gap (field ∷ fields) = field ++ flat_map (λ next. blanks gap ++ next) fields

-- the first field of the next line, if there is one, would not have fitted on this line
abbrev pub IsFull : ℕ → ℕ → ℕ → List (List ℕ) → List (List (List ℕ)) → Type 0
IsFull width gap before line [] = Unit {0}
IsFull width gap before line (next ∷ lines) = width < before + length (joined gap (line ++ take 1 next))

-- each line has fields, fits after the blanks before it, and is full
abbrev pub AreFullLines : ℕ → ℕ → ℕ → List (List (List ℕ)) → Type 0
AreFullLines width gap before [] = Unit {0}
AreFullLines width gap before (line ∷ lines) = (0 < length line) × (before + length (joined gap line) ≤ width)
    × IsFull width gap before line lines × AreFullLines width gap indent lines

-- the text of a row on these lines; a row without fields is an empty line
abbrev pub text_of_lines : ℕ → List (List (List ℕ)) → List ℕ
text_of_lines gap [] = ended []
text_of_lines gap (line ∷ lines) = ended (joined gap line) ++ flat_map (λ line. ended (blanks indent ++ joined gap line)) lines

-- the text of a row of fields
pub record IsRow (width gap : ℕ) (fields : List (List ℕ)) (text : List ℕ) : Type 0 where
  pub lines : List (List (List ℕ))
  pub whole : flat_map (λ line. line) lines ≡ fields
  pub laid : AreFullLines width gap 0 lines
  pub is_text : text ≡ text_of_lines gap lines

-- Commands: lines whose first symbol after blanks is a right parenthesis.
use Rattle.std.specs.Prelude.{◌≡◌, ◌≤◌, ℕ, Bool, false, not, List, [], ◌∷◌, ◌++◌, codes}
use Rattle.apl_tokens.specs.Symbols.{is_blank}
use Rattle.apl_tokens.specs.Fronts.{AllPass}
use Rattle.apl_tokens.specs.Lexis.{BeginsWithNo, AreDigits, number_of_digits}
use Rattle.apl_array.specs.Axes.{origin_number}
use Rattle.apl_syntax.specs.declared.lines.Command.{Command}
use Rattle.apl_syntax.specs.declared.lines.Command.TheVariants.{Origin, Width, Clear, Off, Incorrect}

-- `)`
abbrev pub close_paren : ℕ
close_paren = 41

-- perhaps blanks, then `)`, and then this text
abbrev pub HasCommandText : List ℕ → List ℕ → Type 0
HasCommandText characters text = (blanks : List ℕ) × AllPass is_blank blanks × (characters ≡ blanks ++ close_paren ∷ text)

-- the first symbol after blanks is a right parenthesis
abbrev pub IsCommandLine : List ℕ → Type 0
IsCommandLine characters = (text : List ℕ) × HasCommandText characters text

-- another character than the blank
abbrev pub is_no_blank : ℕ → Bool
is_no_blank c = not (is_blank c)

-- the last character is no blank
abbrev pub EndsWithNoBlank : List ℕ → Type 0
EndsWithNoBlank [] = Unit {0}
EndsWithNoBlank (c ∷ []) = is_blank c ≡ false
EndsWithNoBlank (c ∷ d ∷ cs) = EndsWithNoBlank (d ∷ cs)

-- The word is what comes up to the next blank, and the argument what follows it, without the blanks around it.
pub record HasWordAndArgument (text word argument : List ℕ) : Type 0 where
  pub gap : List ℕ
  pub after : List ℕ
  pub split : text ≡ word ++ (gap ++ (argument ++ after))
  pub one_word : AllPass is_no_blank word
  pub next_blank : BeginsWithNo is_no_blank (gap ++ (argument ++ after))
  pub gap_blank : AllPass is_blank gap
  pub begins : BeginsWithNo is_blank (argument ++ after)
  pub ends : EndsWithNoBlank argument
  pub after_blank : AllPass is_blank after

-- one or more digits that spell the number
abbrev pub AreDigitsOf : ℕ → List ℕ → Type 0
AreDigitsOf number digits = AreDigits digits × (number_of_digits digits ≡ number)

-- the least and the greatest width that lines may have, in characters
abbrev pub least_width : ℕ
least_width = 30

-- the greatest width that a command may set
abbrev pub most_width : ℕ
most_width = 130

-- the word and the argument are those of the command
abbrev pub IsSpelled : List ℕ → List ℕ → Command → Type 0
IsSpelled word argument (Origin origin) = (word ≡ codes "ORIGIN") × AreDigitsOf (origin_number origin) argument
IsSpelled word argument (Width width) = (word ≡ codes "WIDTH") × AreDigitsOf width argument × (least_width ≤ width) × (width ≤ most_width)
IsSpelled word argument Clear = (word ≡ codes "CLEAR") × (argument ≡ [])
IsSpelled word argument Off = (word ≡ codes "OFF") × (argument ≡ [])
IsSpelled word argument Incorrect = ⊥

-- the command that the word and the argument are of, and an incorrect one if there is none
abbrev pub IsCommandOf : List ℕ → List ℕ → Command → Type 0
IsCommandOf word argument Incorrect = (command : Command) → IsSpelled word argument command → ⊥
IsCommandOf word argument command = IsSpelled word argument command

-- the command of a line
abbrev pub IsCommand : List ℕ → Command → Type 0
IsCommand characters command =
    (text word argument : List ℕ) × HasCommandText characters text × HasWordAndArgument text word argument
    × IsCommandOf word argument command

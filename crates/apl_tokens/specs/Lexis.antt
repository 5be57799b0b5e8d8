-- The tokens of a line, as a relation between its characters and a list of tokens with columns.
use Rattle.std.specs.Prelude.{◌≡◌, ◌⊎◌, ◌+◌, ◌-◌, ◌*◌, ◌<◌, ◌≤◌, ℕ, zero, suc, ℤ, pos, negsuc, Bool, false, IsTrue, List, [], ◌∷◌, ◌++◌, Some, length, map, encode_utf8_all, if◌then◌else◌}
use Rattle.apl_array.specs.Range.{IsInRange}
use Rattle.apl_array.specs.Shape.{most_elements}
use Rattle.apl_array.specs.Array.{ArrayValue, number_array, character_array}
use Rattle.apl_tokens.specs.declared.token.Token.{Token}
use Rattle.apl_tokens.specs.declared.token.TokenKind.{TokenKind}
use Rattle.apl_tokens.specs.declared.token.TokenKind.TheVariants.{Constant, Name}
use Rattle.apl_tokens.specs.Symbols.{is_digit, is_letter, is_name_character, is_blank, high_minus, quote, is_quote, comment_mark, character_of}
use Rattle.apl_tokens.specs.Fronts.{AllPass}

-- the characters don't begin with one that passes
abbrev pub BeginsWithNo : (ℕ → Bool) → List ℕ → Type 0
BeginsWithNo p [] = Unit {0}
BeginsWithNo p (c ∷ cs) = p c ≡ false

-- the number that digits spell, after those that spell n
abbrev pub number_after : ℕ → List ℕ → ℕ
number_after n [] = n
number_after n (d ∷ ds) = number_after (10 * n + (d - 48)) ds

-- the number that digits spell
abbrev pub number_of_digits : List ℕ → ℕ
number_of_digits digits = number_after 0 digits

-- one or more digits
abbrev pub AreDigits : List ℕ → Type 0
AreDigits [] = ⊥
AreDigits (c ∷ cs) = AllPass is_digit (c ∷ cs)

-- one or more blanks
abbrev pub AreBlanks : List ℕ → Type 0
AreBlanks [] = ⊥
AreBlanks (c ∷ cs) = AllPass is_blank (c ∷ cs)

-- the negative of a number
abbrev pub negated : ℕ → ℤ
negated zero = pos 0
negated (suc n) = negsuc n

-- perhaps a high minus, then digits
pub data IsNumeral : List ℕ → ℤ → Type 0 where
  plain : (digits : List ℕ) → AreDigits digits → IsNumeral digits (pos (number_of_digits digits))
  negative : (digits : List ℕ) → AreDigits digits → IsNumeral (high_minus ∷ digits) (negated (number_of_digits digits))

-- where a numeral begins within its constant, and its number
abbrev pub Numeral : Type 0
Numeral = ℕ × ℤ

-- numerals with one or more blanks between them, the first of them at this place
abbrev pub AreNumerals : ℕ → List ℕ → List Numeral → Type 0
AreNumerals place text [] = ⊥
AreNumerals place text (n ∷ []) = IsNumeral text n.1 × (n.0 ≡ place)
AreNumerals place text (n ∷ m ∷ others) =
    (first gap rest : List ℕ) × (text ≡ first ++ (gap ++ rest)) × IsNumeral first n.1 × (n.0 ≡ place) × AreBlanks gap
    × AreNumerals (place + length (first ++ gap)) rest (m ∷ others)

-- no blanks and then a numeral
abbrev pub HasNoNextNumeral : List ℕ → Type 0
HasNoNextNumeral after = (gap text rest : List ℕ) (z : ℤ) → AreBlanks gap → IsNumeral text z → after ≡ gap ++ (text ++ rest) → ⊥

-- no further digit, and no further numeral: as many as there are
pub record EndsNumerals (after : List ℕ) : Type 0 where
  pub digits : BeginsWithNo is_digit after
  pub numerals : HasNoNextNumeral after

-- all numerals are in the range
abbrev pub AreInRange : List Numeral → Type 0
AreInRange [] = Unit {0}
AreInRange (n ∷ ns) = IsInRange n.1 × AreInRange ns

-- one element is a scalar, another number of them a vector
abbrev pub constant_shape : {A : Type 0} → List A → List ℕ
constant_shape (x ∷ []) = []
constant_shape xs = length xs ∷ []

-- numerals, as many as there are, are the constant of this value
pub record IsNumberConstant (text after : List ℕ) (value : ArrayValue) : Type 0 where
  pub numerals : List Numeral
  pub spelled : AreNumerals 0 text numerals
  pub ends : EndsNumerals after
  pub in_range : AreInRange numerals
  pub few : length numerals ≤ most_elements
  pub is : value ≡ number_array (constant_shape numerals) (map (λ n. n.1) numerals)

-- the characters with each quote doubled
abbrev pub doubled : List ℕ → List ℕ
doubled [] = []
doubled (c ∷ cs) = if is_quote c then quote ∷ quote ∷ doubled cs else c ∷ doubled cs

-- the spelling of characters between quotes
abbrev pub quoted : List ℕ → List ℕ
quoted characters = quote ∷ (doubled characters ++ quote ∷ [])

-- characters between quotes, after which no further quote comes, are the constant of this value
pub record IsTextConstant (text after : List ℕ) (value : ArrayValue) : Type 0 where
  pub characters : List ℕ
  pub spelled : text ≡ quoted characters
  pub ends : BeginsWithNo is_quote after
  pub few : length characters ≤ most_elements
  pub is : value ≡ character_array (constant_shape characters) characters

-- the text is a constant of this value, as long as can be before what comes after it
abbrev pub IsConstant : List ℕ → List ℕ → ArrayValue → Type 0
IsConstant text after value = IsNumberConstant text after value ⊎ IsTextConstant text after value

-- a letter, then letters, digits and low lines, as many as there are
pub record IsName (text after name : List ℕ) : Type 0 where
  pub first : ℕ
  pub others : List ℕ
  pub split : text ≡ first ∷ others
  pub letter : IsTrue (is_letter first)
  pub characters : AllPass is_name_character others
  pub longest : BeginsWithNo is_name_character after
  pub is : name ≡ encode_utf8_all text

-- one symbol that is a token by itself
pub record IsSymbol (text : List ℕ) (kind : TokenKind) : Type 0 where
  pub character : ℕ
  pub split : text ≡ character ∷ []
  pub is : character_of kind ≡ Some character

-- the text is a token, as long as can be before what comes after it
abbrev pub IsToken : List ℕ → List ℕ → TokenKind → Type 0
IsToken text after (Constant value) = IsConstant text after value
IsToken text after (Name name) = IsName text after name
IsToken text after kind = IsSymbol text kind

-- The tokens are the front of the characters, whose first is at column c. The rest is what follows them and the
-- blanks after them, at column d.
abbrev pub LexesUpTo : ℕ → List ℕ → List Token → ℕ → List ℕ → Type 0
LexesUpTo c characters [] d rest =
    (gap : List ℕ) × (characters ≡ gap ++ rest) × AllPass is_blank gap × BeginsWithNo is_blank rest × (d ≡ c + length gap)
LexesUpTo c characters (t ∷ ts) d rest =
    (gap text after : List ℕ) × (characters ≡ gap ++ (text ++ after)) × AllPass is_blank gap × (t.column ≡ c + length gap)
    × IsToken text after t.kind × LexesUpTo (t.column + length text) after ts d rest

-- nothing is left, or a comment
abbrev pub IsEnd : List ℕ → Type 0
IsEnd [] = Unit {0}
IsEnd (c ∷ cs) = c ≡ comment_mark

-- blanks, token, blanks, token and so on, up to the end
abbrev pub Lexes : List ℕ → List Token → Type 0
Lexes characters tokens = (d : ℕ) × (rest : List ℕ) × LexesUpTo 0 characters tokens d rest × IsEnd rest

-- no token is here
abbrev pub BeginsWithNoToken : List ℕ → Type 0
BeginsWithNoToken rest = (text after : List ℕ) (kind : TokenKind) → rest ≡ text ++ after → IsToken text after kind → ⊥

-- the first numeral out of range begins at this place
pub data FirstOutOfRange : List Numeral → ℕ → Type 0 where
  here : {n : Numeral} {ns : List Numeral} → (IsInRange n.1 → ⊥) → FirstOutOfRange (n ∷ ns) n.0
  later : {n : Numeral} {ns : List Numeral} {place : ℕ} → IsInRange n.1 → FirstOutOfRange ns place → FirstOutOfRange (n ∷ ns) place

-- A number constant beyond a limit begins here. If it has too many elements, the fault is at its first character,
-- and else at its first numeral out of range.
pub record IsNumberBeyondLimit (rest : List ℕ) (place : ℕ) : Type 0 where
  pub text : List ℕ
  pub after : List ℕ
  pub numerals : List Numeral
  pub split : rest ≡ text ++ after
  pub spelled : AreNumerals 0 text numerals
  pub ends : EndsNumerals after
  pub which : ((most_elements < length numerals) × (place ≡ 0)) ⊎ ((length numerals ≤ most_elements) × FirstOutOfRange numerals place)

-- here begins a text constant of too many characters
pub record IsTextBeyondLimit (rest : List ℕ) (place : ℕ) : Type 0 where
  pub characters : List ℕ
  pub after : List ℕ
  pub split : rest ≡ quoted characters ++ after
  pub ends : BeginsWithNo is_quote after
  pub many : most_elements < length characters
  pub first : place ≡ 0

-- here begins a constant beyond a limit, whose fault is at this place of it
abbrev pub IsBeyondLimit : List ℕ → ℕ → Type 0
IsBeyondLimit rest place = IsNumberBeyondLimit rest place ⊎ IsTextBeyondLimit rest place

-- Tokens fit up to this column, which is not the end, and there none fits.
pub record HasLexicalFault (characters : List ℕ) (column : ℕ) : Type 0 where
  pub tokens : List Token
  pub rest : List ℕ
  pub before : LexesUpTo 0 characters tokens column rest
  pub more : IsEnd rest → ⊥
  pub none : BeginsWithNoToken rest
  pub within : (place : ℕ) → IsBeyondLimit rest place → ⊥

-- Tokens fit up to some place, and there begins a constant beyond a limit, whose fault is at this column.
pub record HasLimitFault (characters : List ℕ) (column : ℕ) : Type 0 where
  pub tokens : List Token
  pub rest : List ℕ
  pub start : ℕ
  pub place : ℕ
  pub before : LexesUpTo 0 characters tokens start rest
  pub beyond : IsBeyondLimit rest place
  pub is : column ≡ start + place

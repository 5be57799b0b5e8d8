-- What the lexer's own functions say of the front of a text. No contract of a public function cites this file.
use Rattle.std.specs.Prelude.{◌≡◌, ◌⊎◌, ◌+◌, ◌<◌, ◌≤◌, ℕ, ℤ, Bool, IsTrue, List, [], ◌∷◌, ◌++◌, Option, Some, None, IfSome, length, take, drop, map, slice_index, encode_utf8, encode_utf8_all}
use Rattle.apl_array.specs.Range.{IsInRange}
use Rattle.apl_tokens.specs.declared.token.TokenKind.{TokenKind}
use Rattle.apl_tokens.specs.declared.lexer.CharacterClass.{CharacterClass}
use Rattle.apl_tokens.specs.declared.lexer.CharacterClass.TheVariants as class
use Rattle.apl_tokens.specs.declared.lexer.NextNumeral.{NextNumeral}
use Rattle.apl_tokens.specs.declared.lexer.LexicalStop.{LexicalStop}
use Rattle.apl_tokens.specs.declared.lexer.LexicalStop.TheVariants as stop
use Rattle.apl_tokens.specs.Symbols.{is_digit, is_name_character, is_blank, quote, is_quote, is_listed}
use Rattle.apl_tokens.specs.Fronts.{AllPass}
use Rattle.apl_tokens.specs.Lexis.{BeginsWithNo, IsNumeral, AreBlanks, HasNoNextNumeral, Numeral, AreNumerals, AreInRange, FirstOutOfRange, doubled, IsToken, BeginsWithNoToken, IsBeyondLimit}

-- a class of characters
abbrev pub is_of_class : CharacterClass → ℕ → Bool
is_of_class class.Blank c = is_blank c
is_of_class class.Digit c = is_digit c
is_of_class class.NamePart c = is_name_character c

-- the text begins with this many bytes, which are this many listed characters, and this is the rest
pub record ListsUpTo (text rest : List ℕ) (bytes count : ℕ) : Type 0 where
  pub characters : List ℕ
  pub listed : AllPass is_listed characters
  pub split : text ≡ encode_utf8_all characters ++ rest
  pub len : bytes ≡ length (encode_utf8_all characters)
  pub counted : count ≡ length characters

-- the text ends, or goes on with a character that is not listed
abbrev pub EndsOrUnlisted : List ℕ → Type 0
EndsOrUnlisted rest = (rest ≡ []) ⊎ ((c : ℕ) × (after : List ℕ) × (rest ≡ encode_utf8 c ++ after) × (IsTrue (is_listed c) → ⊥))

-- no numeral begins the text
abbrev pub HasNoNumeral : List ℕ → Type 0
HasNoNumeral text = (numeral after : List ℕ) (z : ℤ) → text ≡ numeral ++ after → IsNumeral numeral z → ⊥

-- the number if it is in range, and nothing if it is not
abbrev pub IsCheckedNumber : ℤ → Option ℤ → Type 0
IsCheckedNumber z None = IsInRange z → ⊥
IsCheckedNumber z (Some v) = (v ≡ z) × IsInRange z

-- the longest numeral at the front of a text has this length and number
pub record IsNumeralAt (text : List ℕ) (len : ℕ) (number : Option ℤ) : Type 0 where
  pub within : len ≤ length text
  pub z : ℤ
  pub is : IsNumeral (take len text) z
  pub longest : BeginsWithNo is_digit (drop len text)
  pub checked : IsCheckedNumber z number

-- after this many blanks is a numeral of this length and number
pub record IsNextNumeralAt (text : List ℕ) (gap len : ℕ) (number : Option ℤ) : Type 0 where
  pub within : gap ≤ length text
  pub blank : AreBlanks (take gap text)
  pub numeral : IsNumeralAt (drop gap text) len number

-- the numbers of numerals, or the place of the first one out of range
abbrev pub AreCheckedNumbers : List Numeral → Option ℕ → List ℤ → Type 0
AreCheckedNumbers numerals None values = AreInRange numerals × (values ≡ map (λ n. n.1) numerals)
AreCheckedNumbers numerals (Some place) values = FirstOutOfRange numerals place

-- the numerals at the front of a text, up to this length
pub record IsNumeralRow (text : List ℕ) (len count : ℕ) (beyond : Option ℕ) (values : List ℤ) : Type 0 where
  pub within : len ≤ length text
  pub numerals : List Numeral
  pub spelled : AreNumerals 0 (take len text) numerals
  pub digits : BeginsWithNo is_digit (drop len text)
  pub counted : count ≡ length numerals
  pub few : count ≤ len
  pub checked : AreCheckedNumbers numerals beyond values
  pub inside : IfSome beyond (λ place. place ≤ len)

-- whether one more numeral follows a row of this many; a row has several
abbrev pub GoesOn : ℕ → List ℕ → Option NextNumeral → Type 0
GoesOn count rest None = HasNoNextNumeral rest × (1 < count)
GoesOn count rest (Some next) = IsNextNumeralAt rest next.gap next.numeral.length next.numeral.number × (0 < count)

-- one more numeral
abbrev pub with_number : List ℤ → Option ℕ → ℕ → Option ℤ → List ℤ × Option ℕ
with_number values (Some first) place number = (values, Some first)
with_number values None place None = (values, Some place)
with_number values None place (Some z) = (values ++ z ∷ [], None)

-- this many symbols spell the first character after an opening quote
pub record IsSpelling (text : List ℕ) (n : ℕ) : Type 0 where
  pub within : n ≤ length text
  pub some : 0 < n
  pub is : take n text ≡ doubled (slice_index text 0 ∷ [])

-- the first quote after an opening quote closes
abbrev pub BeginsWithClosingQuote : List ℕ → Type 0
BeginsWithClosingQuote [] = ⊥
BeginsWithClosingQuote (c ∷ cs) = (c ≡ quote) × BeginsWithNo is_quote cs

-- a text constant of these characters has this length after its opening quote
pub record IsQuotation (text characters : List ℕ) (len : ℕ) : Type 0 where
  pub within : len ≤ length text
  pub spelled : take len text ≡ doubled characters ++ quote ∷ []
  pub ends : BeginsWithNo is_quote (drop len text)

-- no text constant after this opening quote is closed
abbrev pub HasNoQuotation : List ℕ → Type 0
HasNoQuotation text = (characters after : List ℕ) → BeginsWithNo is_quote after → text ≡ doubled characters ++ (quote ∷ after) → ⊥

abbrev pub BeginsWithQuote : List ℕ → Type 0
BeginsWithQuote [] = ⊥
BeginsWithQuote (c ∷ cs) = c ≡ quote

-- a token of this length is at the front of the text
pub record IsTokenAt (text : List ℕ) (len : ℕ) (kind : TokenKind) : Type 0 where
  pub within : len ≤ length text
  pub some : 0 < len
  pub is : IsToken (take len text) (drop len text) kind

-- no token is at the front of the text, which begins at this column
abbrev pub IsStopAt : List ℕ → ℕ → LexicalStop → Type 0
IsStopAt text column (stop.Syntax c) = (c ≡ column) × BeginsWithNoToken text × ((place : ℕ) → IsBeyondLimit text place → ⊥)
IsStopAt text column (stop.Limit c) = (place : ℕ) × IsBeyondLimit text place × (c ≡ column + place)
IsStopAt text column stop.Memory = Unit {0}

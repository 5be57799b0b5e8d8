-- The listed symbols, and the tokens of one symbol.
use Rattle.std.specs.Prelude.{◌==◌, ◌||◌, ◌&&◌, nat_le, ℕ, Bool, List, [], ◌∷◌, ◌++◌, map, Option, Some, None, if◌then◌else◌}
use Rattle.std.specs.List.{list_any}
use Rattle.apl_array.specs.declared.function.ScalarFunction.{ScalarFunction}
use Rattle.apl_array.specs.declared.function.ScalarFunction.TheVariants.{Plus, Minus, Times, Divide, Stile, Star, Bang, Floor, Ceiling, And, Or, Nand, Nor, Less, LessOrEqual, Equal, GreaterOrEqual, Greater, NotEqual, Tilde}
use Rattle.apl_tokens.specs.declared.token.Glyph.{Glyph}
use Rattle.apl_tokens.specs.declared.token.Glyph.TheVariants.{Scalar, Rho, Comma, Iota, Epsilon, UpArrow, DownArrow, CircleStile, CircleBar, Transpose, GradeUp, GradeDown, Slash, SlashBar, Backslash, BackslashBar, UpTack, DownTack}
use Rattle.apl_tokens.specs.declared.token.TokenKind.{TokenKind}
use Rattle.apl_tokens.specs.declared.token.TokenKind.TheVariants.{Function, Dot, Jot, Arrow, OpenParen, CloseParen, OpenBracket, CloseBracket, Semicolon}

-- 0 to 9
abbrev pub is_digit : ℕ → Bool
is_digit c = nat_le 48 c && nat_le c 57

-- A to Z, a to z, ∆ and ⍙
abbrev pub is_letter : ℕ → Bool
is_letter c = (nat_le 65 c && nat_le c 90) || ((nat_le 97 c && nat_le c 122) || ((c == 0x2206) || (c == 0x2359)))

-- `_`
abbrev pub low_line : ℕ
low_line = 95

-- what a name can have after its first letter
abbrev pub is_name_character : ℕ → Bool
is_name_character c = is_letter c || (is_digit c || (c == low_line))

-- the blank
abbrev pub is_blank : ℕ → Bool
is_blank c = c == 32

-- `¯`
abbrev pub high_minus : ℕ
high_minus = 0xAF

-- `'`
abbrev pub quote : ℕ
quote = 39

-- the quote
abbrev pub is_quote : ℕ → Bool
is_quote c = c == quote

-- ⍝
abbrev pub comment_mark : ℕ
comment_mark = 0x235D

-- the character of a scalar function
abbrev pub scalar_character : ScalarFunction → ℕ
scalar_character Plus = 43  -- +
scalar_character Minus = 45  -- -
scalar_character Times = 0xD7  -- ×
scalar_character Divide = 0xF7  -- ÷
scalar_character Stile = 124  -- |
scalar_character Star = 42  -- *
scalar_character Bang = 33  -- !
scalar_character Floor = 0x230A  -- ⌊
scalar_character Ceiling = 0x2308  -- ⌈
scalar_character And = 0x2227  -- ∧
scalar_character Or = 0x2228  -- ∨
scalar_character Nand = 0x2372  -- ⍲
scalar_character Nor = 0x2371  -- ⍱
scalar_character Less = 60  -- <
scalar_character LessOrEqual = 0x2264  -- ≤
scalar_character Equal = 61  -- =
scalar_character GreaterOrEqual = 0x2265  -- ≥
scalar_character Greater = 62  -- >
scalar_character NotEqual = 0x2260  -- ≠
scalar_character Tilde = 126  -- ~

-- these names as a list, and so below: the token of a character is looked up among all
abbrev pub scalar_functions : List ScalarFunction
scalar_functions =
    Plus ∷ Minus ∷ Times ∷ Divide ∷ Stile ∷ Star ∷ Bang ∷ Floor ∷ Ceiling ∷ And
    ∷ Or ∷ Nand ∷ Nor ∷ Less ∷ LessOrEqual ∷ Equal ∷ GreaterOrEqual ∷ Greater ∷ NotEqual ∷ Tilde ∷ []

-- the character of a function symbol
abbrev pub glyph_character : Glyph → ℕ
glyph_character (Scalar f) = scalar_character f
glyph_character Rho = 0x2374  -- ⍴
glyph_character Comma = 44  -- ,
glyph_character Iota = 0x2373  -- ⍳
glyph_character Epsilon = 0x220A  -- ∊
glyph_character UpArrow = 0x2191  -- ↑
glyph_character DownArrow = 0x2193  -- ↓
glyph_character CircleStile = 0x233D  -- ⌽
glyph_character CircleBar = 0x2296  -- ⊖
glyph_character Transpose = 0x2349  -- ⍉
glyph_character GradeUp = 0x234B  -- ⍋
glyph_character GradeDown = 0x2352  -- ⍒
glyph_character Slash = 47  -- /
glyph_character SlashBar = 0x233F  -- ⌿
glyph_character Backslash = 92  -- \
glyph_character BackslashBar = 0x2340  -- ⍀
glyph_character UpTack = 0x22A5  -- ⊥
glyph_character DownTack = 0x22A4  -- ⊤

-- all function symbols
abbrev pub glyphs : List Glyph
glyphs =
    map Scalar scalar_functions
    ++ (Rho ∷ Comma ∷ Iota ∷ Epsilon ∷ UpArrow ∷ DownArrow ∷ CircleStile ∷ CircleBar ∷ Transpose
    ∷ GradeUp ∷ GradeDown ∷ Slash ∷ SlashBar ∷ Backslash ∷ BackslashBar ∷ UpTack ∷ DownTack ∷ [])

-- the character of a token that is one symbol
abbrev pub character_of : TokenKind → Option ℕ
character_of (Function glyph) = Some (glyph_character glyph)
character_of Dot = Some 46
character_of Jot = Some 0x2218
character_of Arrow = Some 0x2190
character_of OpenParen = Some 40
character_of CloseParen = Some 41
character_of OpenBracket = Some 91
character_of CloseBracket = Some 93
character_of Semicolon = Some 59
character_of _ = None

-- all tokens of one symbol
abbrev pub symbol_kinds : List TokenKind
symbol_kinds = map Function glyphs ++ (Dot ∷ Jot ∷ Arrow ∷ OpenParen ∷ CloseParen ∷ OpenBracket ∷ CloseBracket ∷ Semicolon ∷ [])

-- the token if the character is its own, else the other
abbrev pub kind_or : Option ℕ → TokenKind → Option TokenKind → ℕ → Option TokenKind
kind_or (Some character) kind other c = if c == character then Some kind else other
kind_or None kind other c = other

-- the first of these tokens whose character it is
abbrev pub kind_in : List TokenKind → ℕ → Option TokenKind
kind_in [] c = None
kind_in (kind ∷ kinds) c = kind_or (character_of kind) kind (kind_in kinds c) c

-- the token that a character is by itself
abbrev pub symbol_kind : ℕ → Option TokenKind
symbol_kind c = kind_in symbol_kinds c

-- the listed symbols that are not ASCII: ¯ × ÷ ← ↑ ↓ ∆ ∊ ∘ ∧ ∨ ≠ ≤ ≥ ⊖ ⊤ ⊥ ⌈ ⌊ ⌽ ⌿ ⍀ ⍉ ⍋ ⍒ ⍙ ⍝ ⍱ ⍲ ⍳ ⍴
abbrev pub non_ascii_symbols : List ℕ
non_ascii_symbols =
    0xAF ∷ 0xD7 ∷ 0xF7 ∷ 0x2190 ∷ 0x2191 ∷ 0x2193 ∷ 0x2206 ∷ 0x220A
    ∷ 0x2218 ∷ 0x2227 ∷ 0x2228 ∷ 0x2260 ∷ 0x2264 ∷ 0x2265 ∷ 0x2296 ∷ 0x22A4
    ∷ 0x22A5 ∷ 0x2308 ∷ 0x230A ∷ 0x233D ∷ 0x233F ∷ 0x2340 ∷ 0x2349 ∷ 0x234B
    ∷ 0x2352 ∷ 0x2359 ∷ 0x235D ∷ 0x2371 ∷ 0x2372 ∷ 0x2373 ∷ 0x2374 ∷ []

-- the listed symbols of ASCII: from the blank to the tilde
abbrev pub is_listed_ascii : ℕ → Bool
is_listed_ascii c = nat_le 32 c && nat_le c 126

-- a character that a line may have
abbrev pub is_listed : ℕ → Bool
is_listed c = is_listed_ascii c || list_any (λ symbol. symbol == c) non_ascii_symbols

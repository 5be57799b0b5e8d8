-- Worked examples of symbols, numerals, quotes and tokens.
use Rattle.std.proofs.Common.{◌≡◌, ℤ, pos, negsuc, true, false, Some, None, [], ◌∷◌, ◌++◌, codes, inr, refl, lit≤}
use Rattle.apl_array.specs.declared.function.ScalarFunction.TheVariants.{Plus, Times, And}
use Rattle.apl_array.specs.Array.{character_array}
use Rattle.apl_tokens.specs.declared.token.Token.{Token}
use Rattle.apl_tokens.specs.declared.token.Glyph.TheVariants.{Scalar, Rho, SlashBar}
use Rattle.apl_tokens.specs.declared.token.TokenKind.TheVariants.{Constant, Name, Function, Arrow, Jot}
use Rattle.apl_tokens.specs.Symbols.{is_letter, is_name_character, is_listed, symbol_kind}
use Rattle.apl_tokens.specs.Lexis.{number_of_digits, negated, constant_shape, quoted, Lexes}

-- ---- symbols

-- ×
times_is_a_function : symbol_kind 0xD7 ≡ Some (Function (Scalar Times))
times_is_a_function = refl

-- ∧
caret_is_and : symbol_kind 0x2227 ≡ Some (Function (Scalar And))
caret_is_and = refl

-- ⍴
rho_is_a_function : symbol_kind 0x2374 ≡ Some (Function Rho)
rho_is_a_function = refl

-- ⌿
slash_bar_is_a_function : symbol_kind 0x233F ≡ Some (Function SlashBar)
slash_bar_is_a_function = refl

-- ←
arrow : symbol_kind 0x2190 ≡ Some Arrow
arrow = refl

-- ∘
jot : symbol_kind 0x2218 ≡ Some Jot
jot = refl

-- @ is listed, and no token
at_sign_is_listed : is_listed 64 ≡ true
at_sign_is_listed = refl

at_sign_is_no_token : symbol_kind 64 ≡ None
at_sign_is_no_token = refl

-- é is not listed, and the tab is not
accent_is_not_listed : is_listed 0xE9 ≡ false
accent_is_not_listed = refl

tab_is_not_listed : is_listed 9 ≡ false
tab_is_not_listed = refl

-- ∆
delta_is_a_letter : is_letter 0x2206 ≡ true
delta_is_a_letter = refl

digit_is_no_letter : is_letter 55 ≡ false
digit_is_no_letter = refl

digit_is_in_names : is_name_character 55 ≡ true
digit_is_in_names = refl

low_line_is_in_names : is_name_character 95 ≡ true
low_line_is_in_names = refl

-- ---- numerals and quotes

leading_zeros_count_nothing : number_of_digits (codes "007") ≡ 7
leading_zeros_count_nothing = refl

greatest_numeral : number_of_digits (codes "9223372036854775807") ≡ 9223372036854775807
greatest_numeral = refl

minus_zero_is_zero : negated 0 ≡ pos 0
minus_zero_is_zero = refl

minus_twenty : negated 20 ≡ negsuc 19
minus_twenty = refl

one_number_is_a_scalar : constant_shape (pos 7 ∷ []) ≡ []
one_number_is_a_scalar = refl

two_numbers_are_a_vector : constant_shape (pos 7 ∷ pos 8 ∷ []) ≡ 2 ∷ []
two_numbers_are_a_vector = refl

no_character_is_an_empty_vector : constant_shape {A = ℤ} [] ≡ 0 ∷ []
no_character_is_an_empty_vector = refl

-- IT'S, and one quote
quote_is_doubled : quoted (codes "IT'S") ≡ codes "'IT''S'"
quote_is_doubled = refl

one_quote : quoted (codes "'") ≡ codes "''''"
one_quote = refl

-- ---- tokens with their columns

abbrev name_B : Token
name_B = record { kind = Name (codes "B"); column = 3 }

abbrev name_A1 : Token
name_A1 = record { kind = Name (codes "A1"); column = 0 }

abbrev plus : Token
plus = record { kind = Function (Scalar Plus); column = 2 }

-- A1+B ⍝C: a name is as long as it can be, and a comment is the end
names_and_a_comment : Lexes (codes "A1+B " ++ 0x235D ∷ codes "C") (name_A1 ∷ plus ∷ name_B ∷ [])
unfolding lib.Utf8.encode
names_and_a_comment = (
  5,
  0x235D ∷ codes "C",
  (
    [],
    codes "A1",
    codes "+B " ++ 0x235D ∷ codes "C",
    refl,
    tt,
    refl,
    record { first = 65; others = codes "1"; split = refl; letter = refl; characters = (refl, tt); longest = refl; is = refl },
    (
      [],
      codes "+",
      codes "B " ++ 0x235D ∷ codes "C",
      refl,
      tt,
      refl,
      record { character = 43; split = refl; is = refl },
      (
        [],
        codes "B",
        codes " " ++ 0x235D ∷ codes "C",
        refl,
        tt,
        refl,
        record { first = 66; others = []; split = refl; letter = refl; characters = tt; longest = refl; is = refl },
        (codes " ", refl, (refl, tt), refl, refl),
      ),
    ),
  ),
  refl,
)

-- 'IT''S': one token, of four characters
text : Lexes (codes "'IT''S'") (record { kind = Constant (character_array (4 ∷ []) (codes "IT'S")); column = 0 } ∷ [])
text = (
  7,
  [],
  (
    [],
    codes "'IT''S'",
    [],
    refl,
    tt,
    refl,
    inr (record { characters = codes "IT'S"; spelled = refl; ends = tt; few = lit≤ tt; is = refl }),
    ([], refl, tt, tt, refl),
  ),
  tt,
)

-- no character at all
nothing : Lexes [] []
nothing = (0, [], ([], refl, tt, tt, refl), tt)

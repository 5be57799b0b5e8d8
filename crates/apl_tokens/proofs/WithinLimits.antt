-- The constants of lexed tokens are within all limits.
use Rattle.std.proofs.Common.{◌≡◌, ◌≤◌, ◌∷◌, [], ◌+◌, ◌∙◌, List, length, map, ℕ, refl, sym, subst, inl, inr, arith}
use Rattle.std.specs.Prelude.{All}
use Rattle.std.proofs.lemmas.List.{length-map}
use Rattle.std.proofs.lemmas.List.Elements.{All-nil, All-cons}
use Rattle.apl_array.specs.declared.array.Elem.TheVariants.{Int, Chr}
use Rattle.apl_array.specs.Shape.{IsShape, most_elements, count_of}
use Rattle.apl_array.specs.Array.{ArrayValue, number_array, character_array}
use Rattle.apl_array.specs.Range.{IsElementInRange}
use Rattle.apl_array.specs.Limits.{IsWithinLimits}
use Rattle.apl_tokens.specs.declared.token.Token.{Token}
use Rattle.apl_tokens.specs.declared.token.TokenKind.{TokenKind}
use Rattle.apl_tokens.specs.declared.token.TokenKind.TheVariants as kind
use Rattle.apl_tokens.specs.Lexis.{Numeral, AreInRange, constant_shape, IsConstant, IsToken, LexesUpTo, Lexes}
use Rattle.apl_tokens.specs.Constants.{IsKindWithinLimits, HasConstantsWithinLimits}

vector_lawful : (n : ℕ) → n ≤ most_elements → IsShape (n ∷ [])
vector_lawful n most = record {
  rank = omega arith;
  axes = All-cons (λ m. m ≤ most_elements) n [] most (All-nil (λ m. m ≤ most_elements));
  count = omega (arith, most);
}

numbers_in : (ns : List Numeral) → AreInRange ns → All IsElementInRange (map Int (map (λ (n : Numeral). n.1) ns))
numbers_in [] h = All-nil IsElementInRange
numbers_in (n ∷ ns) (first, others) = All-cons IsElementInRange (Int n.1) (map Int (map (λ (n : Numeral). n.1) ns)) first (numbers_in ns others)

characters_in : (characters : List ℕ) → All IsElementInRange (map Chr characters)
characters_in [] = All-nil IsElementInRange
characters_in (c ∷ cs) = All-cons IsElementInRange (Chr c) (map Chr cs) tt (characters_in cs)

constant_shape_lawful : {A : Type 0} (xs : List A) → length xs ≤ most_elements → IsShape (constant_shape xs)
constant_shape_lawful [] few = vector_lawful 0 few
constant_shape_lawful (x ∷ []) few = record { rank = omega arith; axes = All-nil (λ n. n ≤ most_elements); count = omega arith }
constant_shape_lawful (x ∷ y ∷ xs) few = vector_lawful (length (x ∷ y ∷ xs)) few

constant_shape_count : {A : Type 0} (xs : List A) → count_of (constant_shape xs) ≡ length xs
constant_shape_count [] = refl
constant_shape_count (x ∷ []) = refl
constant_shape_count (x ∷ y ∷ xs) = omega arith

number_constant : (ns : List Numeral) → AreInRange ns → length ns ≤ most_elements → IsWithinLimits (number_array (constant_shape ns) (map (λ (n : Numeral). n.1) ns))
number_constant ns range few = record {
  shape = constant_shape_lawful ns few;
  len = length-map (map (λ (n : Numeral). n.1) ns) Int ∙ length-map ns (λ (n : Numeral). n.1) ∙ sym (constant_shape_count ns);
  numbers = numbers_in ns range;
}

text_constant : (characters : List ℕ) → length characters ≤ most_elements → IsWithinLimits (character_array (constant_shape characters) characters)
text_constant characters few = record {
  shape = constant_shape_lawful characters few;
  len = length-map characters Chr ∙ sym (constant_shape_count characters);
  numbers = characters_in characters;
}

constant_in : (text after : List ℕ) (value : ArrayValue) → IsConstant text after value → IsWithinLimits value
constant_in text after value (inl number) = subst IsWithinLimits (sym number.is) (number_constant number.numerals number.in_range number.few)
constant_in text after value (inr quotation) = subst IsWithinLimits (sym quotation.is) (text_constant quotation.characters quotation.few)

token_in : (text after : List ℕ) (l : TokenKind) → IsToken text after l → IsKindWithinLimits l
token_in text after (kind.Constant value) is = constant_in text after value is
token_in text after (kind.Name name) is = tt
token_in text after (kind.Function glyph) is = tt
token_in text after kind.Dot is = tt
token_in text after kind.Jot is = tt
token_in text after kind.Arrow is = tt
token_in text after kind.OpenParen is = tt
token_in text after kind.CloseParen is = tt
token_in text after kind.OpenBracket is = tt
token_in text after kind.CloseBracket is = tt
token_in text after kind.Semicolon is = tt

tokens_in : (c : ℕ) (characters : List ℕ) (ts : List Token) (d : ℕ) (rest : List ℕ) → LexesUpTo c characters ts d rest → HasConstantsWithinLimits ts
tokens_in c characters [] d rest lexed = All-nil (λ (t : Token). IsKindWithinLimits t.kind)
tokens_in c characters (t ∷ ts) d rest (gap, text, after, split, blank, column, is, more) =
    All-cons (λ (t : Token). IsKindWithinLimits t.kind) t ts (token_in text after t.kind is) (tokens_in (t.column + length text) after ts d rest more)

pub lexed_in : (characters : List ℕ) (tokens : List Token) → Lexes characters tokens → HasConstantsWithinLimits tokens
lexed_in characters tokens (d, rest, lexed, end) = tokens_in 0 characters tokens d rest lexed

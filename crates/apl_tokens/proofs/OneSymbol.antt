-- A token of one symbol is found by its character, and no other is.
use Rattle.std.proofs.Common.{◌≡◌, ◌∷◌, [], List, Option, Some, None, refl, ap, sym, ◌∙◌, ℕ, Bool, true, false, eqb→eq}
use Rattle.std.specs.Prelude.{◌==◌, if◌then◌else◌}
use Rattle.std.specs.Bool.{passes}
use Rattle.apl_array.specs.declared.function.ScalarFunction.{ScalarFunction}
use Rattle.apl_array.specs.declared.function.ScalarFunction.TheVariants.{Plus}
use Rattle.apl_tokens.specs.declared.token.Glyph.{Glyph}
use Rattle.apl_tokens.specs.declared.token.Glyph.TheVariants.{Scalar, Rho}
use Rattle.apl_tokens.specs.declared.token.TokenKind.{TokenKind}
use Rattle.apl_tokens.specs.declared.token.TokenKind.TheVariants.{Constant, Name, Function, Dot, Jot, Arrow, OpenParen, CloseParen, OpenBracket, CloseBracket, Semicolon}
use Rattle.apl_tokens.specs.Symbols.{scalar_character, glyph_character, character_of, symbol_kinds, kind_or, kind_in, symbol_kind}

in_kinds : (kinds : List TokenKind) (c : ℕ) (k : TokenKind) → kind_in kinds c ≡ Some k → character_of k ≡ Some c
in_kinds [] c k e = absurd cc
in_kinds (kind ∷ kinds) c k e = by_character (character_of kind) refl (in_kinds kinds c k) e
  where
    by_test : (d : ℕ) (b : Bool) → character_of kind ≡ Some d → (c == d) ≡ b → (kind_in kinds c ≡ Some k → character_of k ≡ Some c) → (if b then Some kind else kind_in kinds c) ≡ Some k → character_of k ≡ Some c
    by_test d true is t below e =
        let same : kind ≡ k = cc in
        ap character_of (sym same) ∙ is ∙ ap Some (sym (eqb→eq c d (passes (c == d) t)))
    by_test d false is t below e = below e

    by_character : (o : Option ℕ) → character_of kind ≡ o → (kind_in kinds c ≡ Some k → character_of k ≡ Some c) → kind_or o kind (kind_in kinds c) c ≡ Some k → character_of k ≡ Some c
    by_character (Some d) is below e = by_test d (c == d) is refl below e
    by_character None is below e = below e

pub character_found : (c : ℕ) (k : TokenKind) → symbol_kind c ≡ Some k → character_of k ≡ Some c
character_found c k e = in_kinds symbol_kinds c k e

scalar_found : (f : ScalarFunction) → symbol_kind (scalar_character f) ≡ Some (Function (Scalar f))
scalar_found Plus = refl
scalar_found _ = refl

function_found : (g : Glyph) → symbol_kind (glyph_character g) ≡ Some (Function g)
function_found (Scalar f) = scalar_found f
function_found Rho = refl
function_found _ = refl

found_at : (k : TokenKind) (d c : ℕ) → symbol_kind d ≡ Some k → ◌≡◌ {A = Option ℕ} (Some d) (Some c) → symbol_kind c ≡ Some k
found_at k d c is e =
    let same : d ≡ c = cc in
    ap symbol_kind (sym same) ∙ is

pub kind_found : (k : TokenKind) (c : ℕ) → character_of k ≡ Some c → symbol_kind c ≡ Some k
kind_found (Constant v) c e = absurd cc
kind_found (Name n) c e = absurd cc
kind_found (Function g) c e = found_at (Function g) (glyph_character g) c (function_found g) e
kind_found Dot c e = found_at Dot 46 c refl e
kind_found Jot c e = found_at Jot 0x2218 c refl e
kind_found Arrow c e = found_at Arrow 0x2190 c refl e
kind_found OpenParen c e = found_at OpenParen 40 c refl e
kind_found CloseParen c e = found_at CloseParen 41 c refl e
kind_found OpenBracket c e = found_at OpenBracket 91 c refl e
kind_found CloseBracket c e = found_at CloseBracket 93 c refl e
kind_found Semicolon c e = found_at Semicolon 59 c refl e

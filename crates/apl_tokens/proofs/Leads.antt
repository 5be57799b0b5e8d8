-- The first character decides what kind of token it begins.
use Rattle.std.proofs.Common.{◌≡◌, ◌++◌, ◌∷◌, [], List, Option, Some, None, refl, sym, ◌∙◌, ap, subst, arith, inl, inr, ◌⊎◌, ℕ, Bool, true, false, eqb→eq}
use Rattle.std.specs.Prelude.{IsTrue, ℤ, ◌==◌, ◌||◌, ◌&&◌, if◌then◌else◌}
use Rattle.std.specs.Bool.{passes}
use Rattle.std.proofs.lemmas.Bool.Decides.{nat_tests}
use Rattle.apl_tokens.specs.declared.token.TokenKind.{TokenKind}
use Rattle.apl_tokens.specs.declared.token.TokenKind.TheVariants.{Constant, Name}
use Rattle.apl_tokens.specs.Symbols.{is_digit, is_letter, is_blank, is_quote, quote, character_of, symbol_kind, symbol_kinds, kind_in, kind_or}
use Rattle.apl_tokens.proofs.OneSymbol.{kind_found}
use Rattle.apl_tokens.specs.Lexis.{BeginsWithNo, IsNumeral, plain, negative, Numeral, AreNumerals, IsSymbol, IsToken, IsEnd, BeginsWithNoToken, IsBeyondLimit}

pub data Lead : Type 0 where
  letter : Lead
  figure : Lead
  quotation : Lead
  sign : Lead
  nothing : Lead

abbrev pub lead_by : Bool → Bool → Bool → Option TokenKind → Lead
lead_by true d q k = letter
lead_by false true q k = figure
lead_by false false true k = quotation
lead_by false false false (Some k) = sign
lead_by false false false None = nothing

abbrev pub lead : ℕ → Lead
lead c = lead_by (is_letter c) (is_digit c || (c == 175)) (is_quote c) (symbol_kind c)

digit_lead : (c : ℕ) → IsTrue (is_digit c) → lead c ≡ figure
digit_lead c h =
    let no_letter : is_letter c ≡ false = grind (arith, nat_tests, h) in
    rw (no_letter, h) refl

abbrev is_sign : Lead → Bool
is_sign sign = true
is_sign l = false

sign_from : (l : Lead) → is_sign l ≡ true → l ≡ sign
sign_from letter e = absurd cc
sign_from figure e = absurd cc
sign_from quotation e = absurd cc
sign_from sign e = refl
sign_from nothing e = absurd cc

abbrev is_symbol : TokenKind → Bool
is_symbol (Constant v) = false
is_symbol (Name n) = false
is_symbol k = true

abbrev has_sign : Option ℕ → Bool
has_sign (Some c) = is_sign (lead c)
has_sign None = true

-- each is a symbol, whose character is a sign
abbrev are_signs : List TokenKind → Bool
are_signs [] = true
are_signs (kind ∷ kinds) = has_sign (character_of kind) && (is_symbol kind && are_signs kinds)

pub both : (a b : Bool) → (a && b) ≡ true → (a ≡ true) × (b ≡ true)
both true b e = (refl, e)
both false b e = absurd cc

signs_lead : (kinds : List TokenKind) (c : ℕ) (k : TokenKind) → are_signs kinds ≡ true → kind_in kinds c ≡ Some k → (lead c ≡ sign) × (is_symbol k ≡ true)
signs_lead [] c k h e = absurd cc
signs_lead (kind ∷ kinds) c k h e =
    let (first, rest) = both (has_sign (character_of kind)) (is_symbol kind && are_signs kinds) h in
    let (second, others) = both (is_symbol kind) (are_signs kinds) rest in
    by_character (character_of kind) first second (signs_lead kinds c k others) e
  where
    by_test : (d : ℕ) (b : Bool) → (c == d) ≡ b → is_sign (lead d) ≡ true → is_symbol kind ≡ true → (kind_in kinds c ≡ Some k → (lead c ≡ sign) × (is_symbol k ≡ true)) → (if b then Some kind else kind_in kinds c) ≡ Some k → (lead c ≡ sign) × (is_symbol k ≡ true)
    by_test d true t first second below e =
        let same : kind ≡ k = cc in
        (ap lead (eqb→eq c d (passes (c == d) t)) ∙ sign_from (lead d) first, ap is_symbol (sym same) ∙ second)
    by_test d false t first second below e = below e

    by_character : (o : Option ℕ) → has_sign o ≡ true → is_symbol kind ≡ true → (kind_in kinds c ≡ Some k → (lead c ≡ sign) × (is_symbol k ≡ true)) → kind_or o kind (kind_in kinds c) c ≡ Some k → (lead c ≡ sign) × (is_symbol k ≡ true)
    by_character (Some d) first second below e = by_test d (c == d) refl first second below e
    by_character None first second below e = below e

pub sign_of : (c : ℕ) (k : TokenKind) → symbol_kind c ≡ Some k → (lead c ≡ sign) × (is_symbol k ≡ true)
sign_of c k e = signs_lead symbol_kinds c k refl e

pub symbol_is_token : (text after : List ℕ) (k : TokenKind) → is_symbol k ≡ true → IsSymbol text k → IsToken text after k
symbol_is_token text after (Constant v) symbol h = absurd cc
symbol_is_token text after (Name n) symbol h = absurd cc
symbol_is_token text after k symbol h = h

-- a token's lead
abbrev pub lead_of : (text after : List ℕ) (k : TokenKind) → IsToken text after k → Lead
lead_of text after (Constant v) (inl h) = figure
lead_of text after (Constant v) (inr h) = quotation
lead_of text after (Name n) h = letter
lead_of text after k h = sign

pub record Begins (text : List ℕ) (l : Lead) : Type 0 where
  pub head : ℕ
  pub tail : List ℕ
  pub split : text ≡ head ∷ tail
  pub is : lead head ≡ l

numeral_begins_so : (t : List ℕ) (z : ℤ) → IsNumeral t z → Begins t figure
numeral_begins_so t z (plain [] h) = absurd h
numeral_begins_so t z (plain (d ∷ ds) h) = record { head = d; tail = ds; split = refl; is = digit_lead d h.0 }
numeral_begins_so t z (negative ds h) = record { head = 175; tail = ds; split = refl; is = refl }

begins_more : (t u a : List ℕ) (l : Lead) → t ≡ u ++ a → Begins u l → Begins t l
begins_more t u a l e h = record { head = h.head; tail = h.tail ++ a; split = e ∙ ap (λ x. x ++ a) h.split; is = h.is }

pub numerals_begin : (p : ℕ) (t : List ℕ) (ns : List Numeral) → AreNumerals p t ns → Begins t figure
numerals_begin p t [] h = absurd h
numerals_begin p t (n ∷ []) h = numeral_begins_so t n.1 h.0
numerals_begin p t (n ∷ m ∷ ns) (f, g, r, split, is, place, blank, more) = begins_more t f (g ++ r) figure split (numeral_begins_so f n.1 is)

pub quote_begins : (t tail : List ℕ) → t ≡ quote ∷ tail → Begins t quotation
quote_begins t tail e = record { head = quote; tail = tail; split = e; is = refl }

symbol_begins : (text : List ℕ) (k : TokenKind) → IsSymbol text k → Begins text sign
symbol_begins text k s = record { head = s.character; tail = []; split = s.split; is = (sign_of s.character k (kind_found k s.character s.is)).0 }

pub token_begins : (text after : List ℕ) (k : TokenKind) → (h : IsToken text after k) → Begins text (lead_of text after k h)
token_begins text after (Constant v) (inl h) = numerals_begin 0 text h.numerals h.spelled
token_begins text after (Constant v) (inr h) = record { head = quote; tail = _; split = h.spelled; is = refl }
token_begins text after (Name n) h = record { head = h.first; tail = h.others; split = h.split; is = rw h.letter refl }
token_begins text after k h = symbol_begins text k h

-- a token that a sign leads is a symbol
pub is_by_sign : (text after : List ℕ) (k : TokenKind) → (h : IsToken text after k) → lead_of text after k h ≡ sign → IsSymbol text k
is_by_sign text after (Constant v) (inl h) l = absurd cc
is_by_sign text after (Constant v) (inr h) l = absurd cc
is_by_sign text after (Name n) h l = absurd cc
is_by_sign text after k h l = h

-- texts that begin so differ in their first characters' leads, or have one
pub one_lead : (x y a b : List ℕ) (l m : Lead) → Begins x l → Begins y m → x ++ a ≡ y ++ b → l ≡ m
one_lead x y a b l m h i e =
    let whole : h.head ∷ (h.tail ++ a) ≡ i.head ∷ (i.tail ++ b) = ap (λ t. t ++ a) (sym h.split) ∙ e ∙ ap (λ t. t ++ b) i.split in
    let heads : h.head ≡ i.head = cc in
    sym h.is ∙ ap lead heads ∙ i.is

pub some_lead : (text after : List ℕ) (k : TokenKind) → (h : IsToken text after k) → nothing ≡ lead_of text after k h → ⊥
some_lead text after (Constant v) (inl h) l = absurd cc
some_lead text after (Constant v) (inr h) l = absurd cc
some_lead text after (Name n) h l = absurd cc
some_lead text after k h l = absurd cc

pub begins_no_blank : (x a y : List ℕ) (k : TokenKind) → (h : IsToken x a k) → BeginsWithNo is_blank (x ++ y)
begins_no_blank x a y k h =
    let b = token_begins x a k h in
    subst (λ (t : List ℕ). BeginsWithNo is_blank (t ++ y)) (sym b.split) (by_test b.head (is_blank b.head) refl b.is)
  where
    by_test : (c : ℕ) → (t : Bool) → is_blank c ≡ t → lead c ≡ lead_of x a k h → is_blank c ≡ false
    by_test c false e l = e
    by_test c true e l = absurd (some_lead x a k h (ap lead (sym (eqb→eq c 32 (passes (is_blank c) e))) ∙ l))

-- no token begins where the line ends
pub no_token_at_end : (r : List ℕ) → IsEnd r → BeginsWithNoToken r
no_token_at_end [] end x a k e is =
    let begins = token_begins x a k is in
    let none : [] ≡ begins.head ∷ (begins.tail ++ a) = e ∙ ap (λ t. t ++ a) begins.split in
    absurd cc
no_token_at_end (c ∷ cs) end x a k e is =
    let begins = token_begins x a k is in
    let whole : c ∷ cs ≡ begins.head ∷ (begins.tail ++ a) = e ∙ ap (λ t. t ++ a) begins.split in
    let head : c ≡ begins.head = cc in
    some_lead x a k is (sym (ap lead end) ∙ ap lead head ∙ begins.is)

-- a constant beyond a limit begins so
pub beyond_begins : (r : List ℕ) (place : ℕ) → IsBeyondLimit r place → Begins r figure ⊎ Begins r quotation
beyond_begins r place (inl b) = inl (begins_more r b.text b.after figure b.split (numerals_begin 0 b.text b.numerals b.spelled))
beyond_begins r place (inr b) = inr (quote_begins r _ b.split)

pub no_limit_at_end : (r : List ℕ) (place : ℕ) → IsEnd r → IsBeyondLimit r place → ⊥
no_limit_at_end r place end b = by_lead (beyond_begins r place b)
  where
    at : (r : List ℕ) (l : Lead) → IsEnd r → Begins r l → nothing ≡ l
    at [] l end h = let bad : [] ≡ h.head ∷ h.tail = h.split in absurd cc
    at (c ∷ cs) l end h =
        let head : c ≡ h.head = cc in
        sym (ap lead end) ∙ ap lead head ∙ h.is

    by_lead : Begins r figure ⊎ Begins r quotation → ⊥
    by_lead (inl h) = let bad : nothing ≡ figure = at r figure end h in absurd cc
    by_lead (inr h) = let bad : nothing ≡ quotation = at r quotation end h in absurd cc

-- Characters have one list of tokens, or one fault.
use Rattle.std.proofs.Common.{◌≡◌, ◌++◌, ◌∷◌, [], List, Option, Some, refl, sym, ◌∙◌, ap, subst, arith, inl, inr, ◌⊎◌, length, ◌+◌, ◌<◌, ◌≤◌, ℕ, Bool, true, false, append_assoc, eqb→eq}
use Rattle.std.specs.Prelude.{IsTrue, ℤ, pos, map, encode_utf8_all}
use Rattle.std.specs.Bool.{passes}
use Rattle.apl_array.specs.Array.{ArrayValue, number_array, character_array}
use Rattle.apl_tokens.specs.declared.token.Token.{Token}
use Rattle.apl_tokens.specs.declared.token.TokenKind.{TokenKind}
use Rattle.apl_tokens.specs.declared.token.TokenKind.TheVariants.{Constant, Name}
use Rattle.apl_tokens.specs.Symbols.{is_digit, is_letter, is_name_character, is_blank, quote, is_quote, symbol_kind}
use Rattle.apl_tokens.proofs.OneSymbol.{kind_found}
use Rattle.apl_tokens.specs.Fronts.{AllPass}
use Rattle.apl_array.specs.Shape.{most_elements}
use Rattle.apl_tokens.specs.Lexis.{BeginsWithNo, number_of_digits, AreDigits, IsNumeral, plain, negative, negated, AreBlanks, Numeral, AreNumerals, EndsNumerals, HasNoNextNumeral, AreInRange, constant_shape, IsNumberConstant, doubled, quoted, IsTextConstant, IsName, IsSymbol, IsToken, LexesUpTo, IsEnd, Lexes, BeginsWithNoToken, FirstOutOfRange, here, later, IsNumberBeyondLimit, IsTextBeyondLimit, IsBeyondLimit, HasLexicalFault, HasLimitFault}
use Rattle.apl_tokens.proofs.Runs.{numeral_begins, all_blanks}
use Rattle.apl_tokens.proofs.Quotes.{one_doubled}
use Rattle.apl_tokens.proofs.Leads.{Lead, letter, figure, quotation, sign, Begins, lead_of, is_by_sign, numerals_begin, quote_begins, token_begins, one_lead, begins_no_blank, no_token_at_end, no_limit_at_end}

-- the longest front of a class is one
pub longest : (p : ℕ → Bool) (a b r q : List ℕ) → AllPass p a → AllPass p b → BeginsWithNo p r → BeginsWithNo p q → a ++ r ≡ b ++ q → (a ≡ b) × (r ≡ q)
longest p [] [] r q ha hb hr hq e = (refl, e)
longest p [] (c ∷ b) r q ha hb hr hq e =
    let bad : BeginsWithNo p (c ∷ (b ++ q)) = subst (BeginsWithNo p) e hr in
    let good : p c ≡ true = hb.0 in
    let worse : p c ≡ false = bad in
    absurd cc
longest p (c ∷ a) [] r q ha hb hr hq e =
    let bad : BeginsWithNo p (c ∷ (a ++ r)) = subst (BeginsWithNo p) (sym e) hq in
    let good : p c ≡ true = ha.0 in
    let worse : p c ≡ false = bad in
    absurd cc
longest p (c ∷ a) (d ∷ b) r q ha hb hr hq e =
    let rest = longest p a b r q ha.1 hb.1 hr hq cc in
    let heads : c ≡ d = cc in
    let fronts : a ≡ b = rest.0 in
    (cc, rest.1)

digits_pass : (ds : List ℕ) → AreDigits ds → AllPass is_digit ds
digits_pass [] h = tt
digits_pass (d ∷ ds) h = h

no_sign : (ds es r q : List ℕ) → AreDigits ds → ds ++ r ≡ 175 ∷ (es ++ q) → ⊥
no_sign [] es r q h e = h
no_sign (d ∷ ds) es r q h e =
    let sign : 175 ≡ d = cc in
    let digit : is_digit 175 ≡ true = ap is_digit sign ∙ h.0 in
    absurd cc

one_numeral : (t u r q : List ℕ) (z w : ℤ) → IsNumeral t z → IsNumeral u w → BeginsWithNo is_digit r → BeginsWithNo is_digit q → t ++ r ≡ u ++ q → (t ≡ u) × (z ≡ w) × (r ≡ q)
one_numeral t u r q z w (plain ds h) (plain es k) hr hq e =
    let same = longest is_digit ds es r q (digits_pass ds h) (digits_pass es k) hr hq e in
    (same.0, ap (λ x. pos (number_of_digits x)) same.0, same.1)
one_numeral t u r q z w (plain ds h) (negative es k) hr hq e = absurd (no_sign ds es r q h e)
one_numeral t u r q z w (negative ds h) (plain es k) hr hq e = absurd (no_sign es ds q r k (sym e))
one_numeral t u r q z w (negative ds h) (negative es k) hr hq e =
    let tails : ds ++ r ≡ es ++ q = cc in
    let same = longest is_digit ds es r q (digits_pass ds h) (digits_pass es k) hr hq tails in
    (ap (λ x. 175 ∷ x) same.0, ap (λ x. negated (number_of_digits x)) same.0, same.1)

blanks_no_digit : (gap r : List ℕ) → AreBlanks gap → BeginsWithNo is_digit (gap ++ r)
blanks_no_digit [] r h = absurd h
blanks_no_digit (b ∷ gap) r h =
    let is : b ≡ 32 = eqb→eq b 32 (passes (is_blank b) h.0) in
    ap is_digit is

-- numerals in a row begin with one
row_begins : (p : ℕ) (t : List ℕ) (ns : List Numeral) (r : List ℕ) → AreNumerals p t ns → BeginsWithNo is_blank (t ++ r)
row_begins p t [] r h = absurd h
row_begins p t (n ∷ []) r h = numeral_begins t r n.1 h.0
row_begins p t (n ∷ m ∷ ns) r (first, gap, rest, split, is, place, blank, more) =
    subst (BeginsWithNo is_blank) (sym (ap (λ x. x ++ r) split ∙ append_assoc first (gap ++ rest) r)) (numeral_begins first ((gap ++ rest) ++ r) n.1 is)

-- the first numeral of a row, which goes on after it
row_first : (p : ℕ) (t : List ℕ) (n m : Numeral) (ns : List Numeral) → AreNumerals p t (n ∷ m ∷ ns) → (f x : List ℕ) (z : ℤ) → IsNumeral f z → BeginsWithNo is_digit x → (a : List ℕ) → f ++ x ≡ t ++ a → HasNoNextNumeral x → ⊥
row_first p t n m ns (first, gap, rest, split, is, place, blank, more) f x z hf hx a e ends =
    let whole : f ++ x ≡ first ++ (gap ++ (rest ++ a)) = e ∙ ap (λ y. y ++ a) split ∙ simp append_assoc in
    let same = one_numeral f first x (gap ++ (rest ++ a)) z n.1 hf is hx (blanks_no_digit gap (rest ++ a) blank) whole in
    next_of (p + length (first ++ gap)) rest (m ∷ ns) more same.2
  where
    next_of : (q : ℕ) (rest : List ℕ) (ns : List Numeral) → AreNumerals q rest ns → x ≡ gap ++ (rest ++ a) → ⊥
    next_of q rest [] h at = h
    next_of q rest (k ∷ []) h at = ends gap rest a k.1 blank h.0 at
    next_of q rest (k ∷ l ∷ ks) (one, space, others, parts, num, spot, blanks, rows) at =
        ends gap one ((space ++ others) ++ a) k.1 blank num (at ∙ ap (λ y. gap ++ (y ++ a)) parts ∙ simp append_assoc)

one_row : (p : ℕ) (t u a b : List ℕ) (ns ms : List Numeral) → AreNumerals p t ns → AreNumerals p u ms → EndsNumerals a → EndsNumerals b → t ++ a ≡ u ++ b → (t ≡ u) × (ns ≡ ms) × (a ≡ b)
one_row p t u a b [] ms h k ha hb e = absurd h
one_row p t u a b (n ∷ ns) [] h k ha hb e = absurd k
one_row p t u a b (n ∷ []) (m ∷ []) h k ha hb e =
    let same = one_numeral t u a b n.1 m.1 h.0 k.0 ha.digits hb.digits e in
    (same.0, ap (λ (x : Numeral). x ∷ []) (pairs n m (h.1 ∙ sym k.1) same.1), same.2)
  where
    pairs : (n m : Numeral) → n.0 ≡ m.0 → n.1 ≡ m.1 → n ≡ m
    pairs n m x y = rw (x, y) refl
one_row p t u a b (n ∷ []) (m ∷ l ∷ ms) h k ha hb e = absurd (row_first p u m l ms k t a n.1 h.0 ha.digits b e ha.numerals)
one_row p t u a b (n ∷ l ∷ ns) (m ∷ []) h k ha hb e = absurd (row_first p t n l ns h u b m.1 k.0 hb.digits a (sym e) hb.numerals)
one_row p t u a b (n ∷ l ∷ ns) (m ∷ j ∷ ms) (f, g, r, split, is, place, blank, more) (f', g', r', split', is', place', blank', more') ha hb e =
    let left : f ++ (g ++ (r ++ a)) ≡ t ++ a = sym (ap (λ y. y ++ a) split ∙ simp append_assoc) in
    let right : u ++ b ≡ f' ++ (g' ++ (r' ++ b)) = ap (λ y. y ++ b) split' ∙ simp append_assoc in
    let first = one_numeral f f' (g ++ (r ++ a)) (g' ++ (r' ++ b)) n.1 m.1 is is' (blanks_no_digit g (r ++ a) blank) (blanks_no_digit g' (r' ++ b) blank') (left ∙ e ∙ right) in
    let gaps = longest is_blank g g' (r ++ a) (r' ++ b) (all_blanks g blank) (all_blanks g' blank') (row_begins (p + length (f ++ g)) r (l ∷ ns) a more) (row_begins (p + length (f' ++ g')) r' (j ∷ ms) b more') first.2 in
    let spot : p + length (f' ++ g') ≡ p + length (f ++ g) = ap (λ x. p + length x) (sym (fronts f f' g g' first.0 gaps.0)) in
    let rest = one_row (p + length (f ++ g)) r r' a b (l ∷ ns) (j ∷ ms) more (subst (λ (q : ℕ). AreNumerals q r' (j ∷ ms)) spot more') ha hb gaps.1 in
    (split ∙ ap (λ x. x) (texts f f' g g' r r' first.0 gaps.0 rest.0) ∙ sym split', heads n m (l ∷ ns) (j ∷ ms) (place ∙ sym place') first.1 rest.1, rest.2)
  where
    fronts : (f f' g g' : List ℕ) → f ≡ f' → g ≡ g' → f ++ g ≡ f' ++ g'
    fronts f f' g g' x y = cc

    texts : (f f' g g' r r' : List ℕ) → f ≡ f' → g ≡ g' → r ≡ r' → f ++ (g ++ r) ≡ f' ++ (g' ++ r')
    texts f f' g g' r r' x y z = cc

    heads : (n m : Numeral) (ns ms : List Numeral) → n.0 ≡ m.0 → n.1 ≡ m.1 → ns ≡ ms → ◌≡◌ {A = List Numeral} (n ∷ ns) (m ∷ ms)
    heads n m ns ms x y z = rw (x, y, z) refl

one_symbol : (x y a b : List ℕ) (j k : TokenKind) → IsSymbol x j → IsSymbol y k → x ++ a ≡ y ++ b → (x ≡ y) × (a ≡ b) × (j ≡ k)
one_symbol x y a b j k h i e =
    let whole : h.character ∷ a ≡ i.character ∷ b = ap (λ t. t ++ a) (sym h.split) ∙ e ∙ ap (λ t. t ++ b) i.split in
    let heads : h.character ≡ i.character = cc in
    let texts : x ≡ y = h.split ∙ ap (λ c. c ∷ []) heads ∙ sym i.split in
    let kinds : ◌≡◌ {A = Option TokenKind} (Some j) (Some k) = sym (kind_found j h.character h.is) ∙ ap symbol_kind heads ∙ kind_found k i.character i.is in
    (texts, cc, cc)

letters_pass : (c : ℕ) → IsTrue (is_letter c) → IsTrue (is_name_character c)
letters_pass c h = rw h refl

one_name : (x y a b m n : List ℕ) → IsName x a m → IsName y b n → x ++ a ≡ y ++ b → (x ≡ y) × (a ≡ b) × (m ≡ n)
one_name x y a b m n h i e =
    let px : AllPass is_name_character x = subst (AllPass is_name_character) (sym h.split) (letters_pass h.first h.letter, h.characters) in
    let py : AllPass is_name_character y = subst (AllPass is_name_character) (sym i.split) (letters_pass i.first i.letter, i.characters) in
    let same = longest is_name_character x y a b px py h.longest i.longest e in
    (same.0, same.1, h.is ∙ ap encode_utf8_all same.0 ∙ sym i.is)

one_number : (x y a b : List ℕ) (v w : ArrayValue) → IsNumberConstant x a v → IsNumberConstant y b w → x ++ a ≡ y ++ b → (x ≡ y) × (a ≡ b) × (v ≡ w)
one_number x y a b v w h i e =
    let same = one_row 0 x y a b h.numerals i.numerals h.spelled i.spelled h.ends i.ends e in
    (same.0, same.2, h.is ∙ ap (λ (ns : List Numeral). number_array (constant_shape ns) (map (λ (n : Numeral). n.1) ns)) same.1 ∙ sym i.is)

one_quoted : (c d a b : List ℕ) → BeginsWithNo is_quote a → BeginsWithNo is_quote b → quoted c ++ a ≡ quoted d ++ b → (c ≡ d) × (a ≡ b)
one_quoted c d a b p q e =
    let tails : (doubled c ++ quote ∷ []) ++ a ≡ (doubled d ++ quote ∷ []) ++ b = cc in
    one_doubled c d a b p q (sym (append_assoc (doubled c) (quote ∷ []) a) ∙ tails ∙ append_assoc (doubled d) (quote ∷ []) b)

one_text : (x y a b : List ℕ) (v w : ArrayValue) → IsTextConstant x a v → IsTextConstant y b w → x ++ a ≡ y ++ b → (x ≡ y) × (a ≡ b) × (v ≡ w)
one_text x y a b v w h i e =
    let same = one_quoted h.characters i.characters a b h.ends i.ends (ap (λ t. t ++ a) (sym h.spelled) ∙ e ∙ ap (λ t. t ++ b) i.spelled) in
    (h.spelled ∙ ap quoted same.0 ∙ sym i.spelled, same.1, h.is ∙ ap (λ (cs : List ℕ). character_array (constant_shape cs) cs) same.0 ∙ sym i.is)

one_token : (x y a b : List ℕ) (j k : TokenKind) → (h : IsToken x a j) → (i : IsToken y b k) → lead_of x a j h ≡ lead_of y b k i → x ++ a ≡ y ++ b → (x ≡ y) × (a ≡ b) × (j ≡ k)
one_token x y a b (Constant v) k (inl h) i l e = of_number k i l
  where
    of_number : (k : TokenKind) → (i : IsToken y b k) → figure ≡ lead_of y b k i → (x ≡ y) × (a ≡ b) × (Constant v ≡ k)
    of_number (Constant w) (inl i) l = let same = one_number x y a b v w h i e in (same.0, same.1, ap Constant same.2)
    of_number (Constant w) (inr i) l = absurd cc
    of_number (Name n) i l = absurd cc
    of_number k i l = absurd cc
one_token x y a b (Constant v) k (inr h) i l e = of_text k i l
  where
    of_text : (k : TokenKind) → (i : IsToken y b k) → quotation ≡ lead_of y b k i → (x ≡ y) × (a ≡ b) × (Constant v ≡ k)
    of_text (Constant w) (inl i) l = absurd cc
    of_text (Constant w) (inr i) l = let same = one_text x y a b v w h i e in (same.0, same.1, ap Constant same.2)
    of_text (Name n) i l = absurd cc
    of_text k i l = absurd cc
one_token x y a b (Name m) k h i l e = of_name k i l
  where
    of_name : (k : TokenKind) → (i : IsToken y b k) → letter ≡ lead_of y b k i → (x ≡ y) × (a ≡ b) × (Name m ≡ k)
    of_name (Constant w) (inl i) l = absurd cc
    of_name (Constant w) (inr i) l = absurd cc
    of_name (Name n) i l = let same = one_name x y a b m n h i e in (same.0, same.1, ap Name same.2)
    of_name k i l = absurd cc
one_token x y a b j k h i l e = one_symbol x y a b j k h (is_by_sign y b k i (sym l)) e

-- The tokens up to a place where none fits are one list, and the place is one.
one_lexing : (c d e : ℕ) (s r q : List ℕ) (ts us : List Token) → LexesUpTo c s ts d r → LexesUpTo c s us e q → BeginsWithNoToken r → BeginsWithNoToken q → (ts ≡ us) × (d ≡ e) × (r ≡ q)
one_lexing c d e s r q [] [] (gap, split, blank, last, at) (gap', split', blank', last', at') hr hq =
    let same = longest is_blank gap gap' r q blank blank' last last' (sym split ∙ split') in
    (refl, at ∙ ap (λ x. c + length x) same.0 ∙ sym at', same.1)
one_lexing c d e s r q [] (u ∷ us) (gap, split, blank, last, at) (g, x, a, parts, blanks, col, is, more) hr hq =
    let same = longest is_blank gap g r (x ++ a) blank blanks last (begins_no_blank x a a u.kind is) (sym split ∙ parts) in
    absurd (hr x a u.kind same.1 is)
one_lexing c d e s r q (t ∷ ts) [] (g, x, a, parts, blanks, col, is, more) (gap, split, blank, last, at) hr hq =
    let same = longest is_blank gap g q (x ++ a) blank blanks last (begins_no_blank x a a t.kind is) (sym split ∙ parts) in
    absurd (hq x a t.kind same.1 is)
one_lexing c d e s r q (t ∷ ts) (u ∷ us) (g, x, a, parts, blanks, col, is, more) (g', x', a', parts', blanks', col', is', more') hr hq =
    let gaps = longest is_blank g g' (x ++ a) (x' ++ a') blanks blanks' (begins_no_blank x a a t.kind is) (begins_no_blank x' a' a' u.kind is') (sym parts ∙ parts') in
    let same = one_token x x' a a' t.kind u.kind is is' (one_lead x x' a a' (lead_of x a t.kind is) (lead_of x' a' u.kind is') (token_begins x a t.kind is) (token_begins x' a' u.kind is') gaps.1) gaps.1 in
    let columns : t.column ≡ u.column = col ∙ ap (λ y. c + length y) gaps.0 ∙ sym col' in
    let place : u.column + length x' ≡ t.column + length x = places t.column u.column x x' columns same.0 in
    let rest = one_lexing (t.column + length x) d e a r q ts us more (subst (λ (y : List ℕ). LexesUpTo (t.column + length x) y us e q) (sym same.1) (subst (λ (n : ℕ). LexesUpTo n a' us e q) place more')) hr hq in
    (tokens t u ts us same.2 columns rest.0, rest.1, rest.2)
  where
    places : (m n : ℕ) (x y : List ℕ) → m ≡ n → x ≡ y → n + length y ≡ m + length x
    places m n x y p q = rw (p, q) refl

    tokens : (t u : Token) (ts us : List Token) → t.kind ≡ u.kind → t.column ≡ u.column → ts ≡ us → ◌≡◌ {A = List Token} (t ∷ ts) (u ∷ us)
    tokens t u ts us p q r = rw (p, q, r) refl

not_all_in_range : (ns : List Numeral) (place : ℕ) → FirstOutOfRange ns place → AreInRange ns → ⊥
not_all_in_range [] place h k = elim h [ ]
not_all_in_range (n ∷ ns) place (here h) k = h k.0
not_all_in_range (n ∷ ns) place (later h f) k = not_all_in_range ns place f k.1

one_first : (ns : List Numeral) (p q : ℕ) → FirstOutOfRange ns p → FirstOutOfRange ns q → p ≡ q
one_first [] p q h k = elim h [ ]
one_first (n ∷ ns) p q (here h) (here k) = refl
one_first (n ∷ ns) p q (here h) (later k f) = absurd (h k)
one_first (n ∷ ns) p q (later h f) (here k) = absurd (k h)
one_first (n ∷ ns) p q (later h f) (later k g) = one_first ns p q f g

too_many : (n : ℕ) → most_elements < n → n ≤ most_elements → ⊥
too_many n h k = omega arith

-- a constant beyond a limit is no token
differs : (r t u x a : List ℕ) (l m : Lead) → r ≡ t ++ u → r ≡ x ++ a → Begins t l → Begins x m → (l ≡ m → ⊥) → ⊥
differs r t u x a l m d e h i other = other (one_lead t x u a l m h i (sym d ∙ e))

number_is_none : (r : List ℕ) (place : ℕ) → IsNumberBeyondLimit r place → BeginsWithNoToken r
number_is_none r place b x a (Constant v) e (inl is) =
    let same = one_row 0 b.text x b.after a b.numerals is.numerals b.spelled is.spelled b.ends is.ends (sym b.split ∙ e) in
    by_limit is.numerals (sym same.1) is.few is.in_range b.which
  where
    by_limit : (ns : List Numeral) → ns ≡ b.numerals → length ns ≤ most_elements → AreInRange ns → ((most_elements < length b.numerals) × (place ≡ 0)) ⊎ ((length b.numerals ≤ most_elements) × FirstOutOfRange b.numerals place) → ⊥
    by_limit ns same few range (inl (many, at)) = too_many (length b.numerals) many (subst (λ (y : List Numeral). length y ≤ most_elements) same few)
    by_limit ns same few range (inr (some, first)) = not_all_in_range b.numerals place first (subst AreInRange same range)
number_is_none r place b x a (Constant v) e (inr is) = differs r b.text b.after x a figure quotation b.split e (numerals_begin 0 b.text b.numerals b.spelled) (token_begins x a (Constant v) (inr is)) (λ l. absurd cc)
number_is_none r place b x a (Name n) e is = differs r b.text b.after x a figure letter b.split e (numerals_begin 0 b.text b.numerals b.spelled) (token_begins x a (Name n) is) (λ l. absurd cc)
number_is_none r place b x a k e is = differs r b.text b.after x a figure sign b.split e (numerals_begin 0 b.text b.numerals b.spelled) (token_begins x a k is) (λ l. absurd cc)

text_is_none : (r : List ℕ) (place : ℕ) → IsTextBeyondLimit r place → BeginsWithNoToken r
text_is_none r place b x a (Constant v) e (inl is) = differs r (quoted b.characters) b.after x a quotation figure b.split e (quote_begins (quoted b.characters) _ refl) (token_begins x a (Constant v) (inl is)) (λ l. absurd cc)
text_is_none r place b x a (Constant v) e (inr is) =
    let same = one_quoted b.characters is.characters b.after a b.ends is.ends (sym b.split ∙ e ∙ ap (λ t. t ++ a) is.spelled) in
    too_many (length is.characters) (subst (λ (y : List ℕ). most_elements < length y) same.0 b.many) is.few
text_is_none r place b x a (Name n) e is = differs r (quoted b.characters) b.after x a quotation letter b.split e (quote_begins (quoted b.characters) _ refl) (token_begins x a (Name n) is) (λ l. absurd cc)
text_is_none r place b x a k e is = differs r (quoted b.characters) b.after x a quotation sign b.split e (quote_begins (quoted b.characters) _ refl) (token_begins x a k is) (λ l. absurd cc)

beyond_is_none : (r : List ℕ) (place : ℕ) → IsBeyondLimit r place → BeginsWithNoToken r
beyond_is_none r place (inl b) = number_is_none r place b
beyond_is_none r place (inr b) = text_is_none r place b

one_number_limit : (r : List ℕ) (p q : ℕ) → IsNumberBeyondLimit r p → IsNumberBeyondLimit r q → p ≡ q
one_number_limit r p q b d =
    let same = one_row 0 b.text d.text b.after d.after b.numerals d.numerals b.spelled d.spelled b.ends d.ends (sym b.split ∙ d.split) in
    by_limits d.numerals (sym same.1) b.which d.which
  where
    by_limits : (ns : List Numeral) → ns ≡ b.numerals → ((most_elements < length b.numerals) × (p ≡ 0)) ⊎ ((length b.numerals ≤ most_elements) × FirstOutOfRange b.numerals p) → ((most_elements < length ns) × (q ≡ 0)) ⊎ ((length ns ≤ most_elements) × FirstOutOfRange ns q) → p ≡ q
    by_limits ns same (inl (many, at)) (inl (many', at')) = at ∙ sym at'
    by_limits ns same (inl (many, at)) (inr (few, first)) = absurd (too_many (length b.numerals) many (subst (λ (y : List Numeral). length y ≤ most_elements) same few))
    by_limits ns same (inr (few, first)) (inl (many, at)) = absurd (too_many (length b.numerals) (subst (λ (y : List Numeral). most_elements < length y) same many) few)
    by_limits ns same (inr (few, first)) (inr (few', first')) = one_first b.numerals p q first (subst (λ (y : List Numeral). FirstOutOfRange y q) same first')

mixed_limits : (r : List ℕ) (p q : ℕ) → IsNumberBeyondLimit r p → IsTextBeyondLimit r q → ⊥
mixed_limits r p q b d = differs r b.text b.after (quoted d.characters) d.after figure quotation b.split d.split (numerals_begin 0 b.text b.numerals b.spelled) (quote_begins (quoted d.characters) _ refl) (λ l. absurd cc)

one_limit : (r : List ℕ) (p q : ℕ) → IsBeyondLimit r p → IsBeyondLimit r q → p ≡ q
one_limit r p q (inl b) (inl d) = one_number_limit r p q b d
one_limit r p q (inl b) (inr d) = absurd (mixed_limits r p q b d)
one_limit r p q (inr b) (inl d) = absurd (mixed_limits r q p d b)
one_limit r p q (inr b) (inr d) = b.first ∙ sym d.first

pub Lexes-unique : (s : List ℕ) (ts us : List Token) → Lexes s ts → Lexes s us → ts ≡ us
Lexes-unique s ts us (d, r, h, end) (e, q, k, end') = (one_lexing 0 d e s r q ts us h k (no_token_at_end r end) (no_token_at_end q end')).0

pub lexes_no_fault : (s : List ℕ) (ts : List Token) (column : ℕ) → Lexes s ts → HasLexicalFault s column → ⊥
lexes_no_fault s ts column (d, r, h, end) f =
    let same = one_lexing 0 d column s r f.rest ts f.tokens h f.before (no_token_at_end r end) f.none in
    f.more (subst IsEnd same.2 end)

pub lexes_no_limit : (s : List ℕ) (ts : List Token) (column : ℕ) → Lexes s ts → HasLimitFault s column → ⊥
lexes_no_limit s ts column (d, r, h, end) f =
    let same = one_lexing 0 d f.start s r f.rest ts f.tokens h f.before (no_token_at_end r end) (beyond_is_none f.rest f.place f.beyond) in
    no_limit_at_end f.rest f.place (subst IsEnd same.2 end) f.beyond

pub one_kind_of_fault : (s : List ℕ) (c d : ℕ) → HasLexicalFault s c → HasLimitFault s d → ⊥
one_kind_of_fault s c d f g =
    let same = one_lexing 0 c g.start s f.rest g.rest f.tokens g.tokens f.before g.before f.none (beyond_is_none g.rest g.place g.beyond) in
    f.within g.place (subst (λ (x : List ℕ). IsBeyondLimit x g.place) (sym same.2) g.beyond)

pub one_lexical_fault : (s : List ℕ) (c d : ℕ) → HasLexicalFault s c → HasLexicalFault s d → c ≡ d
one_lexical_fault s c d f g = (one_lexing 0 c d s f.rest g.rest f.tokens g.tokens f.before g.before f.none g.none).1

pub one_limit_fault : (s : List ℕ) (c d : ℕ) → HasLimitFault s c → HasLimitFault s d → c ≡ d
one_limit_fault s c d f g =
    let same = one_lexing 0 f.start g.start s f.rest g.rest f.tokens g.tokens f.before g.before (beyond_is_none f.rest f.place f.beyond) (beyond_is_none g.rest g.place g.beyond) in
    let places : f.place ≡ g.place = one_limit f.rest f.place g.place f.beyond (subst (λ (x : List ℕ). IsBeyondLimit x g.place) (sym same.2) g.beyond) in
    f.is ∙ sums f.start g.start f.place g.place same.1 places ∙ sym g.is
  where
    sums : (m n p q : ℕ) → m ≡ n → p ≡ q → m + p ≡ n + q
    sums m n p q e f = cc

-- Characters have their tokens or a fault.
use Rattle.std.proofs.Common.{◌≡◌, ◌++◌, ◌∷◌, [], List, Option, Some, None, refl, sym, ◌∙◌, ap, subst, arith, inl, inr, ◌⊎◌, length, ◌+◌, ◌<◌, ◌≤◌, ℕ, zero, suc, Bool, true, false, append_assoc, length-append, eqb→eq}
use Rattle.std.specs.Prelude.{ℤ, pos, ◌==◌, map, encode_utf8_all, nat_le, ◌≤ℤ◌, ◌<ℤ◌}
use Rattle.std.specs.Bool.{passes}
use Rattle.std.proofs.lemmas.Bool.Decides.{nat_tests}
use Rattle.std.proofs.lemmas.Int.{ints, by_lt_z}
use Rattle.apl_array.specs.Array.{number_array, character_array}
use Rattle.apl_array.specs.Range.{IsInRange, least_number, greatest_number}
use Rattle.apl_tokens.specs.declared.token.Token.{Token}
use Rattle.apl_tokens.specs.declared.token.TokenKind.{TokenKind}
use Rattle.apl_tokens.specs.declared.token.TokenKind.TheVariants.{Constant, Name}
use Rattle.apl_tokens.specs.Symbols.{is_digit, is_letter, is_name_character, is_blank, quote, is_quote, comment_mark, symbol_kind}
use Rattle.apl_tokens.proofs.OneSymbol.{character_found}
use Rattle.apl_tokens.specs.Fronts.{AllPass}
use Rattle.apl_array.specs.Shape.{most_elements}
use Rattle.apl_tokens.specs.Lexis.{BeginsWithNo, number_of_digits, IsNumeral, plain, negative, negated, Numeral, AreNumerals, EndsNumerals, HasNoNextNumeral, AreInRange, constant_shape, doubled, quoted, IsToken, LexesUpTo, IsEnd, Lexes, BeginsWithNoToken, FirstOutOfRange, here, later, IsBeyondLimit, HasLexicalFault, HasLimitFault}
use Rattle.apl_tokens.specs.Scans.{HasNoNumeral}
use Rattle.apl_tokens.proofs.Runs.{no_plain, no_negative, no_blanks, numeral_begins, all_blanks}
use Rattle.apl_tokens.proofs.Quotes.{no_quotation}
use Rattle.apl_tokens.proofs.Leads.{token_begins, sign_of, symbol_is_token, no_token_at_end, no_limit_at_end}
use Rattle.apl_tokens.proofs.OneToken.{no_token, no_limit, open_token, open_limit}
use Rattle.apl_tokens.proofs.Unique.{longest}

-- the longest front of a class, and the rest
record Cut (p : ℕ → Bool) (s : List ℕ) : Type 0 where
  front : List ℕ
  rest : List ℕ
  split : s ≡ front ++ rest
  pass : AllPass p front
  ends : BeginsWithNo p rest

cut : (p : ℕ → Bool) (s : List ℕ) → Cut p s
cut p [] = record { front = []; rest = []; split = refl; pass = tt; ends = tt }
cut p (c ∷ cs) = by_test (p c) refl (cut p cs)
  where
    by_test : (b : Bool) → p c ≡ b → Cut p cs → Cut p (c ∷ cs)
    by_test true e h = record { front = c ∷ h.front; rest = h.rest; split = ap (λ x. c ∷ x) h.split; pass = (e, h.pass); ends = h.ends }
    by_test false e h = record { front = []; rest = c ∷ cs; split = refl; pass = tt; ends = e }

-- the numeral at the front of a text
record NumeralHere (s : List ℕ) : Type 0 where
  front : List ℕ
  rest : List ℕ
  z : ℤ
  split : s ≡ front ++ rest
  is : IsNumeral front z
  ends : BeginsWithNo is_digit rest

numeral_here : (s : List ℕ) → NumeralHere s ⊎ HasNoNumeral s
numeral_here [] = inr (no_plain [] (λ h. absurd (omega arith)) tt)
numeral_here (c ∷ cs) = by_test (c == 175) refl
  where
    after_sign : c ≡ 175 → Cut is_digit cs → NumeralHere (c ∷ cs) ⊎ HasNoNumeral (c ∷ cs)
    after_sign e h = by_front h.front h.rest h.split h.pass h.ends
      where
        by_front : (f r : List ℕ) → cs ≡ f ++ r → AllPass is_digit f → BeginsWithNo is_digit r → NumeralHere (c ∷ cs) ⊎ HasNoNumeral (c ∷ cs)
        by_front [] r split pass ends = inr (no_negative (c ∷ cs) cs (ap (λ x. x ∷ cs) e) (subst (BeginsWithNo is_digit) (sym split) ends))
        by_front (d ∷ ds) r split pass ends = inl (record { front = 175 ∷ d ∷ ds; rest = r; z = negated (number_of_digits (d ∷ ds)); split = cc; is = negative (d ∷ ds) pass; ends = ends })

    unsigned : (c == 175) ≡ false → Cut is_digit (c ∷ cs) → NumeralHere (c ∷ cs) ⊎ HasNoNumeral (c ∷ cs)
    unsigned e h = by_front h.front h.rest h.split h.pass h.ends
      where
        no_sign : c ≡ 175 → ⊥
        no_sign is =
            let bad : (175 == 175) ≡ false = ap (λ x. x == 175) (sym is) ∙ e in
            absurd cc

        by_front : (f r : List ℕ) → c ∷ cs ≡ f ++ r → AllPass is_digit f → BeginsWithNo is_digit r → NumeralHere (c ∷ cs) ⊎ HasNoNumeral (c ∷ cs)
        by_front [] r split pass ends = inr (no_plain (c ∷ cs) (λ h. no_sign) (subst (BeginsWithNo is_digit) (sym split) ends))
        by_front (d ∷ ds) r split pass ends = inl (record { front = d ∷ ds; rest = r; z = pos (number_of_digits (d ∷ ds)); split = split; is = plain (d ∷ ds) pass; ends = ends })

    by_test : (b : Bool) → (c == 175) ≡ b → NumeralHere (c ∷ cs) ⊎ HasNoNumeral (c ∷ cs)
    by_test true e = after_sign (eqb→eq c 175 (passes (c == 175) e)) (cut is_digit cs)
    by_test false e = unsigned e (cut is_digit (c ∷ cs))

no_next : (r g q : List ℕ) → r ≡ g ++ q → AllPass is_blank g → BeginsWithNo is_blank q → HasNoNumeral q → HasNoNextNumeral r
no_next r g q split pass ends none gap text rest z blank is e =
    none text rest z (longest is_blank g gap q (text ++ rest) pass (all_blanks gap blank) ends (numeral_begins text rest z is) (sym split ∙ e)).1 is

-- all numerals at the front of a text
record NumeralsHere (p : ℕ) (s : List ℕ) : Type 0 where
  text : List ℕ
  after : List ℕ
  first : Numeral
  others : List Numeral
  split : s ≡ text ++ after
  spelled : AreNumerals p text (first ∷ others)
  ends : EndsNumerals after

some_front : (f r : List ℕ) (z : ℤ) → IsNumeral f z → length r < length (f ++ r)
some_front f r z (plain [] h) = absurd h
some_front f r z (plain (d ∷ ds) h) = omega (arith, length-append ds r)
some_front f r z (negative ds h) = omega (arith, length-append ds r)

numerals_here : (n p : ℕ) (s : List ℕ) → length s ≤ n → NumeralHere s → NumeralsHere p s
numerals_here zero p s h m =
    absurd (omega (arith, h, ap length m.split, some_front m.front m.rest m.z m.is))
numerals_here (suc n) p s h m = by_blanks (cut is_blank m.rest) (λ q small more. numerals_here n q small more)
  where
    alone : HasNoNextNumeral m.rest → NumeralsHere p s
    alone none = record { text = m.front; after = m.rest; first = (p, m.z); others = []; split = m.split; spelled = (m.is, refl); ends = record { digits = m.ends; numerals = none } }

    by_blanks : Cut is_blank m.rest → ((q : ℕ) (r : List ℕ) → length r ≤ n → NumeralHere r → NumeralsHere q r) → NumeralsHere p s
    by_blanks b recurse = by_gap b.front b.rest b.split b.pass b.ends (numeral_here b.rest)
      where
        by_gap : (g q : List ℕ) → m.rest ≡ g ++ q → AllPass is_blank g → BeginsWithNo is_blank q → NumeralHere q ⊎ HasNoNumeral q → NumeralsHere p s
        by_gap [] q split pass ends found = alone (no_blanks m.rest (subst (BeginsWithNo is_blank) (sym split) ends))
        by_gap (c ∷ g) q split pass ends (inr none) = alone (no_next m.rest (c ∷ g) q split pass ends none)
        by_gap (c ∷ g) q split pass ends (inl k) =
            let small : length q ≤ n = omega (arith, h, ap length m.split, some_front m.front m.rest m.z m.is, ap length split, length-append g q) in
            let more = recurse (p + length (m.front ++ (c ∷ g))) q small k in
            record {
              text = m.front ++ ((c ∷ g) ++ more.text);
              after = more.after;
              first = (p, m.z);
              others = more.first ∷ more.others;
              split = m.split ∙ ap (λ x. m.front ++ x) (split ∙ ap (λ x. (c ∷ g) ++ x) more.split) ∙ simp append_assoc;
              spelled = (m.front, c ∷ g, more.text, refl, m.is, refl, pass, more.spelled);
              ends = more.ends;
            }

-- the quotation after an opening quote
quotation_here : (s : List ℕ) → ((cs a : List ℕ) × (s ≡ doubled cs ++ (quote ∷ a)) × BeginsWithNo is_quote a) ⊎ ((cs : List ℕ) × (s ≡ doubled cs))
quotation_here [] = inr ([], refl)
quotation_here (c ∷ []) = by_test (is_quote c) refl
  where
    by_test : (b : Bool) → is_quote c ≡ b → ((cs a : List ℕ) × (c ∷ [] ≡ doubled cs ++ (quote ∷ a)) × BeginsWithNo is_quote a) ⊎ ((cs : List ℕ) × (c ∷ [] ≡ doubled cs))
    by_test true e = inl ([], [], ap (λ x. x ∷ []) (eqb→eq c quote (passes (is_quote c) e)), tt)
    by_test false e = inr (c ∷ [], rw e refl)
quotation_here (c ∷ d ∷ s) = by_tests (is_quote c) (is_quote d) refl refl (quotation_here s) (quotation_here (d ∷ s))
  where
    by_tests : (b t : Bool) → is_quote c ≡ b → is_quote d ≡ t
        → ((cs a : List ℕ) × (s ≡ doubled cs ++ (quote ∷ a)) × BeginsWithNo is_quote a) ⊎ ((cs : List ℕ) × (s ≡ doubled cs))
        → ((cs a : List ℕ) × (d ∷ s ≡ doubled cs ++ (quote ∷ a)) × BeginsWithNo is_quote a) ⊎ ((cs : List ℕ) × (d ∷ s ≡ doubled cs))
        → ((cs a : List ℕ) × (c ∷ d ∷ s ≡ doubled cs ++ (quote ∷ a)) × BeginsWithNo is_quote a) ⊎ ((cs : List ℕ) × (c ∷ d ∷ s ≡ doubled cs))
    by_tests true true e f (inl (cs, a, split, ends)) other =
        let one : c ≡ quote = eqb→eq c quote (passes (is_quote c) e) in
        let two : d ≡ quote = eqb→eq d quote (passes (is_quote d) f) in
        inl (quote ∷ cs, a, cc, ends)
    by_tests true true e f (inr (cs, split)) other =
        let one : c ≡ quote = eqb→eq c quote (passes (is_quote c) e) in
        let two : d ≡ quote = eqb→eq d quote (passes (is_quote d) f) in
        inr (quote ∷ cs, cc)
    by_tests true false e f other more =
        inl ([], d ∷ s, ap (λ x. x ∷ d ∷ s) (eqb→eq c quote (passes (is_quote c) e)), f)
    by_tests false t e f other (inl (cs, a, split, ends)) = inl (c ∷ cs, a, rw e (ap (λ x. c ∷ x) split), ends)
    by_tests false t e f other (inr (cs, split)) = inr (c ∷ cs, rw e (ap (λ x. c ∷ x) split))

-- tests of limits
at_most : (m n : ℕ) → (m ≤ n) ⊎ (n < m)
at_most m n = by_test (nat_le m n) refl
  where
    by_test : (b : Bool) → nat_le m n ≡ b → (m ≤ n) ⊎ (n < m)
    by_test true e = inl (grind (arith, nat_tests, e))
    by_test false e = inr (grind (arith, nat_tests, e))

not_less : (a b : ℤ) → a <ℤ b → b ≤ℤ a → ⊥
not_less a b h k = grind (arith, ints)

in_range : (z : ℤ) → IsInRange z ⊎ (IsInRange z → ⊥)
in_range z =
    by_lt_z z least_number
    (λ low. inr (λ h. not_less z least_number low h.least))
    (λ high. by_lt_z greatest_number z (λ over. inr (λ h. not_less greatest_number z over h.greatest)) (λ within. inl record { least = high; greatest = within }))

all_in_range : (ns : List Numeral) → AreInRange ns ⊎ ((place : ℕ) × FirstOutOfRange ns place)
all_in_range [] = inl tt
all_in_range (n ∷ ns) = by_first (in_range n.1) (all_in_range ns)
  where
    by_first : IsInRange n.1 ⊎ (IsInRange n.1 → ⊥) → AreInRange ns ⊎ ((place : ℕ) × FirstOutOfRange ns place) → AreInRange (n ∷ ns) ⊎ ((place : ℕ) × FirstOutOfRange (n ∷ ns) place)
    by_first (inr not) others = inr (n.0, here not)
    by_first (inl is) (inl all) = inl (is, all)
    by_first (inl is) (inr (place, first)) = inr (place, later is first)

-- a token, a constant beyond a limit, or nothing
data Here (s : List ℕ) : Type 0 where
  fits : (x a : List ℕ) (k : TokenKind) → s ≡ x ++ a → IsToken x a k → Here s
  limit : (place : ℕ) → IsBeyondLimit s place → Here s
  none : BeginsWithNoToken s → ((place : ℕ) → IsBeyondLimit s place → ⊥) → Here s

numbers_token : (s : List ℕ) → NumeralsHere 0 s → Here s
numbers_token s h = by_count (at_most (length (h.first ∷ h.others)) most_elements) (all_in_range (h.first ∷ h.others))
  where
    by_count : (length (h.first ∷ h.others) ≤ most_elements) ⊎ (most_elements < length (h.first ∷ h.others)) → AreInRange (h.first ∷ h.others) ⊎ ((place : ℕ) × FirstOutOfRange (h.first ∷ h.others) place) → Here s
    by_count (inr many) range = limit 0 (inl (record { text = h.text; after = h.after; numerals = h.first ∷ h.others; split = h.split; spelled = h.spelled; ends = h.ends; which = inl (many, refl) }))
    by_count (inl few) (inr (place, first)) = limit place (inl (record { text = h.text; after = h.after; numerals = h.first ∷ h.others; split = h.split; spelled = h.spelled; ends = h.ends; which = inr (few, first) }))
    by_count (inl few) (inl range) =
        fits h.text h.after (Constant (number_array (constant_shape (h.first ∷ h.others)) (map (λ (n : Numeral). n.1) (h.first ∷ h.others)))) h.split
        (inl (record { numerals = h.first ∷ h.others; spelled = h.spelled; ends = h.ends; in_range = range; few = few; is = refl }))

text_token : (s rest : List ℕ) → s ≡ quote ∷ rest → ((cs a : List ℕ) × (rest ≡ doubled cs ++ (quote ∷ a)) × BeginsWithNo is_quote a) ⊎ ((cs : List ℕ) × (rest ≡ doubled cs)) → Here s
text_token s rest opens (inr (cs, split)) =
    let closed : (ds b : List ℕ) → BeginsWithNo is_quote b → rest ≡ doubled ds ++ (quote ∷ b) → ⊥ = λ ds b ends e. no_quotation rest cs ds b split ends e in
    none (open_token s rest opens closed) (open_limit s rest opens closed)
text_token s rest opens (inl (cs, a, split, ends)) = by_count (at_most (length cs) most_elements)
  where
    whole : s ≡ quoted cs ++ a
    whole = opens ∙ ap (λ x. quote ∷ x) (split ∙ sym (append_assoc (doubled cs) (quote ∷ []) a))

    by_count : (length cs ≤ most_elements) ⊎ (most_elements < length cs) → Here s
    by_count (inl few) = fits (quoted cs) a (Constant (character_array (constant_shape cs) cs)) whole (inr (record { characters = cs; spelled = refl; ends = ends; few = few; is = refl }))
    by_count (inr many) = limit 0 (inr (record { characters = cs; after = a; split = whole; ends = ends; many = many; first = refl }))

token_here : (s : List ℕ) → Here s
token_here [] = none (no_token_at_end [] tt) (λ place. no_limit_at_end [] place tt)
token_here (c ∷ cs) = by_letter (is_letter c) refl
  where
    by_symbol : is_letter c ≡ false → is_quote c ≡ false → HasNoNumeral (c ∷ cs) → (k : Option TokenKind) → symbol_kind c ≡ k → Here (c ∷ cs)
    by_symbol letter quoted numeral (Some k) e = fits (c ∷ []) cs k refl (symbol_is_token (c ∷ []) cs k (sign_of c k e).1 (record { character = c; split = refl; is = character_found c k e }))
    by_symbol letter quoted numeral None e = none (no_token (c ∷ cs) c (omega arith) refl letter quoted numeral e) (no_limit (c ∷ cs) c refl quoted numeral)

    by_numeral : is_letter c ≡ false → is_quote c ≡ false → NumeralHere (c ∷ cs) ⊎ HasNoNumeral (c ∷ cs) → Here (c ∷ cs)
    by_numeral letter quoted (inl h) = numbers_token (c ∷ cs) (numerals_here (length (c ∷ cs)) 0 (c ∷ cs) (omega arith) h)
    by_numeral letter quoted (inr numeral) = by_symbol letter quoted numeral (symbol_kind c) refl

    by_quote : (b : Bool) → is_letter c ≡ false → is_quote c ≡ b → Here (c ∷ cs)
    by_quote true letter e = text_token (c ∷ cs) cs (ap (λ x. x ∷ cs) (eqb→eq c quote (passes (is_quote c) e))) (quotation_here cs)
    by_quote false letter e = by_numeral letter e (numeral_here (c ∷ cs))

    name : is_letter c ≡ true → Cut is_name_character cs → Here (c ∷ cs)
    name e h = fits (c ∷ h.front) h.rest (Name (encode_utf8_all (c ∷ h.front))) (ap (λ x. c ∷ x) h.split) (record { first = c; others = h.front; split = refl; letter = e; characters = h.pass; longest = h.ends; is = refl })

    by_letter : (b : Bool) → is_letter c ≡ b → Here (c ∷ cs)
    by_letter true e = name e (cut is_name_character cs)
    by_letter false e = by_quote (is_quote c) e refl

-- the tokens up to the end or a fault
abbrev Last : List ℕ → Type 0
Last rest = IsEnd rest ⊎ (((IsEnd rest → ⊥) × BeginsWithNoToken rest × ((place : ℕ) → IsBeyondLimit rest place → ⊥)) ⊎ ((place : ℕ) × IsBeyondLimit rest place))

record Reading (c : ℕ) (s : List ℕ) : Type 0 where
  tokens : List Token
  column : ℕ
  rest : List ℕ
  before : LexesUpTo c s tokens column rest
  last : Last rest

is_end : (r : List ℕ) → IsEnd r ⊎ (IsEnd r → ⊥)
is_end [] = inl tt
is_end (c ∷ cs) = by_test (c == comment_mark) refl
  where
    by_test : (b : Bool) → (c == comment_mark) ≡ b → (c ≡ comment_mark) ⊎ (c ≡ comment_mark → ⊥)
    by_test true e = inl (eqb→eq c comment_mark (passes (c == comment_mark) e))
    by_test false e = inr (λ is. let bad : (comment_mark == comment_mark) ≡ false = ap (λ x. x == comment_mark) (sym is) ∙ e in absurd cc)

some_token : (x a : List ℕ) (k : TokenKind) → IsToken x a k → length a < length (x ++ a)
some_token x a k h =
    let b = token_begins x a k h in
    let len : length x ≡ length (b.head ∷ b.tail) = ap length b.split in
    omega (arith, length-append x a, len)

reading : (n : ℕ) (c : ℕ) (s : List ℕ) → length s ≤ n → Reading c s
reading zero c [] h = record { tokens = []; column = c; rest = []; before = ([], refl, tt, tt, omega arith); last = inl tt }
reading zero c (x ∷ s) h = absurd (omega arith)
reading (suc n) c s h = by_rest (λ d a small. reading n d a small) (cut is_blank s)
  where
    stop : (b : Cut is_blank s) → Last b.rest → Reading c s
    stop b last = record { tokens = []; column = c + length b.front; rest = b.rest; before = (b.front, b.split, b.pass, b.ends, refl); last = last }

    by_here : ((d : ℕ) (a : List ℕ) → length a ≤ n → Reading d a) → (b : Cut is_blank s) → (IsEnd b.rest → ⊥) → Here b.rest → Reading c s
    by_here recurse b more (limit place beyond) = stop b (inr (inr (place, beyond)))
    by_here recurse b more (none token limits) = stop b (inr (inl (more, token, limits)))
    by_here recurse b more (fits x a k split is) =
        let small : length a ≤ n = omega (arith, h, ap length b.split, length-append b.front b.rest, ap length split, some_token x a k is) in
        let r = recurse (c + length b.front + length x) a small in
        record {
          tokens = record { kind = k; column = c + length b.front } ∷ r.tokens;
          column = r.column;
          rest = r.rest;
          before = (b.front, x, a, b.split ∙ ap (λ y. b.front ++ y) split, b.pass, refl, is, r.before);
          last = r.last;
        }

    by_rest : ((d : ℕ) (a : List ℕ) → length a ≤ n → Reading d a) → Cut is_blank s → Reading c s
    by_rest recurse b = by_end (is_end b.rest)
      where
        by_end : IsEnd b.rest ⊎ (IsEnd b.rest → ⊥) → Reading c s
        by_end (inl end) = stop b (inl end)
        by_end (inr more) = by_here recurse b more (token_here b.rest)

pub Lexes-total : (s : List ℕ) → ((ts : List Token) × Lexes s ts) ⊎ (((c : ℕ) × HasLexicalFault s c) ⊎ ((c : ℕ) × HasLimitFault s c))
Lexes-total s = by_last (reading (length s) 0 s (omega arith))
  where
    by_last : Reading 0 s → ((ts : List Token) × Lexes s ts) ⊎ (((c : ℕ) × HasLexicalFault s c) ⊎ ((c : ℕ) × HasLimitFault s c))
    by_last r = at r.last
      where
        at : Last r.rest → ((ts : List Token) × Lexes s ts) ⊎ (((c : ℕ) × HasLexicalFault s c) ⊎ ((c : ℕ) × HasLimitFault s c))
        at (inl end) = inl (r.tokens, (r.column, r.rest, r.before, end))
        at (inr (inl (more, unfit, within))) = inr (inl (r.column, record { tokens = r.tokens; rest = r.rest; before = r.before; more = more; none = unfit; within = within }))
        at (inr (inr (place, beyond))) = inr (inr (r.column + place, record { tokens = r.tokens; rest = r.rest; start = r.column; place = place; before = r.before; beyond = beyond; is = refl }))

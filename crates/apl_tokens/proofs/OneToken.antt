-- One token at the front of a text, or none.
use Rattle.std.proofs.Common.{◌≡◌, ◌++◌, ◌∷◌, [], List, Option, Some, None, refl, sym, ◌∙◌, ap, subst, arith, inl, inr, length, take, drop, get_or, ◌<◌, ◌≤◌, ℕ, zero, suc, true, false, append_assoc, add-one, ◌+◌}
use Rattle.std.specs.Prelude.{IsTrue, ℤ, map, encode_utf8_all}
use Rattle.std.specs.Bool.{passes}
use Rattle.std.proofs.Common.{eqb→eq}
use Rattle.std.specs.Prelude.{slice_index}
use Rattle.std.proofs.Math.Seq.{take-add}
use Rattle.std.proofs.Math.Numerals.{sub-one}
use Rattle.std.proofs.Common.{◌-◌}
use Rattle.std.proofs.lemmas.List.{take-append-drop, append-nil, length-map, drop-drop}
use Rattle.apl_tokens.proofs.Rows.{row_init}
use Rattle.apl_tokens.proofs.Quotes.{no_quotation, doubled-append}
use Rattle.apl_array.specs.Array.{number_array, character_array}
use Rattle.apl_tokens.specs.declared.token.TokenKind.{TokenKind}
use Rattle.apl_tokens.specs.declared.token.TokenKind.TheVariants.{Constant, Name}
use Rattle.apl_tokens.specs.Symbols.{is_letter, is_name_character, quote, is_quote, symbol_kind}
use Rattle.apl_tokens.proofs.OneSymbol.{character_found, kind_found}
use Rattle.apl_tokens.specs.Fronts.{AllPass}
use Rattle.apl_array.specs.Shape.{most_elements}
use Rattle.apl_tokens.specs.Lexis.{BeginsWithNo, IsNumeral, Numeral, AreNumerals, HasNoNextNumeral, EndsNumerals, constant_shape, doubled, IsSymbol, BeginsWithNoToken, IsBeyondLimit}
use Rattle.apl_tokens.specs.Scans.{HasNoNumeral, IsNumeralAt, with_number, IsNumeralRow, IsSpelling, BeginsWithClosingQuote, IsQuotation, HasNoQuotation, BeginsWithQuote, IsTokenAt}
use Rattle.apl_tokens.proofs.Leads.{Lead, letter, figure, quotation, sign, Begins, sign_of, symbol_is_token, numerals_begin, quote_begins, token_begins, one_lead}

-- numerals begin with one
first_numeral : (p : ℕ) (t : List ℕ) (ns : List Numeral) → AreNumerals p t ns → (f rest : List ℕ) × (z : ℤ) × (t ≡ f ++ rest) × IsNumeral f z
first_numeral p t [] h = absurd h
first_numeral p t (n ∷ []) h = (t, [], n.1, sym (append-nil t), h.0)
first_numeral p t (n ∷ m ∷ ns) (f, g, r, split, is, place, blank, more) = (f, g ++ r, n.1, split, is)

no_numerals : (text t a : List ℕ) (ns : List Numeral) → HasNoNumeral text → text ≡ t ++ a → AreNumerals 0 t ns → ⊥
no_numerals text t a ns none e h =
    let (f, rest, z, split, is) = first_numeral 0 t ns h in
    none f (rest ++ a) z (e ∙ ap (λ x. x ++ a) split ∙ append_assoc f rest a) is

-- constants
pub beyond_count : (text : List ℕ) (len count : ℕ) (beyond : Option ℕ) (values : List ℤ) → IsNumeralRow text len count beyond values → EndsNumerals (drop len text) → most_elements < count → IsBeyondLimit text 0
beyond_count text len count beyond values r ends many = inl (record {
  text = take len text;
  after = drop len text;
  numerals = r.numerals;
  split = sym (take-append-drop len text);
  spelled = r.spelled;
  ends = ends;
  which = inl (subst (λ n. most_elements < n) r.counted many, refl);
})

pub beyond_place : (text : List ℕ) (len count place : ℕ) (values : List ℤ) → IsNumeralRow text len count (Some place) values → EndsNumerals (drop len text) → count ≤ most_elements → IsBeyondLimit text place
beyond_place text len count place values r ends few = inl (record {
  text = take len text;
  after = drop len text;
  numerals = r.numerals;
  split = sym (take-append-drop len text);
  spelled = r.spelled;
  ends = ends;
  which = inr (subst (λ n. n ≤ most_elements) r.counted few, r.checked);
})

same_shape : (ns : List Numeral) → constant_shape (map (λ n. n.1) ns) ≡ constant_shape ns
same_shape [] = refl
same_shape (n ∷ []) = refl
same_shape (n ∷ m ∷ ns) =
    let same : length (map (λ (n : Numeral). n.1) ns) ≡ length ns = simp length-map in
    ap (λ k. suc (suc k) ∷ []) same

some_numerals : (p : ℕ) (t : List ℕ) (ns : List Numeral) → AreNumerals p t ns → 0 < length ns
some_numerals p t [] h = absurd h
some_numerals p t (n ∷ ns) h = omega arith

pub constant_token : (text : List ℕ) (len count : ℕ) (values : List ℤ) → IsNumeralRow text len count None values → EndsNumerals (drop len text) → count ≤ most_elements → IsTokenAt text len (Constant (number_array (constant_shape values) values))
constant_token text len count values r ends few = record {
  within = r.within;
  some = omega (arith, r.few, r.counted, some_numerals 0 (take len text) r.numerals r.spelled);
  is = inl (record {
    numerals = r.numerals;
    spelled = r.spelled;
    ends = ends;
    in_range = r.checked.0;
    few = subst (λ n. n ≤ most_elements) r.counted few;
    is = ap (λ vs. number_array (constant_shape vs) vs) r.checked.1 ∙ ap (λ shape. number_array shape (map (λ n. n.1) r.numerals)) (same_shape r.numerals);
  });
}

several_shape : (values : List ℤ) → 1 < length values → constant_shape values ≡ length values ∷ []
several_shape [] some = absurd (omega arith)
several_shape (x ∷ []) some = absurd (omega arith)
several_shape (x ∷ y ∷ zs) some = refl

-- several numerals
pub vector_token : (text : List ℕ) (len count : ℕ) (values : List ℤ) → IsNumeralRow text len count None values → EndsNumerals (drop len text) → count ≤ most_elements → 1 < count → IsTokenAt text len (Constant (number_array (length values ∷ []) values))
vector_token text len count values r ends few some =
    let as_many : length values ≡ count = ap length r.checked.1 ∙ (length-map r.numerals (λ n. n.1) ∙ sym r.counted) in
    subst (λ shape. IsTokenAt text len (Constant (number_array shape values))) (several_shape values (omega (arith, as_many, some))) (constant_token text len count values r ends few)

-- a numeral by itself
one_row : (text : List ℕ) (len : ℕ) (number : Option ℤ) (b : Option ℕ) (vs : List ℤ) → IsNumeralAt text len number → with_number [] None 0 number ≡ (vs, b) → IsNumeralRow text len 1 b vs
one_row text len number b vs n e = row_init text len number b [] vs n refl e

pub one_number : (text : List ℕ) (len : ℕ) (z : ℤ) → IsNumeralAt text len (Some z) → HasNoNextNumeral (drop len text) → IsTokenAt text len (Constant (number_array [] (z ∷ [])))
one_number text len z n alone = constant_token text len 1 (z ∷ []) (one_row text len (Some z) None (z ∷ []) n refl) (record { digits = n.longest; numerals = alone }) (omega arith)

pub one_beyond : (text : List ℕ) (len : ℕ) → IsNumeralAt text len None → HasNoNextNumeral (drop len text) → IsBeyondLimit text 0
one_beyond text len n alone = beyond_place text len 1 0 [] (one_row text len None (Some 0) [] n refl) (record { digits = n.longest; numerals = alone }) (omega arith)

letters_pass : (c : ℕ) → IsTrue (is_letter c) → IsTrue (is_name_character c)
letters_pass c h = rw h refl

pub name_token : (text : List ℕ) (c n : ℕ) (name : List ℕ) → 0 < length text → c ≡ get_or text 0 c → IsTrue (is_letter c) → n ≤ length text → AllPass is_name_character (take n text) → BeginsWithNo is_name_character (drop n text) → name ≡ encode_utf8_all (take n text) → IsTokenAt text n (Name name)
name_token [] c n name some at lettered within front longest is = absurd (omega arith)
name_token (d ∷ cs) c zero name some at lettered within front longest is =
    let passes : is_name_character d ≡ true = subst (λ x. is_name_character x ≡ true) at (letters_pass c lettered) in
    let fails : is_name_character d ≡ false = longest in
    absurd cc
name_token (d ∷ cs) c (suc n) name some at lettered within front longest is = record {
  within = within;
  some = omega arith;
  is = record { first = d; others = take n cs; split = refl; letter = subst (λ x. IsTrue (is_letter x)) at lettered; characters = front.1; longest = longest; is = is };
}

-- symbols
pub symbol_token : (text : List ℕ) (c : ℕ) (k : TokenKind) → 0 < length text → c ≡ get_or text 0 c → symbol_kind c ≡ Some k → IsTokenAt text 1 k
symbol_token [] c k some at is = absurd (omega arith)
symbol_token (d ∷ cs) c k some at is = record {
  within = omega arith;
  some = omega arith;
  is = symbol_is_token (d ∷ []) cs k (sign_of c k is).1 (record { character = d; split = refl; is = character_found d k (ap symbol_kind (sym at) ∙ is) });
}

-- text constants
pub text_token : (text rest cs : List ℕ) (len : ℕ) → text ≡ quote ∷ rest → IsQuotation rest cs len → length cs ≤ most_elements → IsTokenAt text (len + 1) (Constant (character_array (constant_shape cs) cs))
text_token text rest cs len e q few =
    rw (e, add-one) (record {
      within = omega (arith, q.within);
      some = omega arith;
      is = inr (record { characters = cs; spelled = ap (λ x. quote ∷ x) q.spelled; ends = q.ends; few = few; is = refl });
    })

pub text_beyond : (text rest cs : List ℕ) (len : ℕ) → text ≡ quote ∷ rest → IsQuotation rest cs len → most_elements < length cs → IsBeyondLimit text 0
text_beyond text rest cs len e q many = inr (record {
  characters = cs;
  after = drop len rest;
  split = e ∙ ap (λ x. quote ∷ x) (sym (take-append-drop len rest) ∙ ap (λ x. x ++ drop len rest) q.spelled);
  ends = q.ends;
  many = many;
  first = refl;
})

-- nothing
pub no_token : (text : List ℕ) (c : ℕ) → 0 < length text → c ≡ get_or text 0 c → is_letter c ≡ false → is_quote c ≡ false → HasNoNumeral text → symbol_kind c ≡ None → BeginsWithNoToken text
no_token [] c some at lettered quoted numeral symbol x a k e h = absurd (omega arith)
no_token (d ∷ cs) c some at lettered quoted numeral symbol x a (Constant v) e (inl h) = no_numerals (d ∷ cs) x a h.numerals numeral e h.spelled
no_token (d ∷ cs) c some at lettered quoted numeral symbol x a (Constant v) e (inr h) =
    let whole : d ∷ cs ≡ quote ∷ ((doubled h.characters ++ quote ∷ []) ++ a) = e ∙ ap (λ y. y ++ a) h.spelled in
    let head : d ≡ quote = cc in
    let bad : is_quote quote ≡ false = ap is_quote (sym (at ∙ head)) ∙ quoted in
    absurd cc
no_token (d ∷ cs) c some at lettered quoted numeral symbol x a (Name n) e h =
    let whole : d ∷ cs ≡ h.first ∷ (h.others ++ a) = e ∙ ap (λ y. y ++ a) h.split in
    let head : d ≡ h.first = cc in
    let bad : is_letter h.first ≡ false = ap is_letter (sym (at ∙ head)) ∙ lettered in
    let good : is_letter h.first ≡ true = h.letter in
    absurd cc
no_token (d ∷ cs) c some at lettered quoted numeral symbol x a k e h =
    no_symbol d cs x a k (ap symbol_kind (sym at) ∙ symbol) e h
  where
    no_symbol : (d : ℕ) (cs x a : List ℕ) (k : TokenKind) → symbol_kind d ≡ None → d ∷ cs ≡ x ++ a → IsSymbol x k → ⊥
    no_symbol d cs x a k symbol e h =
        let whole : d ∷ cs ≡ h.character ∷ a = e ∙ ap (λ y. y ++ a) h.split in
        let head : d ≡ h.character = cc in
        let found : symbol_kind d ≡ Some k = ap symbol_kind head ∙ kind_found k h.character h.is in
        absurd cc

pub no_limit : (text : List ℕ) (c : ℕ) → c ≡ get_or text 0 c → is_quote c ≡ false → HasNoNumeral text → (place : ℕ) → IsBeyondLimit text place → ⊥
no_limit text c at quoted none place (inl h) = no_numerals text h.text h.after h.numerals none h.split h.spelled
no_limit text c at quoted none place (inr h) =
    let head : c ≡ quote = at ∙ ap (λ (t : List ℕ). get_or t 0 c) h.split in
    let bad : is_quote quote ≡ false = ap is_quote (sym head) ∙ quoted in
    absurd cc

-- an opening quote that is never closed
by_quote : (text rest x a : List ℕ) (l : Lead) → text ≡ quote ∷ rest → text ≡ x ++ a → Begins x l → quotation ≡ l
by_quote text rest x a l opens e h = one_lead (quote ∷ []) x rest a quotation l (quote_begins (quote ∷ []) [] refl) h (sym opens ∙ e)

pub open_token : (text rest : List ℕ) → text ≡ quote ∷ rest → HasNoQuotation rest → BeginsWithNoToken text
open_token text rest opens none x a (Constant v) e (inl h) =
    let bad : quotation ≡ figure = by_quote text rest x a figure opens e (numerals_begin 0 x h.numerals h.spelled) in
    absurd cc
open_token text rest opens none x a (Constant v) e (inr h) =
    let whole : quote ∷ rest ≡ quote ∷ ((doubled h.characters ++ quote ∷ []) ++ a) = sym opens ∙ e ∙ ap (λ y. y ++ a) h.spelled in
    let tail : rest ≡ (doubled h.characters ++ quote ∷ []) ++ a = cc in
    none h.characters a h.ends (tail ∙ append_assoc (doubled h.characters) (quote ∷ []) a)
open_token text rest opens none x a (Name n) e h =
    let bad : quotation ≡ letter = by_quote text rest x a letter opens e (token_begins x a (Name n) h) in
    absurd cc
open_token text rest opens none x a k e h =
    let bad : quotation ≡ sign = by_quote text rest x a sign opens e (token_begins x a k h) in
    absurd cc

pub open_limit : (text rest : List ℕ) → text ≡ quote ∷ rest → HasNoQuotation rest → (place : ℕ) → IsBeyondLimit text place → ⊥
open_limit text rest opens none place (inl h) =
    let bad : quotation ≡ figure = by_quote text rest h.text h.after figure opens h.split (numerals_begin 0 h.text h.numerals h.spelled) in
    absurd cc
open_limit text rest opens none place (inr h) =
    let whole : quote ∷ rest ≡ quote ∷ ((doubled h.characters ++ quote ∷ []) ++ h.after) = sym opens ∙ h.split in
    let tail : rest ≡ (doubled h.characters ++ quote ∷ []) ++ h.after = cc in
    none h.characters h.after h.ends (tail ∙ append_assoc (doubled h.characters) (quote ∷ []) h.after)

-- after an opening quote
pub spelled_by_one : (text : List ℕ) (c : ℕ) → 0 < length text → c ≡ get_or text 0 c → is_quote c ≡ false → IsSpelling text 1
spelled_by_one [] c some at not = absurd (omega arith)
spelled_by_one (d ∷ cs) c some at not =
    let is : is_quote d ≡ false = ap is_quote (sym at) ∙ not in
    record { within = omega arith; some = omega arith; is = rw is refl }

pub spelled_by_two : (text : List ℕ) (c d : ℕ) → 1 < length text → c ≡ get_or text 0 c → is_quote c ≡ true → d ≡ get_or text 1 d → is_quote d ≡ true → IsSpelling text 2
spelled_by_two [] c d some at is then_at then_is = absurd (omega arith)
spelled_by_two (x ∷ []) c d some at is then_at then_is = absurd (omega arith)
spelled_by_two (x ∷ y ∷ cs) c d some at is then_at then_is =
    let first : is_quote x ≡ true = ap is_quote (sym at) ∙ is in
    let second : y ≡ quote = eqb→eq y quote (passes (is_quote y) (ap is_quote (sym then_at) ∙ then_is)) in
    let one : x ≡ quote = eqb→eq x quote (passes (is_quote x) first) in
    record { within = omega arith; some = omega arith; is = rw first (conses x quote (y ∷ []) (quote ∷ []) one (ap (λ z. z ∷ []) second)) }
  where
    conses : (c d : ℕ) (cs ds : List ℕ) → c ≡ d → cs ≡ ds → ◌≡◌ {A = List ℕ} (c ∷ cs) (d ∷ ds)
    conses c d cs ds p q = cc

pub closing_quote : (text : List ℕ) (c : ℕ) → 0 < length text → c ≡ get_or text 0 c → is_quote c ≡ true → (1 < length text → (d : ℕ) → d ≡ get_or text 1 d → is_quote d ≡ false) → BeginsWithClosingQuote text
closing_quote [] c some at is ends = absurd (omega arith)
closing_quote (x ∷ []) c some at is ends = (eqb→eq x quote (passes (is_quote x) (ap is_quote (sym at) ∙ is)), tt)
closing_quote (x ∷ y ∷ cs) c some at is ends = (eqb→eq x quote (passes (is_quote x) (ap is_quote (sym at) ∙ is)), ends (omega arith) y refl)

first_of : (text : List ℕ) (len c : ℕ) → len < length text → c ≡ get_or text len c → slice_index (drop len text) 0 ≡ c
first_of [] len c some at = absurd (omega arith)
first_of (x ∷ xs) zero c some at = sym at
first_of (x ∷ xs) (suc len) c some at = first_of xs len c (omega arith) at

pub quotation_more : (text rest cs ds : List ℕ) (len n c : ℕ) → rest ≡ drop len text → ds ≡ cs ++ c ∷ [] → len < length text → c ≡ get_or text len c → take len text ≡ doubled cs → IsSpelling rest n → take (len + n) text ≡ doubled ds
quotation_more text rest cs ds len n c here added some at before spelled =
    let first : slice_index rest 0 ≡ c = ap (λ x. slice_index x 0) here ∙ first_of text len c some at in
    take-add len n text ∙ ap (λ x. x ++ take n (drop len text)) before ∙ ap (λ x. doubled cs ++ take n x) (sym here) ∙ ap (λ x. doubled cs ++ x) spelled.is
    ∙ ap (λ x. doubled cs ++ doubled (x ∷ [])) first ∙ sym (doubled-append cs (c ∷ [])) ∙ ap doubled (sym added)

pub quotation_closed : (text rest cs : List ℕ) (len : ℕ) → rest ≡ drop len text → len < length text → take len text ≡ doubled cs → BeginsWithClosingQuote rest → IsQuotation text cs (len + 1)
quotation_closed text [] cs len here some before closes = absurd closes
quotation_closed text (c ∷ rest) cs len here some before closes =
    let split : text ≡ take len text ++ (c ∷ rest) = sym (take-append-drop len text) ∙ ap (λ x. take len text ++ x) (sym here) in
    let one : take 1 (drop len text) ≡ quote ∷ [] = ap (take 1) (sym here) ∙ ap (λ x. x ∷ []) closes.0 in
    let past : drop (len + 1) text ≡ rest = sym (drop-drop 1 len text) ∙ ap (drop 1) (sym here) in
    record {
      within = omega arith;
      spelled = take-add len 1 text ∙ ap (λ x. x ++ take 1 (drop len text)) before ∙ ap (λ x. doubled cs ++ x) one;
      ends = subst (BeginsWithNo is_quote) (sym past) closes.1;
    }

pub quotation_open : (text cs : List ℕ) (len : ℕ) → length text ≤ len → take len text ≡ doubled cs → HasNoQuotation text
quotation_open text cs len over before ds b ends e = no_quotation text cs ds b (sym (take_over len text over) ∙ before) ends e
  where
    take_over : (n : ℕ) (xs : List ℕ) → length xs ≤ n → take n xs ≡ xs
    take_over zero [] h = refl
    take_over (suc n) [] h = refl
    take_over zero (x ∷ xs) h = absurd (omega arith)
    take_over (suc n) (x ∷ xs) h = ap (λ ys. x ∷ ys) (take_over n xs (omega arith))

pub behind_quote : (text : List ℕ) → BeginsWithQuote text → text ≡ quote ∷ take (length text - 1) (drop 1 text)
behind_quote [] h = absurd h
behind_quote (c ∷ cs) h = rw sub-one (conses c quote cs (take (length cs) cs) h (sym (take_all cs)))
  where
    take_all : (xs : List ℕ) → take (length xs) xs ≡ xs
    take_all [] = refl
    take_all (x ∷ xs) = ap (λ y. x ∷ y) (take_all xs)

    conses : (c d : ℕ) (cs ds : List ℕ) → c ≡ d → cs ≡ ds → ◌≡◌ {A = List ℕ} (c ∷ cs) (d ∷ ds)
    conses c d cs ds p q = cc

-- Fronts of a class, and numbers.
use Rattle.std.proofs.Common.{◌≡◌, ◌++◌, ◌∷◌, [], List, refl, sym, ◌∙◌, ap, subst, arith, length, take, drop, get_or, ◌+◌, ◌-◌, ◌*◌, ◌<◌, ◌≤◌, ℕ, zero, suc, Bool, true, false}
use Rattle.std.specs.Prelude.{IsTrue}
use Rattle.std.proofs.Math.Numerals.{add-one, sub-one}
use Rattle.std.proofs.Common.{Option, length-take, eqb→eq, length-drop}
use Rattle.std.specs.Prelude.{ℤ, pos, ◌==◌}
use Rattle.std.specs.Bool.{passes}
use Rattle.apl_tokens.specs.Symbols.{is_digit, is_blank}
use Rattle.apl_tokens.specs.Fronts.{AllPass}
use Rattle.apl_tokens.specs.Lexis.{BeginsWithNo, number_of_digits, number_after, AreDigits, IsNumeral, plain, negative, negated, HasNoNextNumeral, AreBlanks}
use Rattle.apl_tokens.specs.Scans.{IsCheckedNumber, IsNumeralAt, HasNoNumeral}

pub AllPass-more : (p : ℕ → Bool) (xs : List ℕ) (i x : ℕ) → i < length xs → AllPass p (take i xs) → x ≡ get_or xs i x → IsTrue (p x) → AllPass p (take (i + 1) xs)
AllPass-more p xs i x h front here passes = subst (λ (k : ℕ). AllPass p (take k xs)) (sym (add-one i)) (go xs i h front here)
  where
    go : (xs : List ℕ) (i : ℕ) → i < length xs → AllPass p (take i xs) → x ≡ get_or xs i x → AllPass p (take (suc i) xs)
    go [] i h front here = tt
    go (y ∷ xs) zero h front here = (subst (λ (z : ℕ). IsTrue (p z)) here passes, tt)
    go (y ∷ xs) (suc i) h front here = (front.0, go xs i (omega arith) front.1 here)

number_grows : (n : ℕ) (ds : List ℕ) → n ≤ number_after n ds
number_grows n [] = omega arith
number_grows n (d ∷ ds) = omega (arith, number_grows (10 * n + (d - 48)) ds)

pub number_beyond : (digits : List ℕ) (n i x most : ℕ) → i < length digits → number_of_digits digits ≡ number_after n (drop i digits) → x ≡ get_or digits i x → most < 10 * n + (x - 48) → most < number_of_digits digits
number_beyond digits n i x most h so_far here beyond = subst (λ (k : ℕ). most < k) (sym so_far) (go digits i h here)
  where
    go : (ds : List ℕ) (i : ℕ) → i < length ds → x ≡ get_or ds i x → most < number_after n (drop i ds)
    go [] i h here = absurd (omega arith)
    go (d ∷ ds) zero h here = let beyond' : most < 10 * n + (d - 48) = subst (λ (z : ℕ). most < 10 * n + (z - 48)) here beyond in omega (arith, number_grows (10 * n + (d - 48)) ds)
    go (d ∷ ds) (suc i) h here = go ds i (omega arith) here

are_digits : (ds : List ℕ) → (length ds ≡ 0 → ⊥) → AllPass is_digit ds → AreDigits ds
are_digits [] some pass = absurd (some refl)
are_digits (d ∷ ds) some pass = pass

pub plain_at : (text : List ℕ) (d : ℕ) (v : Option ℤ) → d ≤ length text → (d ≡ 0 → ⊥) → AllPass is_digit (take d text) → BeginsWithNo is_digit (drop d text) → IsCheckedNumber (pos (number_of_digits (take d text))) v → IsNumeralAt text d v
plain_at text d v within some pass longest checked = record {
  within = within;
  z = pos (number_of_digits (take d text));
  is = plain (take d text) (are_digits (take d text) (λ none. some (omega (arith, length-take d text))) pass);
  longest = longest;
  checked = checked;
}

take_all : (xs : List ℕ) → take (length xs) xs ≡ xs
take_all [] = refl
take_all (x ∷ xs) = ap (λ y. x ∷ y) (take_all xs)

pub signed : (text : List ℕ) (x : ℕ) → 0 < length text → x ≡ get_or text 0 x → x ≡ 175 → text ≡ 175 ∷ take (length text - 1) (drop 1 text)
signed [] x long at is = absurd (omega arith)
signed (c ∷ cs) x long at is =
    let rest : take (suc (length cs) - 1) cs ≡ cs = rw sub-one (take_all cs) in
    let head : c ≡ 175 = sym at ∙ is in
    cc

pub negative_at : (text rest : List ℕ) (d : ℕ) (v : Option ℤ) → text ≡ 175 ∷ rest → d ≤ length rest → (d ≡ 0 → ⊥) → AllPass is_digit (take d rest) → BeginsWithNo is_digit (drop d rest) → IsCheckedNumber (negated (number_of_digits (take d rest))) v → IsNumeralAt text (d + 1) v
negative_at text rest d v split within some pass longest checked =
    rw (split, add-one) (record {
      within = omega arith;
      z = negated (number_of_digits (take d rest));
      is = negative (take d rest) (are_digits (take d rest) (λ none. some (omega (arith, length-take d rest))) pass);
      longest = longest;
      checked = checked;
    })

digits_begin : (text numeral after : List ℕ) → text ≡ numeral ++ after → AreDigits numeral → BeginsWithNo is_digit text → ⊥
digits_begin text [] after e h none = h
digits_begin [] (d ∷ ds) after e h none = absurd cc
digits_begin (c ∷ cs) (d ∷ ds) after e h none =
    let same : c ≡ d = cc in
    let no_digit : is_digit d ≡ false = ap is_digit (sym same) ∙ none in
    let digit : is_digit d ≡ true = h.0 in
    absurd cc

-- no digits begin a text that doesn't begin with a high minus
pub no_plain : (text : List ℕ) → (0 < length text → get_or text 0 0 ≡ 175 → ⊥) → BeginsWithNo is_digit text → HasNoNumeral text
no_plain text unsigned none numeral after z e (plain digits h) = digits_begin text digits after e h none
no_plain [] unsigned none numeral after z e (negative digits h) = absurd cc
no_plain (c ∷ cs) unsigned none numeral after z e (negative digits h) = unsigned (omega arith) cc

pub no_negative : (text rest : List ℕ) → text ≡ 175 ∷ rest → BeginsWithNo is_digit rest → HasNoNumeral text
no_negative text rest split none numeral after z e (negative digits h) =
    let tails : rest ≡ digits ++ after = cc in
    digits_begin rest digits after tails h none
no_negative text rest split none numeral after z e (plain [] h) = h
no_negative text rest split none numeral after z e (plain (d ∷ ds) h) =
    let same : 175 ≡ d = cc in
    let digit : is_digit 175 ≡ true = ap is_digit same ∙ h.0 in
    absurd cc

pub positive : (n : ℕ) → false ≡ (n == 0) → 0 < n
positive zero h = absurd cc
positive (suc n) h = omega arith

pub digit_is_no_blank : (c : ℕ) → IsTrue (is_digit c) → is_blank c ≡ false
digit_is_no_blank c digit = by_test (is_blank c) refl
  where
    by_test : (b : Bool) → is_blank c ≡ b → is_blank c ≡ false
    by_test false h = h
    by_test true h =
        let is : c ≡ 32 = eqb→eq c 32 (passes (is_blank c) h) in
        let digit32 : is_digit 32 ≡ true = ap is_digit (sym is) ∙ digit in
        absurd cc

pub numeral_begins : (numeral rest : List ℕ) (z : ℤ) → IsNumeral numeral z → BeginsWithNo is_blank (numeral ++ rest)
numeral_begins numeral rest z (plain [] h) = absurd h
numeral_begins numeral rest z (plain (d ∷ ds) h) = digit_is_no_blank d h.0
numeral_begins numeral rest z (negative digits h) = refl

pub blanks : (text : List ℕ) (gap : ℕ) → gap ≤ length text → (gap ≡ 0 → ⊥) → AllPass is_blank (take gap text) → AreBlanks (take gap text)
blanks text zero within some pass = absurd (some refl)
blanks [] (suc gap) within some pass = absurd (omega arith)
blanks (c ∷ cs) (suc gap) within some pass = pass

-- blanks have one end
past_blanks : (text gap rest : List ℕ) (n : ℕ) → AllPass is_blank (take n text) → BeginsWithNo is_blank (drop n text) → AllPass is_blank gap → BeginsWithNo is_blank rest → text ≡ gap ++ rest → drop n text ≡ rest
past_blanks text [] rest zero front longest blank begins e = e
past_blanks [] [] rest (suc n) front longest blank begins e = e
past_blanks (c ∷ cs) [] rest (suc n) front longest blank begins e =
    let no_blank : is_blank c ≡ false = subst (BeginsWithNo is_blank) (sym e) begins in
    let is : is_blank c ≡ true = front.0 in
    absurd cc
past_blanks [] (b ∷ gap) rest n front longest blank begins e = absurd cc
past_blanks (c ∷ cs) (b ∷ gap) rest zero front longest blank begins e =
    let same : c ≡ b = cc in
    let is : is_blank c ≡ true = ap is_blank same ∙ blank.0 in
    let no_blank : is_blank c ≡ false = longest in
    absurd cc
past_blanks (c ∷ cs) (b ∷ gap) rest (suc n) front longest blank begins e = past_blanks cs gap rest n front.1 longest blank.1 begins cc

pub all_blanks : (gap : List ℕ) → AreBlanks gap → AllPass is_blank gap
all_blanks [] h = tt
all_blanks (c ∷ cs) h = h

pub no_next : (text : List ℕ) (n : ℕ) → AllPass is_blank (take n text) → BeginsWithNo is_blank (drop n text) → HasNoNumeral (drop n text) → HasNoNextNumeral text
no_next text n front longest none gap numeral rest z blank is e =
    none numeral rest z (past_blanks text gap (numeral ++ rest) n front longest (all_blanks gap blank) (numeral_begins numeral rest z is) e) is

pub no_blanks : (text : List ℕ) → BeginsWithNo is_blank text → HasNoNextNumeral text
no_blanks text none [] numeral rest z blank is e = blank
no_blanks [] none (b ∷ gap) numeral rest z blank is e = absurd cc
no_blanks (c ∷ cs) none (b ∷ gap) numeral rest z blank is e =
    let same : c ≡ b = cc in
    let yes_blank : is_blank c ≡ true = ap is_blank same ∙ blank.0 in
    let no_blank : is_blank c ≡ false = none in
    absurd cc

pub rest_of : (text : List ℕ) (n : ℕ) → take (length text - n) (drop n text) ≡ drop n text
rest_of text n = ap (λ k. take k (drop n text)) (sym (length-drop n text)) ∙ take_all (drop n text)

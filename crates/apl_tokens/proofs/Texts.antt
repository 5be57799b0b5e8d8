-- Characters of a text, and where it is no longer UTF-8.
use Rattle.std.proofs.Common.{◌≡◌, ◌++◌, ◌∷◌, [], List, refl, sym, ◌∙◌, ap, subst, arith, inl, inr, length, take, drop, ◌+◌, ◌<◌, ◌≤◌, ℕ, zero, suc, Bool, length-append, append_assoc, get_or, add-one}
use Rattle.std.specs.Prelude.{IsTrue, encode_utf8, encode_utf8_all}
use Rattle.std.proofs.lemmas.Bool.Decides.{nat_tests}
use Rattle.std.specs.Char.{IsScalar}
use Rattle.std.specs.Str.{StartsWithNoChar, IsValidUpTo, IsUtf8, chars}
use Rattle.std.proofs.Math.Seq.{take-add}
use Rattle.std.proofs.lemmas.Str.{IsUtf8-append, IsUtf8-encode, length-encode, len_utf8_bounds, encodes-append}
use Rattle.std.proofs.lemmas.Str.{length-le-encodes, encode_same, encodes_same, encodes-chars, chars_from_encodes}
use Rattle.std.proofs.lemmas.List.{append-nil, take-append-drop}
use Rattle.std.specs.Prelude.{◌==◌, ◌&&◌, ◌||◌, nat_lt}
use Rattle.std.specs.Bool.{passes}
use Rattle.std.specs.List.{list_any}
use Rattle.std.proofs.Common.{eqb→eq, Bool, true, false}
use Rattle.apl_tokens.specs.Symbols.{is_listed_ascii, is_listed, non_ascii_symbols}
use Rattle.apl_tokens.specs.Fronts.{AllPass, IsFront}
use Rattle.apl_tokens.specs.Scans.{ListsUpTo, EndsOrUnlisted}
use Rattle.apl_tokens.proofs.Leads.{both}

pub no_char_at_end : StartsWithNoChar []
no_char_at_end c rest scalar e =
    let none : 0 ≡ length (encode_utf8 c) + length rest = ap length e ∙ length-append (encode_utf8 c) rest in
    omega (arith, none, length-encode c, len_utf8_bounds c)

pub drop_all : (xs : List ℕ) (n : ℕ) → n ≡ length xs → drop n xs ≡ []
drop_all [] n e = rw e refl
drop_all (x ∷ xs) n e = rw e (drop_all xs (length xs) refl)

take_front : (xs ys : List ℕ) → take (length xs) (xs ++ ys) ≡ xs
take_front [] ys = refl
take_front (x ∷ xs) ys = ap (λ zs. x ∷ zs) (take_front xs ys)

pub no_char_behind : (bs : List ℕ) (n : ℕ) → IsValidUpTo bs n → StartsWithNoChar (drop n bs)
no_char_behind bs n valid c rest scalar e =
    let one : take (length (encode_utf8 c)) (drop n bs) ≡ encode_utf8 c = ap (take (length (encode_utf8 c))) e ∙ take_front (encode_utf8 c) rest in
    let more : take n bs ++ encode_utf8 c ≡ take (n + length (encode_utf8 c)) bs = sym (take-add n (length (encode_utf8 c)) bs ∙ ap (λ x. take n bs ++ x) one) in
    let grows : n < n + length (encode_utf8 c) = omega (arith, length-encode c, len_utf8_bounds c) in
    valid.longest (n + length (encode_utf8 c)) grows (subst IsUtf8 more (IsUtf8-append (take n bs) (encode_utf8 c) valid.front (IsUtf8-encode c scalar)))

all_more : (p : ℕ → Bool) (cs : List ℕ) (c : ℕ) → AllPass p cs → IsTrue (p c) → AllPass p (cs ++ c ∷ [])
all_more p [] c h k = (k, tt)
all_more p (d ∷ cs) c h k = (h.0, all_more p cs c h.1 k)

one_encoded : (c : ℕ) → encode_utf8_all (c ∷ []) ≡ encode_utf8 c
one_encoded c = append-nil (encode_utf8 c)

-- one more character of a text
pub Encodes-more : (text rest after cs : List ℕ) (c : ℕ) → text ≡ encode_utf8_all cs ++ rest → rest ≡ encode_utf8 c ++ after → text ≡ encode_utf8_all (cs ++ c ∷ []) ++ after
Encodes-more text rest after cs c e f =
    let one : encode_utf8_all (cs ++ c ∷ []) ≡ encode_utf8_all cs ++ encode_utf8 c = encodes-append cs (c ∷ []) ∙ ap (λ x. encode_utf8_all cs ++ x) (one_encoded c) in
    e ∙ ap (λ x. encode_utf8_all cs ++ x) f ∙ sym (append_assoc (encode_utf8_all cs) (encode_utf8 c) after) ∙ ap (λ x. x ++ after) (sym one)

pub Encodes-all : (text rest cs : List ℕ) → IsUtf8 text → text ≡ encode_utf8_all cs ++ rest → length rest ≡ 0 → cs ≡ chars text
Encodes-all text [] cs u e none = chars_from_encodes cs text u (sym (append-nil (encode_utf8_all cs)) ∙ sym e)
Encodes-all text (c ∷ rest) cs u e none = absurd (omega arith)

pub ListsUpTo-more : (text rest after : List ℕ) (bytes count c n : ℕ) → ListsUpTo text rest bytes count → rest ≡ encode_utf8 c ++ after → IsTrue (is_listed c) → n ≡ length (encode_utf8 c) → ListsUpTo text after (bytes + n) (count + 1)
ListsUpTo-more text rest after bytes count c n h e listed len =
    let all : encode_utf8_all (h.characters ++ c ∷ []) ≡ encode_utf8_all h.characters ++ encode_utf8 c = encodes-append h.characters (c ∷ []) ∙ ap (λ x. encode_utf8_all h.characters ++ x) (one_encoded c) in
    record {
      characters = h.characters ++ c ∷ [];
      listed = all_more is_listed h.characters c h.listed listed;
      split = h.split ∙ ap (λ x. encode_utf8_all h.characters ++ x) e ∙ sym (append_assoc (encode_utf8_all h.characters) (encode_utf8 c) after) ∙ ap (λ x. x ++ after) (sym all);
      len = omega (arith, h.len, len, ap length all, length-append (encode_utf8_all h.characters) (encode_utf8 c));
      counted = omega (arith, h.counted, length-append h.characters (c ∷ []));
    }

pub ListsUpTo-fits : (text rest after : List ℕ) (bytes count c : ℕ) → ListsUpTo text rest bytes count → rest ≡ encode_utf8 c ++ after → count < length text
ListsUpTo-fits text rest after bytes count c h e =
    let whole : length text ≡ length (encode_utf8_all h.characters) + length rest = ap length h.split ∙ length-append (encode_utf8_all h.characters) rest in
    let some : length rest ≡ length (encode_utf8 c) + length after = ap length e ∙ length-append (encode_utf8 c) after in
    omega (arith, whole, some, h.counted, length-le-encodes h.characters, length-encode c, len_utf8_bounds c)

drop_front : (xs ys : List ℕ) (n : ℕ) → n ≡ length xs → drop n (xs ++ ys) ≡ ys
drop_front [] ys n e = rw e refl
drop_front (x ∷ xs) ys n e = rw e (drop_front xs ys (length xs) refl)

pub ListsUpTo-rest : (text rest : List ℕ) (bytes count : ℕ) → ListsUpTo text rest bytes count → drop bytes text ≡ rest
ListsUpTo-rest text rest bytes count h = ap (drop bytes) h.split ∙ drop_front (encode_utf8_all h.characters) rest bytes h.len

abbrev all_small : List ℕ → Bool
all_small [] = true
all_small (c ∷ cs) = nat_lt c 0xD800 && all_small cs

one_of_small : (cs : List ℕ) (c : ℕ) → all_small cs ≡ true → list_any (λ s. s == c) cs ≡ true → nat_lt c 0xD800 ≡ true
one_of_small [] c small h = absurd cc
one_of_small (d ∷ cs) c small h =
    let (first, rest) = both (nat_lt d 0xD800) (all_small cs) small in
    by_test (d == c) refl first (one_of_small cs c rest) h
  where
    by_test : (b : Bool) → (d == c) ≡ b → nat_lt d 0xD800 ≡ true → (list_any (λ s. s == c) cs ≡ true → nat_lt c 0xD800 ≡ true) → (b || list_any (λ s. s == c) cs) ≡ true → nat_lt c 0xD800 ≡ true
    by_test true e first below h = ap (λ x. nat_lt x 0xD800) (sym (eqb→eq d c (passes (d == c) e))) ∙ first
    by_test false e first below h = below h

pub ascii_below : (c : ℕ) → is_listed_ascii c ≡ true → c < 128
ascii_below c h = grind (arith, nat_tests, h)

listed_is_small : (c : ℕ) → IsTrue (is_listed c) → nat_lt c 0xD800 ≡ true
listed_is_small c h = by_test (is_listed_ascii c) refl h
  where
    by_test : (b : Bool) → is_listed_ascii c ≡ b → (b || list_any (λ s. s == c) non_ascii_symbols) ≡ true → nat_lt c 0xD800 ≡ true
    by_test true e h = let small : c < 128 = ascii_below c e in grind (arith, nat_tests)
    by_test false e h = one_of_small non_ascii_symbols c refl h

pub listed_is_scalar : (c : ℕ) → IsTrue (is_listed c) → IsScalar c
listed_is_scalar c h = rw (listed_is_small c h) refl

-- the listed characters of the longest text at the front of a line are the front of the line
pub front_of : (line text : List ℕ) (bytes count : ℕ) → text ≡ take (length text) line → StartsWithNoChar (drop (length text) line) → (h : ListsUpTo text (drop bytes text) bytes count) → EndsOrUnlisted (drop bytes text) → IsFront line h.characters (drop bytes text ++ drop (length text) line)
front_of line text bytes count front none h ends = record {
  listed = h.listed;
  split = sym (take-append-drop (length text) line) ∙ ap (λ x. x ++ drop (length text) line) (sym front ∙ h.split) ∙ append_assoc (encode_utf8_all h.characters) (drop bytes text) (drop (length text) line);
  longest = λ c after listed e. by_end ends c after listed e;
}
  where
    by_end : EndsOrUnlisted (drop bytes text) → (c : ℕ) (after : List ℕ) → IsTrue (is_listed c) → drop bytes text ++ drop (length text) line ≡ encode_utf8 c ++ after → ⊥
    by_end (inl over) c after listed e = none c after (listed_is_scalar c listed) (ap (λ x. x ++ drop (length text) line) (sym over) ∙ e)
    by_end (inr (d, more, split, not)) c after listed e =
        let whole : encode_utf8 d ++ (more ++ drop (length text) line) ≡ encode_utf8 c ++ after = sym (append_assoc (encode_utf8 d) more (drop (length text) line)) ∙ ap (λ x. x ++ drop (length text) line) (sym split) ∙ e in
        let same : d ≡ c = (encode_same d c (more ++ drop (length text) line) after whole).0 in
        not (subst (λ (x : ℕ). IsTrue (is_listed x)) (sym same) listed)

pub rest_is_some : (line text : List ℕ) (bytes count : ℕ) → text ≡ take (length text) line → (h : ListsUpTo text (drop bytes text) bytes count) → bytes < length line → drop bytes text ++ drop (length text) line ≡ [] → ⊥
rest_is_some line text bytes count front h more e =
    let whole : length line ≡ length text + length (drop (length text) line) = ap length (sym (take-append-drop (length text) line)) ∙ length-append (take (length text) line) (drop (length text) line) ∙ ap (λ x. length x + length (drop (length text) line)) (sym front) in
    let none : length (drop bytes text) + length (drop (length text) line) ≡ 0 = sym (length-append (drop bytes text) (drop (length text) line)) ∙ ap length e in
    let part : length text ≡ length (encode_utf8_all h.characters) + length (drop bytes text) = ap length h.split ∙ length-append (encode_utf8_all h.characters) (drop bytes text) in
    omega (arith, whole, none, part, h.len)

pub whole_front : (line text : List ℕ) (bytes count : ℕ) → IsUtf8 text → text ≡ take (length text) line → StartsWithNoChar (drop (length text) line) → ListsUpTo text (drop bytes text) bytes count → EndsOrUnlisted (drop bytes text) → length line ≤ bytes → IsFront line (chars text) []
whole_front line text bytes count utf8 front none h ends all =
    let whole : length line ≡ length text + length (drop (length text) line) = ap length (sym (take-append-drop (length text) line)) ∙ length-append (take (length text) line) (drop (length text) line) ∙ ap (λ x. length x + length (drop (length text) line)) (sym front) in
    let part : length text ≡ length (encode_utf8_all h.characters) + length (drop bytes text) = ap length h.split ∙ length-append (encode_utf8_all h.characters) (drop bytes text) in
    let over : drop bytes text ≡ [] = empty (drop bytes text) (omega (arith, whole, part, h.len, all)) in
    let past : drop (length text) line ≡ [] = empty (drop (length text) line) (omega (arith, whole, part, h.len, all)) in
    let same : h.characters ≡ chars text = encodes_same h.characters (chars text) (sym (append-nil (encode_utf8_all h.characters)) ∙ ap (λ x. encode_utf8_all h.characters ++ x) (sym over) ∙ sym h.split ∙ sym (encodes-chars text utf8)) in
    subst (λ (x : List ℕ). IsFront line x []) same (subst (λ (x : List ℕ). IsFront line h.characters x) (ap (λ x. x ++ drop (length text) line) over ∙ past) (front_of line text bytes count front none h ends))
  where
    empty : (xs : List ℕ) → length xs ≡ 0 → xs ≡ []
    empty [] e = refl
    empty (x ∷ xs) e = absurd (omega (arith, e))

-- one more character of a text, in UTF-8
pub encodes_more : (cs : List ℕ) (i x : ℕ) → i < length cs → x ≡ get_or cs i x → encode_utf8_all (take (i + 1) cs) ≡ encode_utf8_all (take i cs) ++ encode_utf8 x
encodes_more cs i x h at = ap encode_utf8_all (take_more cs i x h at) ∙ encodes-append (take i cs) (x ∷ []) ∙ ap (λ y. encode_utf8_all (take i cs) ++ y) (one_encoded x)
  where
    take_more : (cs : List ℕ) (i x : ℕ) → i < length cs → x ≡ get_or cs i x → take (i + 1) cs ≡ take i cs ++ x ∷ []
    take_more cs i x h at = rw add-one (go cs i h at)
      where
        go : (cs : List ℕ) (i : ℕ) → i < length cs → x ≡ get_or cs i x → take (suc i) cs ≡ take i cs ++ x ∷ []
        go [] i h at = absurd (omega arith)
        go (c ∷ cs) zero h at = ap (λ y. y ∷ []) (sym at)
        go (c ∷ cs) (suc i) h at = ap (λ y. c ∷ y) (go cs i (omega arith) at)

-- a line has one front
pub IsFront-unique : (b c d r s : List ℕ) → IsFront b c r → IsFront b d s → (c ≡ d) × (r ≡ s)
IsFront-unique b c d r s h k = go c d h.listed k.listed (sym h.split ∙ k.split)
  where
    go : (c d : List ℕ) → AllPass is_listed c → AllPass is_listed d → encode_utf8_all c ++ r ≡ encode_utf8_all d ++ s → (c ≡ d) × (r ≡ s)
    go [] [] p q e = (refl, e)
    go [] (y ∷ d) p q e = absurd (h.longest y (encode_utf8_all d ++ s) q.0 (e ∙ append_assoc (encode_utf8 y) (encode_utf8_all d) s))
    go (x ∷ c) [] p q e = absurd (k.longest x (encode_utf8_all c ++ r) p.0 (sym e ∙ append_assoc (encode_utf8 x) (encode_utf8_all c) r))
    go (x ∷ c) (y ∷ d) p q e =
        let same = encode_same x y (encode_utf8_all c ++ r) (encode_utf8_all d ++ s) (sym (append_assoc (encode_utf8 x) (encode_utf8_all c) r) ∙ e ∙ append_assoc (encode_utf8 y) (encode_utf8_all d) s) in
        let rest = go c d p.1 q.1 same.1 in
        (heads x y c d same.0 rest.0, rest.1)
      where
        heads : (x y : ℕ) (c d : List ℕ) → x ≡ y → c ≡ d → ◌≡◌ {A = List ℕ} (x ∷ c) (y ∷ d)
        heads x y c d p q = cc

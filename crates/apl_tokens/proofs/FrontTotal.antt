-- Each line has a front.
use Rattle.std.proofs.Common.{◌≡◌, ◌++◌, ◌∷◌, [], List, refl, sym, ◌∙◌, ap, subst, arith, inl, inr, ◌⊎◌, length, ◌+◌, ◌<◌, ◌≤◌, ℕ, zero, suc, Bool, true, false, append_assoc, length-append, eqb→eq, eq-eqb}
use Rattle.std.specs.Prelude.{IsTrue, ◌==◌, ◌||◌, encode_utf8, encode_utf8_all}
use Rattle.std.specs.Bool.{passes}
use Rattle.std.specs.List.{list_any}
use Rattle.std.proofs.lemmas.Str.{encode_ascii, length-encode, len_utf8_bounds}
use Rattle.apl_tokens.specs.Symbols.{is_listed_ascii, is_listed, non_ascii_symbols}
use Rattle.apl_tokens.specs.Fronts.{IsFront}
use Rattle.apl_tokens.proofs.Texts.{ascii_below}

conses : (c d : ℕ) (cs ds : List ℕ) → c ≡ d → cs ≡ ds → ◌≡◌ {A = List ℕ} (c ∷ cs) (d ∷ ds)
conses c d cs ds p q = cc

-- whether a text begins with another
begins_with : (xs bs : List ℕ) → ((after : List ℕ) × (bs ≡ xs ++ after)) ⊎ ((after : List ℕ) → bs ≡ xs ++ after → ⊥)
begins_with [] bs = inl (bs, refl)
begins_with (x ∷ xs) [] = inr (λ after e. absurd cc)
begins_with (x ∷ xs) (b ∷ bs) = by_test (x == b) refl (begins_with xs bs)
  where
    by_test : (t : Bool) → (x == b) ≡ t → ((after : List ℕ) × (bs ≡ xs ++ after)) ⊎ ((after : List ℕ) → bs ≡ xs ++ after → ⊥) → ((after : List ℕ) × (b ∷ bs ≡ x ∷ (xs ++ after))) ⊎ ((after : List ℕ) → b ∷ bs ≡ x ∷ (xs ++ after) → ⊥)
    by_test true t (inl (after, e)) = inl (after, conses b x bs (xs ++ after) (sym (eqb→eq x b (passes (x == b) t))) e)
    by_test true t (inr not) = inr (λ after e. let tail : bs ≡ xs ++ after = cc in not after tail)
    by_test false t found =
        inr (λ after e.
        let head : b ≡ x = cc in
        let same : (x == b) ≡ true = eq-eqb x b (sym head) in
        absurd cc)

-- whether a text begins with one of these symbols
one_begins : (symbols bs : List ℕ) → ((c : ℕ) × (after : List ℕ) × (list_any (λ s. s == c) symbols ≡ true) × (bs ≡ encode_utf8 c ++ after)) ⊎ ((c : ℕ) (after : List ℕ) → list_any (λ s. s == c) symbols ≡ true → bs ≡ encode_utf8 c ++ after → ⊥)
one_begins [] bs = inr (λ c after h e. absurd cc)
one_begins (x ∷ xs) bs = by_first (begins_with (encode_utf8 x) bs) (one_begins xs bs)
  where
    by_first : ((after : List ℕ) × (bs ≡ encode_utf8 x ++ after)) ⊎ ((after : List ℕ) → bs ≡ encode_utf8 x ++ after → ⊥)
        → ((c : ℕ) × (after : List ℕ) × (list_any (λ s. s == c) xs ≡ true) × (bs ≡ encode_utf8 c ++ after)) ⊎ ((c : ℕ) (after : List ℕ) → list_any (λ s. s == c) xs ≡ true → bs ≡ encode_utf8 c ++ after → ⊥)
        → ((c : ℕ) × (after : List ℕ) × (((x == c) || list_any (λ s. s == c) xs) ≡ true) × (bs ≡ encode_utf8 c ++ after)) ⊎ ((c : ℕ) (after : List ℕ) → ((x == c) || list_any (λ s. s == c) xs) ≡ true → bs ≡ encode_utf8 c ++ after → ⊥)
    by_first (inl (after, e)) others = let same : (x == x) ≡ true = eq-eqb x x refl in inl (x, after, rw same refl, e)
    by_first (inr not) (inl (c, after, h, e)) = inl (c, after, or_right (x == c) (list_any (λ s. s == c) xs) h, e)
      where
        or_right : (a b : Bool) → b ≡ true → (a || b) ≡ true
        or_right true b h = refl
        or_right false b h = h
    by_first (inr not) (inr none) = inr (λ c after h e. by_test c after (x == c) refl h e)
      where
        by_test : (c : ℕ) (after : List ℕ) (t : Bool) → (x == c) ≡ t → (t || list_any (λ s. s == c) xs) ≡ true → bs ≡ encode_utf8 c ++ after → ⊥
        by_test c after true t h e = not after (subst (λ (y : ℕ). bs ≡ encode_utf8 y ++ after) (sym (eqb→eq x c (passes (x == c) t))) e)
        by_test c after false t h e = none c after h e

record Symbol (bs : List ℕ) : Type 0 where
  character : ℕ
  after : List ℕ
  listed : IsTrue (is_listed character)
  split : bs ≡ encode_utf8 character ++ after

abbrev NoSymbol : List ℕ → Type 0
NoSymbol bs = (c : ℕ) (after : List ℕ) → IsTrue (is_listed c) → bs ≡ encode_utf8 c ++ after → ⊥

some_bytes : (c : ℕ) (after bs : List ℕ) → bs ≡ encode_utf8 c ++ after → length after < length bs
some_bytes c after bs e =
    let whole : length bs ≡ length (encode_utf8 c) + length after = ap length e ∙ length-append (encode_utf8 c) after in
    omega (arith, whole, length-encode c, len_utf8_bounds c)

-- whether a text begins with a listed symbol
symbol_begins : (bs : List ℕ) → Symbol bs ⊎ NoSymbol bs
symbol_begins [] = inr (λ c after listed e. absurd (omega (arith, some_bytes c after [] e)))
symbol_begins (b ∷ rest) = by_range (is_listed_ascii b) refl (one_begins non_ascii_symbols (b ∷ rest))
  where
    or_right : (a t : Bool) → t ≡ true → (a || t) ≡ true
    or_right true t h = refl
    or_right false t h = h

    by_range : (t : Bool) → is_listed_ascii b ≡ t
        → ((c : ℕ) × (after : List ℕ) × (list_any (λ s. s == c) non_ascii_symbols ≡ true) × (b ∷ rest ≡ encode_utf8 c ++ after)) ⊎ ((c : ℕ) (after : List ℕ) → list_any (λ s. s == c) non_ascii_symbols ≡ true → b ∷ rest ≡ encode_utf8 c ++ after → ⊥)
        → Symbol (b ∷ rest) ⊎ NoSymbol (b ∷ rest)
    by_range true e found = inl (record { character = b; after = rest; listed = rw e refl; split = ap (λ x. x ++ rest) (sym (encode_ascii b (ascii_below b e))) })
    by_range false e (inl (c, after, h, split)) = inl (record { character = c; after = after; listed = or_right (is_listed_ascii c) (list_any (λ s. s == c) non_ascii_symbols) h; split = split })
    by_range false e (inr none) = inr (λ c after listed split. by_part c after (is_listed_ascii c) refl listed split)
      where
        by_part : (c : ℕ) (after : List ℕ) (t : Bool) → is_listed_ascii c ≡ t → (t || list_any (λ s. s == c) non_ascii_symbols) ≡ true → b ∷ rest ≡ encode_utf8 c ++ after → ⊥
        by_part c after true t listed split =
            let whole : b ∷ rest ≡ c ∷ after = split ∙ ap (λ x. x ++ after) (encode_ascii c (ascii_below c t)) in
            let head : b ≡ c = cc in
            let bad : is_listed_ascii c ≡ false = ap (λ x. is_listed_ascii x) (sym head) ∙ e in
            absurd cc
        by_part c after false t listed split = none c after listed split

record Front (bs : List ℕ) : Type 0 where
  characters : List ℕ
  rest : List ℕ
  is : IsFront bs characters rest

front_from : (n : ℕ) (bs : List ℕ) → length bs ≤ n → Front bs
front_from zero [] h = record { characters = []; rest = []; is = record { listed = tt; split = refl; longest = λ c after listed e. omega (arith, some_bytes c after [] e) } }
front_from zero (b ∷ bs) h = absurd (omega arith)
front_from (suc n) bs h = by_symbol (λ rest small. front_from n rest small) (symbol_begins bs)
  where
    by_symbol : ((rest : List ℕ) → length rest ≤ n → Front rest) → Symbol bs ⊎ NoSymbol bs → Front bs
    by_symbol recurse (inr none) = record { characters = []; rest = bs; is = record { listed = tt; split = refl; longest = none } }
    by_symbol recurse (inl s) =
        let f = recurse s.after (omega (arith, h, some_bytes s.character s.after bs s.split)) in
        record {
          characters = s.character ∷ f.characters;
          rest = f.rest;
          is = record {
            listed = (s.listed, f.is.listed);
            split = s.split ∙ ap (λ x. encode_utf8 s.character ++ x) f.is.split ∙ sym (append_assoc (encode_utf8 s.character) (encode_utf8_all f.characters) f.rest);
            longest = f.is.longest;
          };
        }

pub IsFront-total : (bs : List ℕ) → (c r : List ℕ) × IsFront bs c r
IsFront-total bs = let f = front_from (length bs) bs (omega arith) in (f.characters, f.rest, f.is)

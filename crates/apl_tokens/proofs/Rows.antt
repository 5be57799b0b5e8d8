-- One more numeral at the end of a row.
use Rattle.std.proofs.Common.{◌≡◌, ◌++◌, ◌∷◌, [], List, Option, Some, None, refl, sym, ◌∙◌, ap, subst, arith, length, take, drop, ◌+◌, ◌-◌, ◌≤◌, ◌<◌, ℕ, append_assoc, length-append, length-take, length-drop}
use Rattle.std.specs.Prelude.{ℤ, map, IfSome, IfNone}
use Rattle.std.proofs.lemmas.List.{drop-drop}
use Rattle.std.proofs.Math.Seq.{take-add}
use Rattle.apl_tokens.specs.declared.lexer.NextNumeral.{NextNumeral}
use Rattle.apl_tokens.specs.Symbols.{is_digit}
use Rattle.apl_array.specs.Range.{IsInRange}
use Rattle.apl_tokens.specs.Lexis.{BeginsWithNo, IsNumeral, plain, negative, AreBlanks, HasNoNextNumeral, Numeral, AreNumerals, AreInRange, FirstOutOfRange, here, later}
use Rattle.apl_tokens.specs.Scans.{AreCheckedNumbers, IsCheckedNumber, IsNumeralRow, IsNumeralAt, IsNextNumeralAt, GoesOn, with_number}
use Rattle.apl_tokens.proofs.Runs.{rest_of}

abbrev numbers : List Numeral → List ℤ
numbers ns = map (λ n. n.1) ns

AreNumerals-more : (p : ℕ) (t : List ℕ) (ns : List Numeral) (g x : List ℕ) (z : ℤ) (q : ℕ) → AreNumerals p t ns → AreBlanks g → IsNumeral x z → q ≡ p + length (t ++ g) → AreNumerals p (t ++ (g ++ x)) (ns ++ (q, z) ∷ [])
AreNumerals-more p t [] g x z q h blank is at = absurd h
AreNumerals-more p t (n ∷ []) g x z q h blank is at = (t, g, x, refl, h.0, h.1, blank, (is, at))
AreNumerals-more p t (n ∷ m ∷ ns) g x z q (f, gap, r, split, num, place, blanks, more) blank is at =
    let whole : length t ≡ length f + (length gap + length r) = ap length split ∙ simp length-append in
    let spot : q ≡ (p + length (f ++ gap)) + length (r ++ g) = simp length-append (omega (arith, at, whole, length-append t g)) in
    (f, gap, r ++ (g ++ x), ap (λ y. y ++ (g ++ x)) split ∙ simp append_assoc, num, place, blanks, AreNumerals-more (p + length (f ++ gap)) r (m ∷ ns) g x z q more blank is spot)

in_range_more : (ns : List Numeral) (n : Numeral) → AreInRange ns → IsInRange n.1 → AreInRange (ns ++ n ∷ [])
in_range_more [] n h k = (k, tt)
in_range_more (m ∷ ns) n h k = (h.0, in_range_more ns n h.1 k)

numbers-more : (ns : List Numeral) (n : Numeral) → numbers (ns ++ n ∷ []) ≡ numbers ns ++ n.1 ∷ []
numbers-more [] n = refl
numbers-more (m ∷ ns) n = ap (λ zs. m.1 ∷ zs) (numbers-more ns n)

beyond_more : {ns : List Numeral} {p : ℕ} → (n : Numeral) → FirstOutOfRange ns p → FirstOutOfRange (ns ++ n ∷ []) p
beyond_more n (here h) = here h
beyond_more n (later h k) = later h (beyond_more n k)

beyond_new : (ns : List Numeral) (n : Numeral) → AreInRange ns → (IsInRange n.1 → ⊥) → FirstOutOfRange (ns ++ n ∷ []) n.0
beyond_new [] n h k = here k
beyond_new (m ∷ ns) n h k = later h.0 (beyond_new ns n h.1 k)

checked_step : (ns : List Numeral) (vs us : List ℤ) (b d : Option ℕ) (place : ℕ) (z : ℤ) (number : Option ℤ) → AreCheckedNumbers ns b vs → IsCheckedNumber z number → with_number vs b place number ≡ (us, d) → AreCheckedNumbers (ns ++ (place, z) ∷ []) d us
checked_step ns vs us b d place z number h k e = subst (λ (p : List ℤ × Option ℕ). AreCheckedNumbers (ns ++ (place, z) ∷ []) p.1 p.0) e (by_case b number h k)
  where
    by_case : (b : Option ℕ) (number : Option ℤ) → AreCheckedNumbers ns b vs → IsCheckedNumber z number → AreCheckedNumbers (ns ++ (place, z) ∷ []) (with_number vs b place number).1 (with_number vs b place number).0
    by_case (Some first) number h k = beyond_more (place, z) h
    by_case None None h k = beyond_new ns (place, z) h.0 k
    by_case None (Some v) h k = (in_range_more ns (place, z) h.0 k.1, ap (λ zs. zs ++ v ∷ []) h.1 ∙ ap (λ y. numbers ns ++ y ∷ []) k.0 ∙ sym (numbers-more ns (place, z)))

-- the place out of range is within the text so far
inside_step : (vs us : List ℤ) (b d : Option ℕ) (place len more : ℕ) (number : Option ℤ) → IfSome b (λ p. p ≤ len) → place ≤ more → len ≤ more → with_number vs b place number ≡ (us, d) → IfSome d (λ p. p ≤ more)
inside_step vs us b d place len more number h new grows e = subst (λ (p : List ℤ × Option ℕ). IfSome p.1 (λ p. p ≤ more)) e (by_case b number h)
  where
    by_case : (b : Option ℕ) (number : Option ℤ) → IfSome b (λ p. p ≤ len) → IfSome (with_number vs b place number).1 (λ p. p ≤ more)
    by_case (Some first) number h = omega (arith, h, grows)
    by_case None None h = new
    by_case None (Some v) h = tt

pub some_length : (x : List ℕ) (z : ℤ) → IsNumeral x z → 0 < length x
some_length x z (plain [] h) = absurd h
some_length x z (plain (d ∷ ds) h) = omega arith
some_length x z (negative ds h) = omega arith

blank_length : (g : List ℕ) → AreBlanks g → 0 < length g
blank_length [] h = absurd h
blank_length (c ∷ cs) h = omega arith

pub row_init : (text : List ℕ) (len : ℕ) (number : Option ℤ) (b : Option ℕ) (before vs : List ℤ) → IsNumeralAt text len number → before ≡ [] → with_number before None 0 number ≡ (vs, b) → IsNumeralRow text len 1 b vs
row_init text len number b before vs n none e = record {
  within = n.within;
  numerals = (0, n.z) ∷ [];
  spelled = (n.is, refl);
  digits = n.longest;
  counted = refl;
  few = omega (arith, some_length (take len text) n.z n.is, length-take len text);
  checked = checked_step [] before vs None b 0 n.z number (tt, none) n.checked e;
  inside = inside_step before vs None b 0 0 len number tt (omega arith) (omega arith) e;
}

pub row_more : (text : List ℕ) (len count : ℕ) (beyond b : Option ℕ) (values vs : List ℤ) (gap size : ℕ) (number : Option ℤ) → IsNumeralRow text len count beyond values → gap ≤ length (drop len text) → AreBlanks (take gap (drop len text)) → IsNumeralAt (drop gap (drop len text)) size number → with_number values beyond (len + gap) number ≡ (vs, b) → IsNumeralRow text (len + (gap + size)) (count + 1) b vs
row_more text len count beyond b values vs gap size number r fits blank n e =
    let rest : List ℕ = drop len text in
    let front : length (take len text) ≡ len = omega (arith, length-take len text, r.within) in
    let blanks : length (take gap rest) ≡ gap = omega (arith, length-take gap rest, fits) in
    let parts : take (len + (gap + size)) text ≡ take len text ++ (take gap rest ++ take size (drop gap rest)) = take-add len (gap + size) text ∙ ap (λ x. take len text ++ x) (take-add gap size rest) in
    let past : drop (len + (gap + size)) text ≡ drop size (drop gap rest) = sym (drop-drop (gap + size) len text) ∙ sym (drop-drop size gap rest) in
    let spot : len + gap ≡ 0 + length (take len text ++ take gap rest) = omega (arith, length-append (take len text) (take gap rest), front, blanks) in
    record {
      within = omega (arith, n.within, fits, r.within, length-drop len text, length-drop gap rest);
      numerals = r.numerals ++ (len + gap, n.z) ∷ [];
      spelled = subst (λ (t : List ℕ). AreNumerals 0 t (r.numerals ++ (len + gap, n.z) ∷ [])) (sym parts) (AreNumerals-more 0 (take len text) r.numerals (take gap rest) (take size (drop gap rest)) n.z (len + gap) r.spelled blank n.is spot);
      digits = subst (BeginsWithNo is_digit) (sym past) n.longest;
      counted = omega (arith, r.counted, length-append r.numerals ((len + gap, n.z) ∷ []));
      few = omega (arith, r.few, blank_length (take gap rest) blank, blanks);
      checked = checked_step r.numerals values vs beyond b (len + gap) n.z number r.checked n.checked e;
      inside = inside_step values vs beyond b (len + gap) len (len + (gap + size)) number r.inside (omega arith) (omega arith) e;
    }

pub some_so_far : (count : ℕ) (rest : List ℕ) (next : Option NextNumeral) → GoesOn count rest next → 0 < count
some_so_far count rest None more = omega (arith, more.1)
some_so_far count rest (Some n) more = more.1

pub goes_on : (text : List ℕ) (len count : ℕ) (next : Option NextNumeral) → 0 < count → IfSome next (λ n. IsNextNumeralAt (take (length text - len) (drop len text)) n.gap n.numeral.length n.numeral.number) → IfNone next (HasNoNextNumeral (take (length text - len) (drop len text))) → GoesOn (count + 1) (drop len text) next
goes_on text len count None some found none = (subst HasNoNextNumeral (rest_of text len) none, omega arith)
goes_on text len count (Some n) some found none = (subst (λ (rest : List ℕ). IsNextNumeralAt rest n.gap n.numeral.length n.numeral.number) (rest_of text len) found, omega arith)

pub row_next : (text : List ℕ) (len count : ℕ) (beyond b : Option ℕ) (values vs : List ℤ) (next : Option NextNumeral) (n : NextNumeral) → next ≡ Some n → IsNumeralRow text len count beyond values → GoesOn count (drop len text) next → with_number values beyond (len + n.gap) n.numeral.number ≡ (vs, b) → IsNumeralRow text (len + (n.gap + n.numeral.length)) (count + 1) b vs
row_next text len count beyond b values vs next n is r more e =
    let there : GoesOn count (drop len text) (Some n) = subst (λ (m : Option NextNumeral). GoesOn count (drop len text) m) is more in
    row_more text len count beyond b values vs n.gap n.numeral.length n.numeral.number r there.0.within there.0.blank there.0.numeral e

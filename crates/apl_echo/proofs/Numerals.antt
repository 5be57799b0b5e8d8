-- Numerals with blanks around them are read as their numbers.
use Rattle.std.proofs.Common.{◌≡◌, ℕ, ◌+◌, ◌^◌, ◌<◌, ℤ, pos, negsuc, suc, true, List, [], ◌∷◌, ◌++◌, length, map, refl, sym, ap, subst, ◌∙◌, arith, append_assoc}
use Rattle.std.specs.Prelude.{decimal, All}
use Rattle.std.proofs.lemmas.Bool.Decides.{nat_tests}
use Rattle.std.proofs.lemmas.Fmt.{decimal_nonempty, digits_decimal, digits_value-decimal}
use Rattle.std.proofs.lemmas.Int.{ints}
use Rattle.std.proofs.lemmas.List.{length-map}
use Rattle.std.proofs.lemmas.List.Elements.{All-head, All-tail}
use Rattle.std.proofs.lemmas.Str.Parse.{IsDigitsTest, FoldsDigits, IsNumeralModel, numerals_by_fold}
use Rattle.apl_array.specs.declared.array.Elem.TheVariants.{Int}
use Rattle.apl_array.specs.Range.{IsInRange, IsElementInRange}
use Rattle.apl_print.specs.Shown.{numeral_of, field_of}
use Rattle.apl_tokens.specs.Symbols.{is_digit, is_blank}
use Rattle.apl_tokens.specs.Fronts.{AllPass}
use Rattle.apl_tokens.specs.Lexis.{number_after, number_of_digits, AreDigits, negated, IsNumeral, plain, negative, Numeral, AreBlanks, AreNumerals, AreInRange, constant_shape}
use Rattle.apl_echo.proofs.Spaced.{BeginsWithSpace, IsSpaced}

digits_test : IsDigitsTest (AllPass is_digit)
digits_test = record {
  empty = tt;
  parts = λ c cs h. let first : is_digit c ≡ true = h.0 in ((grind (arith, nat_tests, first), grind (arith, nat_tests, first)), h.1);
  more = λ c cs within h. (grind (arith, nat_tests, within), h);
}

digits_fold : FoldsDigits number_after
digits_fold = record { empty = λ n. refl; more = λ n c cs within. ap (λ m. number_after m cs) (omega arith) }

model : IsNumeralModel (AllPass is_digit) number_of_digits
model = numerals_by_fold (AllPass is_digit) digits_test number_after digits_fold

some_digits : (digits : List ℕ) → 0 < length digits → AllPass is_digit digits → AreDigits digits
some_digits [] some pass = absurd (omega arith)
some_digits (d ∷ ds) some pass = pass

are_digits : (n : ℕ) → n < 2 ^ 64 → AreDigits (decimal n)
are_digits n small = some_digits (decimal n) (decimal_nonempty n small) (digits_decimal model n small)

-- a printed numeral is a numeral of its number
pub numeral_read : (z : ℤ) → IsInRange z → IsNumeral (numeral_of z) z
numeral_read (pos n) range =
    let greatest = range.greatest in
    let small : n < 2 ^ 64 = omega (arith, ints) in
    subst (λ m. IsNumeral (decimal n) (pos m)) (digits_value-decimal model n small) (plain (decimal n) (are_digits n small))
numeral_read (negsuc n) range =
    let least = range.least in
    let small : suc n < 2 ^ 64 = omega (arith, ints) in
    subst (λ m. IsNumeral (numeral_of (negsuc n)) (negated m)) (digits_value-decimal model (suc n) small) (negative (decimal (suc n)) (are_digits (suc n) small))

-- all numbers are in the range
abbrev pub AllInRange : List ℤ → Type 0
AllInRange [] = Unit {0}
AllInRange (z ∷ zs) = IsInRange z × AllInRange zs

pub all_in_range : (zs : List ℤ) → All IsElementInRange (map Int zs) → AllInRange zs
all_in_range [] range = tt
all_in_range (z ∷ zs) range = (All-head IsElementInRange (Int z) (map Int zs) range, all_in_range zs (All-tail IsElementInRange (Int z) (map Int zs) range))

abbrev pub numerals_of : List ℤ → List (List ℕ)
numerals_of numbers = map numeral_of numbers

pub fields_are_numerals : (zs : List ℤ) → map field_of (map Int zs) ≡ numerals_of zs
fields_are_numerals [] = refl
fields_are_numerals (z ∷ zs) = ap (λ fs. numeral_of z ∷ fs) (fields_are_numerals zs)

-- a numeral begins with no blank
pub numeral_begins : (text rest : List ℕ) (z : ℤ) → IsNumeral text z → BeginsWithSpace is_blank (text ++ rest) → ⊥
numeral_begins text rest z (plain [] h) begins = h
numeral_begins text rest z (plain (d ∷ ds) h) begins = let digit : is_digit d ≡ true = h.0 in grind (arith, nat_tests, digit, begins)
numeral_begins text rest z (negative ds h) begins = absurd cc

some_gap : (gap rest : List ℕ) (z : ℤ) → IsInRange z → AllPass is_blank gap → BeginsWithSpace is_blank (gap ++ (numeral_of z ++ rest)) → AreBlanks gap
some_gap [] rest z range blank begins = numeral_begins (numeral_of z) rest z (numeral_read z range) begins
some_gap (c ∷ gap) rest z range blank begins = blank

-- the line begins with the numerals of these numbers, the first of them at this place, and after them it is blank
pub record IsSpelled (place : ℕ) (z : ℤ) (zs : List ℤ) (line : List ℕ) : Type 0 where
  pub text : List ℕ
  pub after : List ℕ
  pub others : List Numeral
  pub split : line ≡ text ++ after
  pub spelled : AreNumerals place text ((place, z) ∷ others)
  pub numbers : map (λ (n : Numeral). n.1) others ≡ zs
  pub blank : AllPass is_blank after

pub numerals_spelled : (place : ℕ) (z : ℤ) (zs : List ℤ) (rest : List ℕ) → AllInRange (z ∷ zs) → BeginsWithSpace is_blank rest → IsSpaced is_blank rest (numerals_of zs)
    → IsSpelled place z zs (numeral_of z ++ rest)
numerals_spelled place z [] rest range begins spaced =
    record { text = numeral_of z; after = rest; others = []; split = refl; spelled = (numeral_read z range.0, refl); numbers = refl; blank = spaced }
numerals_spelled place z (y ∷ ys) rest range begins spaced =
    let gap : List ℕ = spaced.0 in
    let follows : BeginsWithSpace is_blank (gap ++ (numeral_of y ++ spaced.1)) = subst (BeginsWithSpace is_blank) spaced.2 begins in
    let next = numerals_spelled (place + length (numeral_of z ++ gap)) y ys spaced.1 range.1 spaced.4 spaced.5 in
    record {
      text = numeral_of z ++ (gap ++ next.text);
      after = next.after;
      others = (place + length (numeral_of z ++ gap), y) ∷ next.others;
      split = ap (λ t. numeral_of z ++ t) (spaced.2 ∙ ap (λ t. gap ++ t) next.split) ∙ simp append_assoc;
      spelled = (numeral_of z, gap, next.text, refl, numeral_read z range.0, refl, some_gap gap spaced.1 y range.1.0 spaced.3 follows, next.spelled);
      numbers = ap (λ ns. y ∷ ns) next.numbers;
      blank = next.blank;
    }

-- the numbers of places are in the range
pub range_of : (places : List Numeral) → AllInRange (map (λ (n : Numeral). n.1) places) → AreInRange places
range_of [] range = tt
range_of (n ∷ ns) range = (range.0, range_of ns range.1)

pub shape_of : (n : Numeral) (ns : List Numeral) → constant_shape (n ∷ ns) ≡ constant_shape (map (λ (n : Numeral). n.1) (n ∷ ns))
shape_of n [] = refl
shape_of n (m ∷ ns) = ap (λ k. k ∷ []) (sym (length-map (n ∷ m ∷ ns) (λ (n : Numeral). n.1)))

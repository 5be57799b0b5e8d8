-- Printed numbers are read as the constant of the same numbers.
use Rattle.std.proofs.Common.{◌≡◌, ℕ, ◌<◌, ◌≤◌, ℤ, Bool, true, false, List, [], ◌∷◌, ◌++◌, length, map, refl, sym, ap, subst, ◌∙◌, inl, arith}
use Rattle.std.specs.Prelude.{◌==◌, not, IsTrue, if◌then◌else◌}
use Rattle.std.proofs.lemmas.Bool.Decides.{nat_tests}
use Rattle.std.proofs.lemmas.List.{length-map, map-append}
use Rattle.apl_array.specs.declared.array.Elem.TheVariants.{Int}
use Rattle.apl_array.specs.Array.{number_array}
use Rattle.apl_array.specs.Limits.{IsWithinLimits}
use Rattle.apl_array.specs.Range.{IsInRange, HasNumbersInRange}
use Rattle.apl_array.specs.Shape.{count_of, most_elements}
use Rattle.apl_print.specs.Row.{joined}
use Rattle.apl_print.specs.Shown.{numeral_of, field_of, IsText, IsShown}
use Rattle.apl_print.specs.Text.{line_feed, ended}
use Rattle.apl_tokens.specs.Symbols.{is_digit, is_blank, is_listed_ascii, is_listed, high_minus}
use Rattle.apl_tokens.specs.Fronts.{AllPass}
use Rattle.apl_tokens.specs.Lexis.{BeginsWithNo, IsNumeral, plain, negative, Numeral, HasNoNextNumeral, IsNumberConstant, constant_shape}
use Rattle.apl_syntax.specs.Commands.{IsCommandLine}
use Rattle.apl_echo.specs.Lines.{number_value, number_line, is_no_line_feed, IsPrintedLine, blank_for_line_feed, on_one_line, ReadsAt, ReadsAs, TextReadsAs, ReadsAsBlank}
use Rattle.apl_echo.proofs.OneLine.{text_of_one_line, text_that_fits}
use Rattle.apl_echo.proofs.Spaced.{is_space, BeginsWithSpace, IsSpaced, gapped, gapped_begins, gapped_spaced, all_append, text_spaced, no_field}
use Rattle.apl_echo.proofs.Numerals.{AllInRange, all_in_range, numerals_of, fields_are_numerals, numeral_read, numeral_begins, numerals_spelled, range_of, shape_of}
use Rattle.apl_echo.proofs.Readings.{no_command, reads_at, listed_is_one_line, blanks_listed, blank_read, constant_rank}

digits_listed : (digits : List ℕ) → AllPass is_digit digits → AllPass is_listed digits
digits_listed [] all = tt
digits_listed (d ∷ ds) all = (listed d all.0, digits_listed ds all.1)
  where
    listed : (d : ℕ) → IsTrue (is_digit d) → IsTrue (is_listed d)
    listed d h = let ascii : is_listed_ascii d ≡ true = grind (arith, nat_tests, h) in rw ascii refl

numeral_listed : (text : List ℕ) (z : ℤ) → IsNumeral text z → AllPass is_listed text
numeral_listed text z (plain [] h) = tt
numeral_listed text z (plain (d ∷ ds) h) = digits_listed (d ∷ ds) h
numeral_listed text z (negative [] h) = absurd h
numeral_listed text z (negative (d ∷ ds) h) = (refl, digits_listed (d ∷ ds) h)

spaced_listed : (text : List ℕ) (zs : List ℤ) → AllInRange zs → IsSpaced is_blank text (numerals_of zs) → AllPass is_listed text
spaced_listed text [] range spaced = blanks_listed text spaced
spaced_listed text (z ∷ zs) range spaced =
    subst (AllPass is_listed) (sym spaced.2)
    (all_append is_listed spaced.0 (numeral_of z ++ spaced.1) (blanks_listed spaced.0 spaced.3)
    (all_append is_listed (numeral_of z) spaced.1 (numeral_listed (numeral_of z) z (numeral_read z range.0)) (spaced_listed spaced.1 zs range.1 spaced.5)))

numeral_no_command : (text rest : List ℕ) (z : ℤ) → IsNumeral text z → IsCommandLine (text ++ rest) → ⊥
numeral_no_command text rest z (plain [] h) command = h
numeral_no_command text rest z (plain (d ∷ ds) h) command =
    let digit : is_digit d ≡ true = h.0 in
    no_command d (ds ++ rest) (grind (arith, nat_tests, digit)) (λ e. grind (arith, nat_tests, digit, e)) command
numeral_no_command text rest z (negative ds h) command = no_command high_minus (ds ++ rest) refl (λ e. omega (arith, e)) command

-- blanks end numerals
blanks_begin : (text : List ℕ) → AllPass is_blank text → BeginsWithSpace is_blank text
blanks_begin [] blank = tt
blanks_begin (c ∷ text) blank = blank.0

no_digit : (text : List ℕ) → AllPass is_blank text → BeginsWithNo is_digit text
no_digit [] blank = tt
no_digit (c ∷ text) blank = let yes : is_blank c ≡ true = blank.0 in grind (arith, nat_tests, yes)

no_numeral_in_blanks : (after : List ℕ) → AllPass is_blank after → HasNoNextNumeral after
no_numeral_in_blanks after blank gap text rest z some is e = behind gap (subst (AllPass is_blank) e blank)
  where
    behind : (gap : List ℕ) → AllPass is_blank (gap ++ (text ++ rest)) → ⊥
    behind [] all = numeral_begins text rest z is (blanks_begin (text ++ rest) all)
    behind (c ∷ gap) all = behind gap all.1

-- a line that begins with blanks, has a numeral, and then numerals with blanks around them
numbers_read : (gap rest : List ℕ) (z : ℤ) (zs : List ℤ) → AllInRange (z ∷ zs) → length (z ∷ zs) ≤ most_elements → AllPass is_blank gap → BeginsWithSpace is_blank rest
    → IsSpaced is_blank rest (numerals_of zs) → ReadsAt (length gap) (gap ++ (numeral_of z ++ rest)) (number_value (z ∷ zs))
numbers_read gap rest z zs range few before begins spaced =
    let s = numerals_spelled 0 z zs rest range begins spaced in
    let listed = spaced_listed (gap ++ (numeral_of z ++ rest)) (z ∷ zs) range (gap, rest, refl, before, begins, spaced) in
    let none = numeral_no_command (numeral_of z) rest z (numeral_read z range.0) in
    let is : number_value (z ∷ zs) ≡ number_array (constant_shape ((0, z) ∷ s.others)) (z ∷ map (λ (n : Numeral). n.1) s.others) =
    ap number_value (ap (λ ns. z ∷ ns) (sym s.numbers)) ∙ ap (λ shape. number_array shape (z ∷ map (λ (n : Numeral). n.1) s.others)) (sym (shape_of (0, z) s.others)) in
    let constant : IsNumberConstant s.text s.after (number_value (z ∷ zs)) = record {
      numerals = (0, z) ∷ s.others;
      spelled = s.spelled;
      ends = record { digits = no_digit s.after s.blank; numerals = no_numeral_in_blanks s.after s.blank };
      in_range = (range.0, range_of s.others (subst AllInRange (sym s.numbers) range.1));
      few = omega (arith, few, ap length s.numbers, length-map s.others (λ (n : Numeral). n.1));
      is = is;
    } in
    subst (λ line. ReadsAt (length gap) (gap ++ line) (number_value (z ∷ zs))) (sym s.split)
    (reads_at gap s.text s.after (number_value (z ∷ zs)) before s.blank
    (subst (λ line. AllPass is_listed (gap ++ line)) s.split listed)
    (subst (λ line. IsCommandLine line → ⊥) s.split none) (inl constant))

few_numbers : (shape : List ℕ) (numbers : List ℤ) → IsWithinLimits (number_array shape numbers) → length numbers ≤ most_elements
few_numbers shape numbers limits = omega (arith, limits.len, limits.shape.count, length-map numbers Int)

line_read : (shape : List ℕ) (z : ℤ) (zs : List ℤ) (width : ℕ) (line : List ℕ) → length shape ≤ 1 → AllInRange (z ∷ zs) → length (z ∷ zs) ≤ most_elements
    → IsPrintedLine (number_array shape (z ∷ zs)) width line → ReadsAs line (number_value (z ∷ zs))
line_read shape z zs width line rank range few printed =
    let is : line ≡ joined 1 (numerals_of (z ∷ zs)) = text_of_one_line width 1 shape line _ rank printed.one printed.shown ∙ ap (joined 1) (fields_are_numerals (z ∷ zs)) in
    let others = numerals_of zs in
    subst (λ l. ReadsAs l (number_value (z ∷ zs))) (sym is)
    (numbers_read [] (gapped others) z zs range few tt (gapped_begins is_blank others refl) (gapped_spaced is_blank others refl))

pub number_value_read : (numbers : List ℤ) (width : ℕ) (line : List ℕ) → 0 < length numbers → IsWithinLimits (number_value numbers) → IsPrintedLine (number_value numbers) width line
    → ReadsAs line (number_value numbers)
number_value_read [] width line some limits printed = absurd (omega arith)
number_value_read (z ∷ zs) width line some limits printed =
    line_read (constant_shape (z ∷ zs)) z zs width line (constant_rank (z ∷ zs)) (all_in_range (z ∷ zs) limits.numbers) (few_numbers (constant_shape (z ∷ zs)) (z ∷ zs) limits) printed

pub number_vector_read : (z : ℤ) (width : ℕ) (line : List ℕ) → IsInRange z → IsPrintedLine (number_array (1 ∷ []) (z ∷ [])) width line → ReadsAs line (number_value (z ∷ []))
number_vector_read z width line range printed = line_read (1 ∷ []) z [] width line (omega arith) (range, tt) (omega arith) printed

-- no number leaves a blank line
pub no_number_read : (width : ℕ) (line : List ℕ) → IsPrintedLine (number_value []) width line → ReadsAsBlank line
no_number_read width line printed =
    let is : line ≡ [] = text_of_one_line width 1 (0 ∷ []) line [] (omega arith) printed.one printed.shown in
    subst ReadsAsBlank (sym is) (blank_read [] tt)

joined_listed : (z : ℤ) (zs : List ℤ) → AllInRange (z ∷ zs) → AllPass is_listed (joined 1 (numerals_of (z ∷ zs)))
joined_listed z zs range =
    let others = numerals_of zs in
    spaced_listed (joined 1 (numerals_of (z ∷ zs))) (z ∷ zs) range ([], gapped others, refl, tt, gapped_begins is_blank others refl, gapped_spaced is_blank others refl)

-- numerals that fit the width are one line
pub numbers_fit : (numbers : List ℤ) (width : ℕ) → 0 < length numbers → HasNumbersInRange (number_value numbers) → length (number_line numbers) ≤ width
    → IsPrintedLine (number_value numbers) width (number_line numbers)
numbers_fit [] width some range fits = absurd (omega arith)
numbers_fit (z ∷ zs) width some range fits = record {
  shown = subst (λ fields. IsText width 1 (constant_shape (z ∷ zs)) fields (ended (number_line (z ∷ zs)))) (sym (fields_are_numerals (z ∷ zs)))
      (text_that_fits width 1 (constant_shape (z ∷ zs)) (numerals_of (z ∷ zs)) (constant_rank (z ∷ zs)) fits);
  one = listed_is_one_line (number_line (z ∷ zs)) (joined_listed z zs (all_in_range (z ∷ zs) range));
}

-- Numbers on several lines.

kept : (text : List ℕ) → AllPass is_no_line_feed text → on_one_line text ≡ text
kept [] none = refl
kept (c ∷ text) none = by_test (c == line_feed) none.0 (kept text none.1)
  where
    by_test : (b : Bool) → IsTrue (not b) → on_one_line text ≡ text → (if b then 32 else c) ∷ on_one_line text ≡ c ∷ text
    by_test true other others = absurd cc
    by_test false other others = ap (λ cs. c ∷ cs) others

spaces_are_blanks : (text : List ℕ) → AllPass is_space text → AllPass is_blank (on_one_line text)
spaces_are_blanks [] space = tt
spaces_are_blanks (c ∷ text) space = (space.0, spaces_are_blanks text space.1)

still_begins : (text : List ℕ) → BeginsWithSpace is_space text → BeginsWithSpace is_blank (on_one_line text)
still_begins [] begins = tt
still_begins (c ∷ text) begins = begins

-- what has spaces around its numerals has blanks around them on one line
spaced_on_one_line : (text : List ℕ) (zs : List ℤ) → AllInRange zs → IsSpaced is_space text (numerals_of zs) → IsSpaced is_blank (on_one_line text) (numerals_of zs)
spaced_on_one_line text [] range spaced = spaces_are_blanks text spaced
spaced_on_one_line text (z ∷ zs) range spaced =
    let gap = spaced.0 in
    let rest = spaced.1 in
    let same : on_one_line (numeral_of z) ≡ numeral_of z = kept (numeral_of z) (listed_is_one_line (numeral_of z) (numeral_listed (numeral_of z) z (numeral_read z range.0))) in
    let split : on_one_line text ≡ on_one_line gap ++ (numeral_of z ++ on_one_line rest) =
    ap on_one_line spaced.2 ∙ map-append blank_for_line_feed gap (numeral_of z ++ rest)
    ∙ ap (λ t. on_one_line gap ++ t) (map-append blank_for_line_feed (numeral_of z) rest ∙ ap (λ t. t ++ on_one_line rest) same) in
    (on_one_line gap, on_one_line rest, split, spaces_are_blanks gap spaced.3, still_begins rest spaced.4, spaced_on_one_line rest zs range.1 spaced.5)

pub lines_read : (shape : List ℕ) (numbers : List ℤ) (width : ℕ) → 0 < length numbers → IsWithinLimits (number_array shape numbers)
    → TextReadsAs (number_array shape numbers) width (number_value numbers)
lines_read shape [] width some limits text shown = absurd (omega arith)
lines_read shape (z ∷ zs) width some limits text shown =
    let range = all_in_range (z ∷ zs) limits.numbers in
    let whole : length (map field_of (map Int (z ∷ zs))) ≡ count_of shape = length-map (map Int (z ∷ zs)) field_of ∙ limits.len in
    let spaced = subst (IsSpaced is_space text) (fields_are_numerals (z ∷ zs)) (text_spaced width shape (map field_of (map Int (z ∷ zs))) text whole shown) in
    let line = spaced_on_one_line text (z ∷ zs) range spaced in (
      length line.0,
      subst (λ l. ReadsAt (length line.0) l (number_value (z ∷ zs))) (sym line.2)
          (numbers_read line.0 line.1 z zs range (few_numbers shape (z ∷ zs) limits) line.3 line.4 line.5),
    )

pub no_lines_read : (shape : List ℕ) (width : ℕ) (text : List ℕ) → IsShown (number_array shape []) width text → ReadsAsBlank (on_one_line text)
no_lines_read shape width text shown = blank_read (on_one_line text) (spaces_are_blanks text (no_field width shape text shown))

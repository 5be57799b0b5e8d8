-- Printed characters, between quotes, are read as the constant of the same characters.
use Rattle.std.proofs.Common.{◌≡◌, ℕ, Bool, true, false, List, [], ◌∷◌, ◌++◌, map, refl, ap, ◌≤◌, length, sym, subst, ◌∙◌, inr, arith}
use Rattle.std.specs.Prelude.{IsTrue, if◌then◌else◌, not}
use Rattle.std.specs.List.{flat_map}
use Rattle.std.proofs.lemmas.List.{length-map}
use Rattle.apl_array.specs.declared.array.Elem.TheVariants.{Chr}
use Rattle.apl_array.specs.Array.{character_array}
use Rattle.apl_array.specs.Limits.{IsWithinLimits}
use Rattle.apl_array.specs.Shape.{most_elements}
use Rattle.apl_print.specs.Text.{blanks, ended}
use Rattle.apl_print.specs.Row.{joined}
use Rattle.apl_print.specs.Shown.{field_of, IsText}
use Rattle.apl_tokens.specs.Symbols.{is_listed, is_quote, quote}
use Rattle.apl_tokens.specs.Fronts.{AllPass}
use Rattle.apl_tokens.specs.Lexis.{doubled, quoted, IsConstant, constant_shape}
use Rattle.apl_echo.specs.Lines.{is_no_quote, text_value, IsPrintedLine, ReadsAs}
use Rattle.apl_echo.proofs.OneLine.{text_of_one_line, text_that_fits}
use Rattle.apl_echo.proofs.Readings.{no_command, reads_as, listed_is_one_line, constant_rank}

next_characters : (cs : List ℕ) → flat_map (λ next. blanks 0 ++ next) (map field_of (map Chr cs)) ≡ cs
next_characters [] = refl
next_characters (c ∷ cs) = ap (λ ds. c ∷ ds) (next_characters cs)

-- characters are printed without anything between them
joined_characters : (cs : List ℕ) → joined 0 (map field_of (map Chr cs)) ≡ cs
joined_characters [] = refl
joined_characters (c ∷ cs) = ap (λ ds. c ∷ ds) (next_characters cs)

doubled_listed : (cs : List ℕ) → AllPass is_listed cs → AllPass is_listed (doubled cs ++ quote ∷ [])
doubled_listed [] listed = (refl, tt)
doubled_listed (c ∷ cs) listed = by_test (is_quote c) (doubled_listed cs listed.1)
  where
    by_test : (b : Bool) → AllPass is_listed (doubled cs ++ quote ∷ []) → AllPass is_listed ((if b then quote ∷ quote ∷ doubled cs else c ∷ doubled cs) ++ quote ∷ [])
    by_test true others = (refl, (refl, others))
    by_test false others = (listed.0, others)

quoted_listed : (cs : List ℕ) → AllPass is_listed cs → AllPass is_listed (quoted cs)
quoted_listed cs listed = (refl, doubled_listed cs listed)

doubled_without : (cs : List ℕ) → AllPass is_no_quote cs → doubled cs ≡ cs
doubled_without [] none = refl
doubled_without (c ∷ cs) none = by_test (is_quote c) none.0 (doubled_without cs none.1)
  where
    by_test : (b : Bool) → IsTrue (not b) → doubled cs ≡ cs → (if b then quote ∷ quote ∷ doubled cs else c ∷ doubled cs) ≡ c ∷ cs
    by_test true none_here others = absurd cc
    by_test false none_here others = ap (λ ds. c ∷ ds) others

pub quoted_without : (cs : List ℕ) → AllPass is_no_quote cs → quoted cs ≡ quote ∷ (cs ++ quote ∷ [])
quoted_without cs none = ap (λ ds. quote ∷ (ds ++ quote ∷ [])) (doubled_without cs none)

texts_read : (shape characters : List ℕ) (width : ℕ) (line : List ℕ) → length shape ≤ 1 → AllPass is_listed characters → length characters ≤ most_elements
    → IsPrintedLine (character_array shape characters) width line → ReadsAs (quoted line) (text_value characters)
texts_read shape characters width line rank listed few printed =
    let is : line ≡ characters = text_of_one_line width 0 shape line _ rank printed.one printed.shown ∙ joined_characters characters in
    let quotation : IsConstant (quoted characters) [] (text_value characters) = inr (record { characters = characters; spelled = refl; ends = tt; few = few; is = refl }) in
    let read : ReadsAs (quoted characters) (text_value characters) = reads_as (quoted characters) (text_value characters) (quoted_listed characters listed) (no_command quote _ refl (λ e. omega (arith, e))) quotation in
    subst (λ l. ReadsAs (quoted l) (text_value characters)) (sym is) read

pub text_value_read : (characters : List ℕ) (width : ℕ) (line : List ℕ) → AllPass is_listed characters → IsWithinLimits (text_value characters) → IsPrintedLine (text_value characters) width line
    → ReadsAs (quoted line) (text_value characters)
text_value_read characters width line listed limits printed =
    texts_read (constant_shape characters) characters width line (constant_rank characters) listed (omega (arith, limits.len, limits.shape.count, length-map characters Chr)) printed

pub text_vector_read : (c width : ℕ) (line : List ℕ) → AllPass is_listed (c ∷ []) → IsPrintedLine (character_array (1 ∷ []) (c ∷ [])) width line → ReadsAs (quoted line) (text_value (c ∷ []))
text_vector_read c width line listed printed = texts_read (1 ∷ []) (c ∷ []) width line (omega arith) listed (omega arith) printed

pub texts_fit : (characters : List ℕ) (width : ℕ) → AllPass is_listed characters → length characters ≤ width → IsPrintedLine (text_value characters) width characters
texts_fit characters width listed fits =
    let whole = joined_characters characters in
    record {
      shown = subst (λ line. IsText width 0 (constant_shape characters) (map field_of (map Chr characters)) (ended line)) whole
          (text_that_fits width 0 (constant_shape characters) (map field_of (map Chr characters)) (constant_rank characters) (omega (arith, fits, ap length whole)));
      one = listed_is_one_line characters listed;
    }

-- A text that is one line is its fields, joined.
use Rattle.std.proofs.Common.{◌≡◌, ℕ, ◌≤◌, true, List, [], ◌∷◌, ◌++◌, length, refl, sym, ap, ◌∙◌, arith, append_assoc, append-nil, length-append}
use Rattle.std.specs.List.{flat_map}
use Rattle.apl_print.specs.Text.{line_feed, blanks, indent, ended}
use Rattle.apl_print.specs.Row.{joined, text_of_lines, IsRow}
use Rattle.apl_print.specs.Shown.{IsText}
use Rattle.apl_tokens.specs.Fronts.{AllPass}
use Rattle.apl_echo.specs.Lines.{is_no_line_feed}

-- what is before the first line feed of a text
first_line : (line before after : List ℕ) → AllPass is_no_line_feed line → ended line ≡ before ++ line_feed ∷ after → (line ≡ before) × (after ≡ [])
first_line [] [] after none e = (refl, sym cc)
first_line [] (b ∷ before) after none e = absurd (omega (arith, ap length e, length-append before (line_feed ∷ after)))
first_line (c ∷ line) [] after none e =
    let is : c ≡ line_feed = cc in
    let no : is_no_line_feed line_feed ≡ true = ap is_no_line_feed (sym is) ∙ none.0 in
    absurd cc
first_line (c ∷ line) (b ∷ before) after none e =
    let heads : c ≡ b = cc in
    let tails : ended line ≡ before ++ line_feed ∷ after = cc in
    let (same, ends) = first_line line before after none.1 tails in
    (cc, ends)

on_lines : (gap : ℕ) (line : List ℕ) (fields : List (List ℕ)) (lines : List (List (List ℕ))) → AllPass is_no_line_feed line
    → flat_map (λ l. l) lines ≡ fields → ended line ≡ text_of_lines gap lines → line ≡ joined gap fields
on_lines gap line fields [] none whole is = (first_line line [] [] none is).0 ∙ ap (joined gap) whole
on_lines gap line fields (l ∷ []) none whole is =
    (first_line line (joined gap l) [] none (is ∙ append-nil (ended (joined gap l)))).0 ∙ ap (joined gap) (sym (append-nil l) ∙ whole)
on_lines gap line fields (l ∷ m ∷ lines) none whole is =
    let next = blanks indent ++ joined gap m in
    let others = flat_map (λ l. ended (blanks indent ++ joined gap l)) lines in
    let after : ended next ++ others ≡ [] = (first_line line (joined gap l) (ended next ++ others) none (is ∙ append_assoc (joined gap l) (line_feed ∷ []) (ended next ++ others))).1 in
    absurd (omega (arith, ap length after, length-append (ended next) others, length-append next (line_feed ∷ [])))

row_of_one_line : (width gap : ℕ) (line : List ℕ) (fields : List (List ℕ)) → AllPass is_no_line_feed line → IsRow width gap fields (ended line) → line ≡ joined gap fields
row_of_one_line width gap line fields none row = on_lines gap line fields row.lines none row.whole row.is_text

-- a scalar and a vector are one row
pub text_of_one_line : (width gap : ℕ) (shape line : List ℕ) (fields : List (List ℕ)) → length shape ≤ 1 → AllPass is_no_line_feed line → IsText width gap shape fields (ended line)
    → line ≡ joined gap fields
text_of_one_line width gap [] line fields rank none is = row_of_one_line width gap line fields none is
text_of_one_line width gap (n ∷ []) line fields rank none is = row_of_one_line width gap line fields none is
text_of_one_line width gap (n ∷ m ∷ shape) line fields rank none is = absurd (omega arith)

-- and fields that fit the width are one line
row_that_fits : (width gap : ℕ) (fields : List (List ℕ)) → length (joined gap fields) ≤ width → IsRow width gap fields (ended (joined gap fields))
row_that_fits width gap [] fits = record { lines = []; whole = refl; laid = tt; is_text = refl }
row_that_fits width gap (f ∷ fs) fits = record {
  lines = (f ∷ fs) ∷ [];
  whole = append-nil (f ∷ fs);
  laid = (omega arith, omega (arith, fits), tt, tt);
  is_text = sym (append-nil (ended (joined gap (f ∷ fs))));
}

pub text_that_fits : (width gap : ℕ) (shape : List ℕ) (fields : List (List ℕ)) → length shape ≤ 1 → length (joined gap fields) ≤ width
    → IsText width gap shape fields (ended (joined gap fields))
text_that_fits width gap [] fields rank fits = row_that_fits width gap fields fits
text_that_fits width gap (n ∷ []) fields rank fits = row_that_fits width gap fields fits
text_that_fits width gap (n ∷ m ∷ shape) fields rank fits = absurd (omega arith)

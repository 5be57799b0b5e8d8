-- The pieces that a report is put in.
use Rattle.std.proofs.Common.{◌≡◌, ℕ, ◌+◌, ◌-◌, ◌≤◌, List, [], ◌∷◌, ◌++◌, take, Option, Some, codes, refl, ap, sym, ◌∙◌, append_assoc, arith}
use lib.Utf8.{encode}
use Rattle.std.proofs.lemmas.List.{take-replicate, replicate-append-replicate}
use Rattle.apl_print.specs.declared.reports.Report.{Report}
use Rattle.apl_print.specs.Text.{blank, blanks, line_feed, caret}
use Rattle.apl_print.specs.Reported.{caret_line, report_name, report_text}

-- one more slice of a run of blanks
pub blanks_more : (count rest n : ℕ) → n ≤ 256 → n ≤ rest → rest ≤ count → blanks (count - rest) ++ take n (blanks 256) ≡ blanks (count - (rest - n))
blanks_more count rest n short some within =
    ap (λ run. blanks (count - rest) ++ run) (take-replicate n 256 blank short)
    ∙ replicate-append-replicate (count - rest) n blank
    ∙ (let e : (count - rest) + n ≡ count - (rest - n) = omega arith in ap blanks e)

-- all of them so far, and the rest
pub blanks_split : (count rest n : ℕ) → n ≤ 256 → n ≤ rest → rest ≤ count
    → blanks (count - rest) ++ (take n (blanks 256) ++ blanks (rest - n)) ≡ blanks count
blanks_split count rest n short some within =
    sym (append_assoc (blanks (count - rest)) (take n (blanks 256)) (blanks (rest - n)))
    ∙ ap (λ front. front ++ blanks (rest - n)) (blanks_more count rest n short some within)
    ∙ replicate-append-replicate (count - (rest - n)) (rest - n) blank
    ∙ (let e : (count - (rest - n)) + (rest - n) ≡ count = omega arith in ap blanks e)

caret_bytes : encode caret ≡ 226 ∷ 136 ∷ 167 ∷ []
unfolding encode
caret_bytes = refl

pub caret_pieces : (column : ℕ) → codes "\n      " ++ (blanks column ++ (226 ∷ 136 ∷ 167 ∷ line_feed ∷ [])) ≡ line_feed ∷ caret_line (Some column)
caret_pieces column =
    ap (λ bytes. codes "\n      " ++ (blanks column ++ (bytes ++ line_feed ∷ []))) (sym caret_bytes)
    ∙ ap (λ text. codes "\n      " ++ text) (sym (append_assoc (blanks column) (encode caret) (line_feed ∷ [])))

pub reported_pieces : (report : Report) (line : List ℕ) (column : Option ℕ) → (report_name report ++ codes "\n      ") ++ (line ++ line_feed ∷ caret_line column) ≡ report_text report line column
reported_pieces report line column = simp append_assoc

-- a text, the end of its line, and the line with the caret
pub caret_added : (text : List ℕ) (column : ℕ) → column ≤ 256
    → ((text ++ codes "\n      ") ++ take column (blanks 256)) ++ (226 ∷ 136 ∷ 167 ∷ line_feed ∷ []) ≡ text ++ line_feed ∷ caret_line (Some column)
caret_added text column short =
    append_assoc (text ++ codes "\n      ") (take column (blanks 256)) (226 ∷ 136 ∷ 167 ∷ line_feed ∷ [])
    ∙ append_assoc text (codes "\n      ") (take column (blanks 256) ++ (226 ∷ 136 ∷ 167 ∷ line_feed ∷ []))
    ∙ ap (λ run. text ++ (codes "\n      " ++ (run ++ (226 ∷ 136 ∷ 167 ∷ line_feed ∷ [])))) (take-replicate column 256 blank short)
    ∙ ap (λ more. text ++ more) (caret_pieces column)

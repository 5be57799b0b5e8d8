-- The lines of a row: the printer's layout is the one that the definition allows.
use Rattle.std.proofs.Common.{◌≡◌, ℕ, ◌+◌, ◌<◌, ◌≤◌, List, [], ◌∷◌, ◌++◌, length, take, Some, None, refl, sym, ap, ◌∙◌, subst, ⊎_elim, arith, append_assoc, length-append}
use Rattle.std.specs.List.{flat_map, All}
use Rattle.std.proofs.lemmas.Bool.{le-leb, lt-leb, cases_lt}
use Rattle.std.proofs.lemmas.List.{length-replicate}
use Rattle.std.proofs.lemmas.List.Elements.{All-head, All-tail}
use Rattle.apl_print.specs.Text.{line_feed, blank, blanks, indent, ended}
use Rattle.apl_print.specs.Row.{joined, IsFull, AreFullLines, text_of_lines, IsRow}
use Rattle.apl_print.specs.Layout.{rest_of_row}

-- further fields of a line, each behind its gap
abbrev pub gapped : ℕ → List (List ℕ) → List ℕ
gapped gap fields = flat_map (λ next. blanks gap ++ next) fields

-- continuation lines
abbrev pub continued : ℕ → List (List (List ℕ)) → List ℕ
continued gap lines = flat_map (λ line. ended (blanks indent ++ joined gap line)) lines

abbrev pub flat : List (List (List ℕ)) → List (List ℕ)
flat lines = flat_map (λ line. line) lines

pub length-gapped : (gap : ℕ) (f : List ℕ) (fs : List (List ℕ)) → length (gapped gap (f ∷ fs)) ≡ (gap + length f) + length (gapped gap fs)
length-gapped gap f fs =
    length-append (blanks gap ++ f) (gapped gap fs) ∙ ap (λ n. n + length (gapped gap fs)) (length-append (blanks gap) f ∙ ap (λ n. n + length f) (length-replicate gap blank))

-- a line on which column characters stand, with further fields and then these lines, is full
abbrev pub IsFullAt : ℕ → ℕ → ℕ → List (List ℕ) → List (List (List ℕ)) → Type 0
IsFullAt width gap column fields [] = Unit {0}
IsFullAt width gap column fields (next ∷ lines) = width < column + length (gapped gap (fields ++ take 1 next))

-- the same as `IsFull`, with the line's first field counted among what stands on it
pub IsFullAt-from : (width gap before : ℕ) (f : List ℕ) (fs : List (List ℕ)) (lines : List (List (List ℕ))) → IsFull width gap before (f ∷ fs) lines → IsFullAt width gap (before + length f) fs lines
IsFullAt-from width gap before f fs [] full = tt
IsFullAt-from width gap before f fs (next ∷ lines) full = omega (arith, length-append f (gapped gap (fs ++ take 1 next)))

pub IsFull-from : (width gap before : ℕ) (f : List ℕ) (fs : List (List ℕ)) (lines : List (List (List ℕ))) → IsFullAt width gap (before + length f) fs lines → IsFull width gap before (f ∷ fs) lines
IsFull-from width gap before f fs [] full = tt
IsFull-from width gap before f fs (next ∷ lines) full = omega (arith, length-append f (gapped gap (fs ++ take 1 next)))

-- the same again, with the next field counted
pub IsFullAt-next : (width gap column : ℕ) (f : List ℕ) (fs : List (List ℕ)) (lines : List (List (List ℕ))) → IsFullAt width gap column (f ∷ fs) lines → IsFullAt width gap (column + gap + length f) fs lines
IsFullAt-next width gap column f fs [] full = tt
IsFullAt-next width gap column f fs (next ∷ lines) full = omega (arith, length-gapped gap f (fs ++ take 1 next))

pub IsFullAt-back : (width gap column : ℕ) (f : List ℕ) (fs : List (List ℕ)) (lines : List (List (List ℕ))) → IsFullAt width gap (column + gap + length f) fs lines → IsFullAt width gap column (f ∷ fs) lines
IsFullAt-back width gap column f fs [] full = tt
IsFullAt-back width gap column f fs (next ∷ lines) full = omega (arith, length-gapped gap f (fs ++ take 1 next))

module _ (width gap : ℕ) where
  pub laid_fits : (column : ℕ) (f : List ℕ) (fs : List (List ℕ)) → column + gap + length f ≤ width
      → rest_of_row width gap (Some column) (f ∷ fs) ≡ blanks gap ++ (f ++ rest_of_row width gap (Some (column + gap + length f)) fs)
  laid_fits column f fs fits = rw (le-leb (column + gap + length f) width fits)

  pub laid_breaks : (column : ℕ) (f : List ℕ) (fs : List (List ℕ)) → width < column + gap + length f
      → rest_of_row width gap (Some column) (f ∷ fs) ≡ line_feed ∷ (blanks indent ++ (f ++ rest_of_row width gap (Some (indent + length f)) fs))
  laid_breaks column f fs breaks = rw (lt-leb (column + gap + length f) width breaks)

  -- along the open line, where what follows it is known
  laid_along : (fs : List (List ℕ)) (lines : List (List (List ℕ))) (column : ℕ)
      → ((c : ℕ) → IsFullAt width gap c [] lines → rest_of_row width gap (Some c) (flat lines) ≡ line_feed ∷ continued gap lines)
      → column + length (gapped gap fs) ≤ width → IsFullAt width gap column fs lines
      → rest_of_row width gap (Some column) (fs ++ flat lines) ≡ gapped gap fs ++ (line_feed ∷ continued gap lines)
  laid_along [] lines column at_end fits full = at_end column full
  laid_along (f ∷ fs) lines column at_end fits full =
      laid_fits column f (fs ++ flat lines) (omega (arith, length-gapped gap f fs))
      ∙ ap (λ rest. blanks gap ++ (f ++ rest))
      (laid_along fs lines (column + gap + length f) at_end (omega (arith, length-gapped gap f fs)) (IsFullAt-next width gap column f fs lines full))
      ∙ simp append_assoc

  -- at the end of a line that is full
  laid_at_end : (lines : List (List (List ℕ))) → AreFullLines width gap indent lines → (column : ℕ) → IsFullAt width gap column [] lines
      → rest_of_row width gap (Some column) (flat lines) ≡ line_feed ∷ continued gap lines
  laid_at_end [] on_lines column full = refl
  laid_at_end ([] ∷ lines) on_lines column full = absurd (omega (arith, on_lines.0))
  laid_at_end ((f ∷ fs) ∷ lines) on_lines column full =
      laid_breaks column f (fs ++ flat lines) (omega (arith, length-gapped gap f []))
      ∙ ap (λ rest. line_feed ∷ (blanks indent ++ (f ++ rest)))
      (laid_along fs lines (indent + length f) (laid_at_end lines on_lines.3) (omega (arith, on_lines.1, length-append f (gapped gap fs))) (IsFullAt-from width gap indent f fs lines on_lines.2))
      ∙ simp append_assoc

  lines_are_laid : (lines : List (List (List ℕ))) → AreFullLines width gap 0 lines → rest_of_row width gap None (flat lines) ≡ text_of_lines gap lines
  lines_are_laid [] on_lines = refl
  lines_are_laid ([] ∷ lines) on_lines = absurd (omega (arith, on_lines.0))
  lines_are_laid ((f ∷ fs) ∷ lines) on_lines =
      ap (λ rest. f ++ rest)
      (laid_along fs lines (length f) (laid_at_end lines on_lines.3) (omega (arith, on_lines.1, length-append f (gapped gap fs))) (subst (λ c. IsFullAt width gap c fs lines) (omega arith) (IsFullAt-from width gap 0 f fs lines on_lines.2)))
      ∙ simp append_assoc

  -- a row has one text
  pub row_is_laid : (fields : List (List ℕ)) (text : List ℕ) → IsRow width gap fields text → text ≡ rest_of_row width gap None fields
  row_is_laid fields text row =
      row.is_text ∙ sym (lines_are_laid row.lines row.laid) ∙ ap (rest_of_row width gap None) row.whole

  -- fields that follow on the open line, and further lines
  record Lines (column : ℕ) (fields : List (List ℕ)) : Type 0 where
    open_line : List (List ℕ)
    lines : List (List (List ℕ))
    whole : open_line ++ flat lines ≡ fields
    fits : column + length (gapped gap open_line) ≤ width
    full : IsFullAt width gap column open_line lines
    laid : AreFullLines width gap indent lines

  -- there are such lines wherever each field fits on a continuation line
  lines_of : (fields : List (List ℕ)) (column : ℕ) → column ≤ width → All (λ f. indent + length f ≤ width) fields → Lines column fields
  lines_of [] column within short = record { open_line = []; lines = []; whole = refl; fits = omega arith; full = tt; laid = tt }
  lines_of (f ∷ fs) column within short = ⊎_elim
      (λ breaks. let rest = lines_of fs (indent + length f) (All-head (λ f. indent + length f ≤ width) f fs short) (All-tail (λ f. indent + length f ≤ width) f fs short) in record {
        open_line = [];
        lines = (f ∷ rest.open_line) ∷ rest.lines;
        whole = ap (λ fields. f ∷ fields) rest.whole;
        fits = omega arith;
        full = omega (arith, length-gapped gap f []);
        laid = (omega arith, omega (arith, rest.fits, length-append f (gapped gap rest.open_line)), IsFull-from width gap indent f rest.open_line rest.lines rest.full, rest.laid);
      })
      (λ fits. let rest = lines_of fs (column + gap + length f) fits (All-tail (λ f. indent + length f ≤ width) f fs short) in record {
        open_line = f ∷ rest.open_line;
        lines = rest.lines;
        whole = ap (λ fields. f ∷ fields) rest.whole;
        fits = omega (arith, rest.fits, length-gapped gap f rest.open_line);
        full = IsFullAt-back width gap column f rest.open_line rest.lines rest.full;
        laid = rest.laid;
      })
      (cases_lt width (column + gap + length f))

  lines_of_row : (fields : List (List ℕ)) → All (λ f. indent + length f ≤ width) fields → (lines : List (List (List ℕ))) × (flat lines ≡ fields) × AreFullLines width gap 0 lines
  lines_of_row [] short = ([], refl, tt)
  lines_of_row (f ∷ fs) short =
      let short_field : indent + length f ≤ width = All-head (λ f. indent + length f ≤ width) f fs short in
      let rest = lines_of fs (length f) (omega arith) (All-tail (λ f. indent + length f ≤ width) f fs short) in (
        (f ∷ rest.open_line) ∷ rest.lines,
        ap (λ fields. f ∷ fields) rest.whole,
        (omega arith, omega (arith, rest.fits, length-append f (gapped gap rest.open_line)), IsFull-from width gap 0 f rest.open_line rest.lines (subst (λ c. IsFullAt width gap c rest.open_line rest.lines) (omega arith) rest.full), rest.laid),
      )

  -- and the layout is such a text
  pub IsRow-laid : (fields : List (List ℕ)) → All (λ f. indent + length f ≤ width) fields → IsRow width gap fields (rest_of_row width gap None fields)
  IsRow-laid fields short =
      let on = lines_of_row fields short in record {
        lines = on.0;
        whole = on.1;
        laid = on.2;
        is_text = ap (rest_of_row width gap None) (sym on.1) ∙ lines_are_laid on.0 on.2;
      }

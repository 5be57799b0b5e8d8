-- The text of an array of numbers is its fields, with spaces around them.
use Rattle.std.proofs.Common.{◌≡◌, ℕ, zero, suc, ◌+◌, ◌-◌, ◌*◌, Bool, List, [], ◌∷◌, ◌++◌, length, take, drop, map, replicate, refl, sym, ap, subst, ◌∙◌, arith, append_assoc, append-nil, length-drop, mul_assoc}
use Rattle.std.specs.Prelude.{IsTrue}
use Rattle.std.specs.List.{flat_map}
use Rattle.std.proofs.lemmas.List.{take-append-drop}
use Rattle.apl_array.specs.Shape.{count_of}
use Rattle.apl_print.specs.Text.{blank, line_feed, blanks, indent, ended}
use Rattle.apl_print.specs.Row.{joined, text_of_lines, IsRow}
use Rattle.apl_print.specs.Shown.{row_length, row_count, rows_of, column_width, aligned, empty_lines, AreRows, IsText}
use Rattle.apl_tokens.specs.Symbols.{is_blank}
use Rattle.apl_tokens.specs.Fronts.{AllPass}
use Rattle.apl_echo.specs.Lines.{blank_for_line_feed}

-- a blank or a line feed
abbrev pub is_space : ℕ → Bool
is_space c = is_blank (blank_for_line_feed c)

abbrev pub BeginsWithSpace : (ℕ → Bool) → List ℕ → Type 0
BeginsWithSpace space [] = Unit {0}
BeginsWithSpace space (c ∷ cs) = IsTrue (space c)

-- the text is these fields, with spaces before, between and after them
abbrev pub IsSpaced : (ℕ → Bool) → List ℕ → List (List ℕ) → Type 0
IsSpaced space text [] = AllPass space text
IsSpaced space text (field ∷ fields) =
    (gap rest : List ℕ) × (text ≡ gap ++ (field ++ rest)) × AllPass space gap × BeginsWithSpace space rest × IsSpaced space rest fields

-- further fields of a line, each after a blank
abbrev pub gapped : List (List ℕ) → List ℕ
gapped fields = flat_map (λ next. blanks 1 ++ next) fields

abbrev continued : List (List (List ℕ)) → List ℕ
continued lines = flat_map (λ line. ended (blanks indent ++ joined 1 line)) lines

abbrev flat : List (List (List ℕ)) → List (List ℕ)
flat lines = flat_map (λ line. line) lines

pub all_append : (p : ℕ → Bool) (s t : List ℕ) → AllPass p s → AllPass p t → AllPass p (s ++ t)
all_append p [] t first second = second
all_append p (c ∷ s) t first second = (first.0, all_append p s t first.1 second)

all_replicated : (p : ℕ → Bool) (c n : ℕ) → IsTrue (p c) → AllPass p (replicate n c)
all_replicated p c zero is = tt
all_replicated p c (suc n) is = (is, all_replicated p c n is)

-- Lines.

spaces_before : (s t : List ℕ) (fields : List (List ℕ)) → AllPass is_space s → IsSpaced is_space t fields → IsSpaced is_space (s ++ t) fields
spaces_before s t [] space spaced = all_append is_space s t space spaced
spaces_before s t (f ∷ fs) space spaced = (
  s ++ spaced.0,
  spaced.1,
  ap (λ text. s ++ text) spaced.2 ∙ sym (append_assoc s spaced.0 (f ++ spaced.1)),
  all_append is_space s spaced.0 space spaced.3,
  spaced.4,
  spaced.5,
)

begins_still : (rest t : List ℕ) → BeginsWithSpace is_space rest → BeginsWithSpace is_space (ended rest ++ t)
begins_still [] t begins = refl
begins_still (c ∷ rest) t begins = begins

-- a line before other lines
line_before : (s t : List ℕ) (fields others : List (List ℕ)) → IsSpaced is_space s fields → IsSpaced is_space t others → IsSpaced is_space (ended s ++ t) (fields ++ others)
line_before s t [] others first second = spaces_before (ended s) t others (all_append is_space s (line_feed ∷ []) first (refl, tt)) second
line_before s t (f ∷ fs) others first second = (
  first.0,
  ended first.1 ++ t,
  ap (λ text. ended text ++ t) first.2 ∙ simp append_assoc,
  first.3,
  begins_still first.1 t first.4,
  line_before first.1 t fs others first.5 second,
)

pub gapped_begins : (space : ℕ → Bool) (fields : List (List ℕ)) → IsTrue (space blank) → BeginsWithSpace space (gapped fields)
gapped_begins space [] is = tt
gapped_begins space (f ∷ fs) is = is

pub gapped_spaced : (space : ℕ → Bool) (fields : List (List ℕ)) → IsTrue (space blank) → IsSpaced space (gapped fields) fields
gapped_spaced space [] is = tt
gapped_spaced space (f ∷ fs) is = (blanks 1, gapped fs, refl, (is, tt), gapped_begins space fs is, gapped_spaced space fs is)

joined_spaced : (fields : List (List ℕ)) → IsSpaced is_space (joined 1 fields) fields
joined_spaced [] = tt
joined_spaced (f ∷ fs) = ([], gapped fs, refl, tt, gapped_begins is_space fs refl, gapped_spaced is_space fs refl)

continued_before : (lines : List (List (List ℕ))) (t : List ℕ) (others : List (List ℕ)) → IsSpaced is_space t others → IsSpaced is_space (continued lines ++ t) (flat lines ++ others)
continued_before [] t others spaced = spaced
continued_before (line ∷ lines) t others spaced =
    let text = blanks indent ++ joined 1 line in
    let first : IsSpaced is_space text line = spaces_before (blanks indent) (joined 1 line) line (all_replicated is_space blank indent refl) (joined_spaced line) in
    let whole = line_before text (continued lines ++ t) line (flat lines ++ others) first (continued_before lines t others spaced) in
    rw (append_assoc (ended text) (continued lines) t, append_assoc line (flat lines) others) whole

lines_before : (lines : List (List (List ℕ))) (t : List ℕ) (others : List (List ℕ)) → IsSpaced is_space t others → IsSpaced is_space (text_of_lines 1 lines ++ t) (flat lines ++ others)
lines_before [] t others spaced = spaces_before (line_feed ∷ []) t others (refl, tt) spaced
lines_before (line ∷ lines) t others spaced =
    let whole = line_before (joined 1 line) (continued lines ++ t) line (flat lines ++ others) (joined_spaced line) (continued_before lines t others spaced) in
    rw (append_assoc (ended (joined 1 line)) (continued lines) t, append_assoc line (flat lines) others) whole

-- Rows.

row_before : (width : ℕ) (fields : List (List ℕ)) (text t : List ℕ) (others : List (List ℕ)) → IsRow width 1 fields text → IsSpaced is_space t others → IsSpaced is_space (text ++ t) (fields ++ others)
row_before width fields text t others row spaced =
    subst (λ first. IsSpaced is_space (first ++ t) (fields ++ others)) (sym row.is_text)
    (subst (λ fs. IsSpaced is_space (text_of_lines 1 row.lines ++ t) (fs ++ others)) row.whole (lines_before row.lines t others spaced))

row_spaced : (width : ℕ) (fields : List (List ℕ)) (text : List ℕ) → IsRow width 1 fields text → IsSpaced is_space text fields
row_spaced width fields text row =
    let alone = row_before width fields text [] [] row tt in
    subst (λ t. IsSpaced is_space t fields) (append-nil text) (subst (λ fs. IsSpaced is_space (text ++ []) fs) (append-nil fields) alone)

-- the blanks that align a field are spaces too
unaligned : (widths : ℕ → ℕ) (k : ℕ) (fields others : List (List ℕ)) (text : List ℕ) → IsSpaced is_space text (aligned widths k fields ++ others) → IsSpaced is_space text (fields ++ others)
unaligned widths k [] others text spaced = spaced
unaligned widths k (f ∷ fs) others text spaced =
    let before = blanks (widths k - length f) in (
      spaced.0 ++ before,
      spaced.1,
      spaced.2 ∙ simp append_assoc,
      all_append is_space spaced.0 before spaced.3 (all_replicated is_space blank (widths k - length f) refl),
      spaced.4,
      unaligned widths (k + 1) fs others spaced.1 spaced.5,
    )

rows_spaced : (width r : ℕ) (shape : List ℕ) (widths : ℕ → ℕ) (rows : List (List (List ℕ))) (text : List ℕ) → AreRows width 1 shape r (map (aligned widths 0) rows) text → IsSpaced is_space text (flat rows)
rows_spaced width r shape widths [] text are = subst (AllPass is_space) (sym are) tt
rows_spaced width r shape widths (row ∷ rows) text are =
    let rest = rows_spaced width (r + 1) shape widths rows are.1 are.3 in
    let both = unaligned widths 0 row (flat rows) (are.0 ++ are.1) (row_before width (aligned widths 0 row) are.0 are.1 (flat rows) are.2 rest) in
    subst (λ t. IsSpaced is_space t (row ++ flat rows)) (sym are.4)
    (spaces_before (replicate (empty_lines shape r) line_feed) (are.0 ++ are.1) (row ++ flat rows) (all_replicated is_space line_feed (empty_lines shape r) refl) both)

-- rows are as many as hold all fields
count_split : (shape : List ℕ) → row_count shape * row_length shape ≡ count_of shape
count_split [] = refl
count_split (n ∷ []) = omega arith
count_split (n ∷ m ∷ shape) = mul_assoc n (row_count (m ∷ shape)) (row_length (m ∷ shape)) ∙ ap (λ c. n * c) (count_split (m ∷ shape))

flat_rows : (rows columns : ℕ) (fields : List (List ℕ)) → length fields ≡ rows * columns → flat (rows_of rows columns fields) ≡ fields
flat_rows zero columns [] whole = refl
flat_rows zero columns (f ∷ fs) whole = absurd (omega arith)
flat_rows (suc rows) columns fields whole =
    let fewer : length (drop columns fields) ≡ rows * columns = omega (arith, length-drop columns fields) in
    ap (λ fs. take columns fields ++ fs) (flat_rows rows columns (drop columns fields) fewer) ∙ take-append-drop columns fields

-- an array of any rank
pub text_spaced : (width : ℕ) (shape : List ℕ) (fields : List (List ℕ)) (text : List ℕ) → length fields ≡ count_of shape → IsText width 1 shape fields text → IsSpaced is_space text fields
text_spaced width [] fields text whole is = row_spaced width fields text is
text_spaced width (n ∷ []) fields text whole is = row_spaced width fields text is
text_spaced width (n ∷ m ∷ shape) [] text whole is = subst (AllPass is_space) (sym is) tt
text_spaced width (n ∷ m ∷ shape) (f ∷ fs) text whole is =
    let rows = row_count (n ∷ m ∷ shape) in
    let columns = row_length (n ∷ m ∷ shape) in
    let table = rows_of rows columns (f ∷ fs) in
    subst (IsSpaced is_space text) (flat_rows rows columns (f ∷ fs) (whole ∙ sym (count_split (n ∷ m ∷ shape))))
    (rows_spaced width 0 (n ∷ m ∷ shape) (column_width table) table text is)

-- where there is no field, all is space
pub no_field : (width : ℕ) (shape text : List ℕ) → IsText width 1 shape [] text → AllPass is_space text
no_field width [] text is = row_spaced width [] text is
no_field width (n ∷ []) text is = row_spaced width [] text is
no_field width (n ∷ m ∷ shape) text is = subst (AllPass is_space) (sym is) tt

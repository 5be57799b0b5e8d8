-- Worked examples: the steps of some lines, and a run of three lines.
use Rattle.std.proofs.Common.{◌≡◌, ℕ, true, false, List, [], ◌∷◌, ◌++◌, None, length, codes, inl, inr, refl, sym, ap, subst, ◌∙◌, arith, lit≤, lit<, append-nil, length-append}
use Rattle.std.specs.Prelude.{encode_utf8, encode_utf8_all}
use Rattle.std.specs.Fmt.{digits}
use Rattle.std.specs.FinMap.{get-empty}
use Rattle.std.specs.Cmp.Lexicographic.{slice_cmp}
use Rattle.std.specs.Ordering.{nat_cmp}
use Rattle.std.proofs.lemmas.Str.{length-encode, len_utf8_bounds}
use Rattle.apl_array.specs.declared.axis.Origin.TheVariants.{Zero}
use Rattle.apl_array.specs.Array.{ArrayValue, character_array}
use Rattle.apl_tokens.specs.Symbols.{is_blank, is_listed}
use Rattle.apl_tokens.specs.Fronts.{AllPass}
use Rattle.apl_grammar.specs.Tree.{Expr, value, constant, name}
use Rattle.apl_syntax.specs.declared.lines.Command.TheVariants.{Origin, Off}
use Rattle.apl_syntax.specs.Commands.{close_paren, IsCommandLine}
use Rattle.apl_syntax.specs.Reading.{IsReading, IsListed, command, statement}
use Rattle.apl_print.specs.declared.reports.Report.TheVariants.{Value}
use Rattle.apl_eval.specs.Workspace.{WorkspaceValue, value_of, with_origin, opening_workspace}
use Rattle.apl_eval.specs.Meaning.{failed, outcome_at, name_result, meaning_of}
use Rattle.apl_session.specs.Lines.{lines_of, without_return}
use Rattle.apl_session.specs.Run.{Answer, IsAnswer, IsRun, text_of}
use Rattle.apl_session.specs.Step.{text_answer, IsStatementAnswer, IsStep, session_semantics}

-- ---- lines

last_line_without_line_feed : lines_of (codes "1\n2") ≡ codes "1" ∷ codes "2" ∷ []
last_line_without_line_feed = refl

empty_lines : lines_of (codes "\n\n1\n") ≡ [] ∷ [] ∷ codes "1" ∷ []
empty_lines = refl

one_return_is_left_out : without_return (codes "1\r\r") ≡ codes "1\r"
one_return_is_left_out = refl

-- ---- how the lines read

listed : (line : List ℕ) → AllPass is_listed line → IsListed (encode_utf8_all line) line
listed line each = record {
  listed = each;
  split = sym (append-nil (encode_utf8_all line));
  longest = λ c after yes e. omega (arith, ap length e, length-append (encode_utf8 c) after, length-encode c, len_utf8_bounds c);
}

no_command : (first : ℕ) (others : List ℕ) → is_blank first ≡ false → (first ≡ close_paren → ⊥) → IsCommandLine (first ∷ others) → ⊥
no_command first others no_blank no_paren (text, ([], all, split)) = no_paren cc
no_command first others no_blank no_paren (text, (b ∷ bs, all, split)) =
    let same : first ≡ b = cc in
    let yes : is_blank first ≡ true = ap is_blank same ∙ all.0 in
    absurd cc

abbrev letters : ArrayValue
letters = character_array (2 ∷ []) (codes "XY")

-- 'XY'
abbrev text_tree : Expr
text_tree = value (constant 0 letters)

text_reading : IsReading (codes "'XY'") (statement text_tree)
unfolding lib.Utf8.encode
text_reading = (
  codes "'XY'",
  listed (codes "'XY'") (refl, (refl, (refl, (refl, tt)))),
  (
    no_command 39 (codes "XY'") refl (λ e. omega (arith, e)),
    (
      (
        4,
        [],
        (
          [],
          codes "'XY'",
          [],
          refl,
          tt,
          refl,
          inr (record { characters = codes "XY"; spelled = refl; ends = tt; few = lit≤ tt; is = refl }),
          ([], refl, tt, tt, refl),
        ),
        tt,
      ),
      tt,
    ),
  ),
)

-- B
abbrev name_tree : Expr
name_tree = value (name 0 (codes "B"))

name_reading : IsReading (codes "B") (statement name_tree)
unfolding lib.Utf8.encode
name_reading = (
  codes "B",
  listed (codes "B") (refl, tt),
  (
    no_command 66 [] refl (λ e. omega (arith, e)),
    (
      (
        1,
        [],
        (
          [],
          codes "B",
          [],
          refl,
          tt,
          refl,
          record { first = 66; others = []; split = refl; letter = refl; characters = tt; longest = tt; is = refl },
          ([], refl, tt, tt, refl),
        ),
        tt,
      ),
      tt,
    ),
  ),
)

origin_reading : IsReading (codes ")ORIGIN 0") (command (Origin Zero))
unfolding lib.Utf8.encode
origin_reading = (
  codes ")ORIGIN 0",
  listed (codes ")ORIGIN 0") (refl, (refl, (refl, (refl, (refl, (refl, (refl, (refl, (refl, tt))))))))),
  (
    codes "ORIGIN 0",
    codes "ORIGIN",
    codes "0",
    ([], tt, refl),
    record {
      gap = codes " ";
      after = [];
      split = refl;
      one_word = (refl, (refl, (refl, (refl, (refl, (refl, tt))))));
      next_blank = refl;
      gap_blank = (refl, tt);
      begins = refl;
      ends = refl;
      after_blank = tt;
    },
    (refl, ((refl, tt), refl)),
  ),
)

off_reading : IsReading (codes ")OFF") (command Off)
unfolding lib.Utf8.encode
off_reading = (
  codes ")OFF",
  listed (codes ")OFF") (refl, (refl, (refl, (refl, tt)))),
  (
    codes "OFF",
    codes "OFF",
    [],
    ([], tt, refl),
    record {
      gap = [];
      after = [];
      split = refl;
      one_word = (refl, (refl, (refl, tt)));
      next_blank = tt;
      gap_blank = tt;
      begins = tt;
      ends = tt;
      after_blank = tt;
    },
    (refl, refl),
  ),
)

-- ---- steps

-- 'XY' writes its characters
text_step : IsStep opening_workspace (codes "'XY'") (text_answer (codes "XY\n") opening_workspace)
unfolding lib.Utf8.encode
text_step = (
  statement text_tree,
  text_reading,
  (
    codes "XY\n",
    record {
      lines = (codes "X" ∷ codes "Y" ∷ []) ∷ [];
      whole = refl;
      laid = (lit< tt, lit≤ tt, tt, tt);
      is_text = refl;
    },
    refl,
  ),
)

abbrev origin_zero : WorkspaceValue
origin_zero = with_origin Zero opening_workspace

-- )ORIGIN 0 tells the origin that was
abbrev origin_answer : Answer WorkspaceValue
origin_answer = text_answer (codes "WAS 1\n") origin_zero

origin_step : IsStep opening_workspace (codes ")ORIGIN 0") origin_answer
unfolding digits
origin_step = (command (Origin Zero), origin_reading, refl)

-- B has no value
abbrev name_answer : Answer WorkspaceValue
name_answer = text_answer (codes "VALUE ERROR\n      B\n      " ++ 0xE2 ∷ 0x88 ∷ 0xA7 ∷ codes "\n") origin_zero

name_step : IsStep origin_zero (codes "B") name_answer
unfolding lib.Utf8.encode
name_step =
    let none : value_of (codes "B") origin_zero ≡ None = get-empty (slice_cmp nat_cmp) (codes "B") in
    let means : meaning_of name_tree origin_zero ≡ failed Value 0 origin_zero = ap (λ found. outcome_at 0 (name_result found) origin_zero) none in
    (statement name_tree, name_reading, subst (λ outcome. IsStatementAnswer (codes "B") name_tree outcome name_answer) (sym means) refl)

-- )OFF writes nothing, and ends the run
abbrev off_answer : Answer WorkspaceValue
off_answer = record { text = []; after = origin_zero; ends = true }

off_step : IsStep origin_zero (codes ")OFF") off_answer
off_step = (command Off, off_reading, refl)

-- for lack of memory B may be refused instead
refused : IsAnswer session_semantics origin_zero (codes "B") (text_answer (codes "WS FULL\n      B\n") origin_zero)
unfolding lib.Utf8.encode
refused = inr (refl, (codes "B", listed (codes "B") (refl, tt)))

-- ---- a run: the third line ends it, and the line after it has no answer

run : IsRun session_semantics opening_workspace (codes ")ORIGIN 0" ∷ codes "B\r" ∷ codes ")OFF" ∷ codes "'XY'" ∷ []) (origin_answer ∷ name_answer ∷ off_answer ∷ [])
run = (inl origin_step, (inl name_step, (inl off_step, refl)))

written : text_of (origin_answer ∷ name_answer ∷ off_answer ∷ []) ≡ codes "WAS 1\nVALUE ERROR\n      B\n      " ++ 0xE2 ∷ 0x88 ∷ 0xA7 ∷ codes "\n"
written = refl

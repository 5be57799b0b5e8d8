-- Worked examples of lines that are printed and read.
use Rattle.std.proofs.Common.{◌≡◌, pos, negsuc, [], ◌∷◌, ◌++◌, codes, refl, lit≤, lit<}
use Rattle.std.specs.Fmt.{digits}
use Rattle.apl_array.specs.Array.{number_array}
use Rattle.apl_print.specs.Text.{high_minus}
use Rattle.apl_print.specs.Shown.{IsShown}
use Rattle.apl_tokens.specs.Lexis.{quoted}
use Rattle.apl_echo.specs.Lines.{number_value, text_value, number_line, IsPrintedLine, on_one_line}

-- the line of 1 ¯20 3
three_numbers : IsPrintedLine (number_value (pos 1 ∷ negsuc 19 ∷ pos 3 ∷ [])) 30 (codes "1 " ++ high_minus ∷ codes "20 3")
unfolding digits
three_numbers = record {
  shown = record {
    lines = (codes "1" ∷ (high_minus ∷ codes "20") ∷ codes "3" ∷ []) ∷ [];
    whole = refl;
    laid = (lit< tt, lit≤ tt, tt, tt);
    is_text = refl;
  };
  one = (refl, (refl, (refl, (refl, (refl, (refl, (refl, tt)))))));
}

numerals_and_blanks : number_line (pos 1 ∷ negsuc 19 ∷ pos 3 ∷ []) ≡ codes "1 " ++ high_minus ∷ codes "20 3"
unfolding digits
numerals_and_blanks = refl

-- the line of five characters, and what reads as them
five_characters : IsPrintedLine (text_value (codes "IT'S!")) 30 (codes "IT'S!")
five_characters = record {
  shown = record {
    lines = (codes "I" ∷ codes "T" ∷ codes "'" ∷ codes "S" ∷ codes "!" ∷ []) ∷ [];
    whole = refl;
    laid = (lit< tt, lit≤ tt, tt, tt);
    is_text = refl;
  };
  one = (refl, (refl, (refl, (refl, (refl, tt)))));
}

between_quotes : quoted (codes "IT'S!") ≡ codes "'IT''S!'"
between_quotes = refl

-- Lines of several, as one.

-- a table with the rows 1 ¯10 and 100 2
table : IsShown (number_array (2 ∷ 2 ∷ []) (pos 1 ∷ negsuc 9 ∷ pos 100 ∷ pos 2 ∷ [])) 30 (codes "  1 " ++ high_minus ∷ codes "10\n100   2\n")
unfolding digits
table = (
  codes "  1 " ++ high_minus ∷ codes "10\n",
  codes "100   2\n",
  record { lines = (codes "  1" ∷ (high_minus ∷ codes "10") ∷ []) ∷ []; whole = refl; laid = (lit< tt, lit≤ tt, tt, tt); is_text = refl },
  (codes "100   2\n", [], record { lines = (codes "100" ∷ codes "  2" ∷ []) ∷ []; whole = refl; laid = (lit< tt, lit≤ tt, tt, tt); is_text = refl }, refl, refl),
  refl,
)

table_on_one_line : on_one_line (codes "  1 " ++ high_minus ∷ codes "10\n100   2\n") ≡ codes "  1 " ++ high_minus ∷ codes "10 100   2 "
table_on_one_line = refl

-- the two planes of 2 1 2⍴1 2 3 4
planes : IsShown (number_array (2 ∷ 1 ∷ 2 ∷ []) (pos 1 ∷ pos 2 ∷ pos 3 ∷ pos 4 ∷ [])) 30 (codes "1 2\n\n3 4\n")
unfolding digits
planes = (
  codes "1 2\n",
  codes "\n3 4\n",
  record { lines = (codes "1" ∷ codes "2" ∷ []) ∷ []; whole = refl; laid = (lit< tt, lit≤ tt, tt, tt); is_text = refl },
  (codes "3 4\n", [], record { lines = (codes "3" ∷ codes "4" ∷ []) ∷ []; whole = refl; laid = (lit< tt, lit≤ tt, tt, tt); is_text = refl }, refl, refl),
  refl,
)

planes_on_one_line : on_one_line (codes "1 2\n\n3 4\n") ≡ codes "1 2  3 4 "
planes_on_one_line = refl

-- 99999999 four times on lines of 30 characters
four_numbers : IsShown (number_value (pos 99999999 ∷ pos 99999999 ∷ pos 99999999 ∷ pos 99999999 ∷ [])) 30 (codes "99999999 99999999 99999999\n      99999999\n")
unfolding digits
four_numbers = record {
  lines = (codes "99999999" ∷ codes "99999999" ∷ codes "99999999" ∷ []) ∷ (codes "99999999" ∷ []) ∷ [];
  whole = refl;
  laid = (lit< tt, lit≤ tt, lit< tt, (lit< tt, lit≤ tt, tt, tt));
  is_text = refl;
}

continued_on_one_line : on_one_line (codes "99999999 99999999 99999999\n      99999999\n") ≡ codes "99999999 99999999 99999999       99999999 "
continued_on_one_line = refl

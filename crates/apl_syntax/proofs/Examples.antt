-- Worked examples of commands, and of lines with what they read as.
use Rattle.std.proofs.Common.{◌≡◌, ℕ, List, [], ◌∷◌, length, codes, refl, sym, ap, ◌∙◌, arith, lit≤, append-nil, length-append}
use Rattle.std.specs.Prelude.{true, false, encode_utf8, encode_utf8_all}
use Rattle.std.proofs.lemmas.Str.{length-encode, len_utf8_bounds}
use Rattle.apl_array.specs.declared.axis.Origin.TheVariants.{Zero}
use Rattle.apl_array.specs.declared.function.ScalarFunction.TheVariants.{Plus}
use Rattle.apl_tokens.specs.Symbols.{is_blank, is_listed}
use Rattle.apl_tokens.specs.Fronts.{AllPass}
use Rattle.apl_grammar.specs.declared.forms.DyadicFunction.TheVariants.{Scalar}
use Rattle.apl_grammar.specs.declared.forms.DyadicForm.TheVariants.{Plain}
use Rattle.apl_grammar.specs.Tree.{Expr, value, dyadic, name, none}
use Rattle.apl_syntax.specs.declared.lines.Command.TheVariants.{Origin, Width, Clear, Off}
use Rattle.apl_syntax.specs.Commands.{close_paren, IsCommandLine, IsCommand}
use Rattle.apl_syntax.specs.Reading.{IsReading, IsListed, command, blank, statement}

-- ---- commands

-- )CLEAR
clear : IsCommand (codes ")CLEAR") Clear
clear = (
  codes "CLEAR",
  codes "CLEAR",
  [],
  ([], tt, refl),
  record {
    gap = [];
    after = [];
    split = refl;
    one_word = (refl, (refl, (refl, (refl, (refl, tt)))));
    next_blank = tt;
    gap_blank = tt;
    begins = tt;
    ends = tt;
    after_blank = tt;
  },
  (refl, refl),
)

-- )OFF with blanks around it
off : IsCommand (codes "  )OFF ") Off
off = (
  codes "OFF ",
  codes "OFF",
  [],
  (codes "  ", (refl, (refl, tt)), refl),
  record {
    gap = codes " ";
    after = [];
    split = refl;
    one_word = (refl, (refl, (refl, tt)));
    next_blank = refl;
    gap_blank = (refl, tt);
    begins = tt;
    ends = tt;
    after_blank = tt;
  },
  (refl, refl),
)

-- )ORIGIN 0
origin : IsCommand (codes ")ORIGIN 0") (Origin Zero)
origin = (
  codes "ORIGIN 0",
  codes "ORIGIN",
  codes "0",
  ([], tt, refl),
  record {
    gap = codes " ";
    after = [];
    split = refl;
    one_word = (refl, (refl, (refl, (refl, (refl, (refl, tt))))));
    next_blank = refl;
    gap_blank = (refl, tt);
    begins = refl;
    ends = refl;
    after_blank = tt;
  },
  (refl, ((refl, tt), refl)),
)

-- )WIDTH 060
width : IsCommand (codes ")WIDTH 060") (Width 60)
width = (
  codes "WIDTH 060",
  codes "WIDTH",
  codes "060",
  ([], tt, refl),
  record {
    gap = codes " ";
    after = [];
    split = refl;
    one_word = (refl, (refl, (refl, (refl, (refl, tt)))));
    next_blank = refl;
    gap_blank = (refl, tt);
    begins = refl;
    ends = refl;
    after_blank = tt;
  },
  (refl, ((refl, (refl, (refl, tt))), refl), lit≤ tt, lit≤ tt),
)

-- ---- lines

-- a line of listed characters
listed : (line : List ℕ) → AllPass is_listed line → IsListed (encode_utf8_all line) line
listed line each = record {
  listed = each;
  split = sym (append-nil (encode_utf8_all line));
  longest = λ c after yes e. omega (arith, ap length e, length-append (encode_utf8 c) after, length-encode c, len_utf8_bounds c);
}

-- a line whose first character is no blank and no parenthesis is no command
no_command : (first : ℕ) (others : List ℕ) → is_blank first ≡ false → (first ≡ close_paren → ⊥) → IsCommandLine (first ∷ others) → ⊥
no_command first others no_blank no_paren (text, ([], all, split)) = no_paren cc
no_command first others no_blank no_paren (text, (b ∷ bs, all, split)) =
    let same : first ≡ b = cc in
    let yes : is_blank first ≡ true = ap is_blank same ∙ all.0 in
    absurd cc

-- )CLEAR is a command, though its parenthesis is a token
command_line : IsReading (codes ")CLEAR") (command Clear)
unfolding lib.Utf8.encode
command_line = (codes ")CLEAR", listed (codes ")CLEAR") (refl, (refl, (refl, (refl, (refl, (refl, tt)))))), clear)

-- A+B
sum : Expr
sum = dyadic (name 0 (codes "A")) (Plain 1 (Scalar Plus)) none (value (name 2 (codes "B")))

sum_line : IsReading (codes "A+B") (statement sum)
unfolding sum lib.Utf8.encode
sum_line = (
  codes "A+B",
  listed (codes "A+B") (refl, (refl, (refl, tt))),
  (
    no_command 65 (codes "+B") refl (λ e. omega (arith, e)),
    (
      (
        3,
        [],
        (
          [],
          codes "A",
          codes "+B",
          refl,
          tt,
          refl,
          record { first = 65; others = []; split = refl; letter = refl; characters = tt; longest = refl; is = refl },
          (
            [],
            codes "+",
            codes "B",
            refl,
            tt,
            refl,
            record { character = 43; split = refl; is = refl },
            (
              [],
              codes "B",
              [],
              refl,
              tt,
              refl,
              record { first = 66; others = []; split = refl; letter = refl; characters = tt; longest = tt; is = refl },
              ([], refl, tt, tt, refl),
            ),
          ),
        ),
        tt,
      ),
      (tt, refl, tt, tt),
    ),
  ),
)

-- a line of blanks alone
blank_line : IsReading (codes "  ") blank
unfolding lib.Utf8.encode
blank_line = (codes "  ", listed (codes "  ") (refl, (refl, tt)), (no_command_among_blanks, (2, [], (codes "  ", refl, (refl, (refl, tt)), tt, refl), tt)))
  where
    no_parenthesis : 32 ≡ close_paren → ⊥
    no_parenthesis e = omega (arith, e)

    no_command_among_blanks : IsCommandLine (codes "  ") → ⊥
    no_command_among_blanks (text, ([], all, split)) = no_parenthesis cc
    no_command_among_blanks (text, (b ∷ [], all, split)) = no_parenthesis cc
    no_command_among_blanks (text, (b ∷ d ∷ [], all, split)) = absurd cc
    no_command_among_blanks (text, (b ∷ d ∷ e ∷ bs, all, split)) = absurd cc

-- A line of listed characters that is one constant, perhaps with blanks around it, is read as the statement of that constant.
use Rattle.std.proofs.Common.{◌≡◌, ℕ, ◌+◌, ◌≤◌, Bool, true, false, eqb→eq, List, [], ◌∷◌, ◌++◌, length, refl, sym, ap, subst, ◌∙◌, arith, append-nil, length-append}
use Rattle.std.specs.Prelude.{◌==◌, not, IsTrue, encode_utf8, encode_utf8_all}
use Rattle.std.specs.Bool.{passes}
use Rattle.std.proofs.lemmas.Bool.Decides.{nat_tests}
use Rattle.std.proofs.lemmas.Str.{length-encode, len_utf8_bounds}
use Rattle.apl_array.specs.Array.{ArrayValue}
use Rattle.apl_print.specs.Text.{line_feed}
use Rattle.apl_tokens.specs.Symbols.{is_blank, is_listed_ascii, is_listed}
use Rattle.apl_tokens.specs.Fronts.{AllPass, IsFront}
use Rattle.apl_tokens.specs.Lexis.{IsConstant, Lexes, constant_shape}
use Rattle.apl_grammar.specs.Tree.{value, constant, spells}
use Rattle.apl_syntax.specs.Commands.{close_paren, IsCommandLine}
use Rattle.apl_echo.specs.Lines.{is_no_line_feed, ReadsAt, ReadsAs, ReadsAsBlank}

listed_front : (line : List ℕ) → AllPass is_listed line → IsFront (encode_utf8_all line) line []
listed_front line listed = record {
  listed = listed;
  split = sym (append-nil (encode_utf8_all line));
  longest = λ c after yes e. omega (arith, ap length e, length-append (encode_utf8 c) after, length-encode c, len_utf8_bounds c);
}

one_token : (gap text after : List ℕ) (a : ArrayValue) → AllPass is_blank gap → AllPass is_blank after → IsConstant text after a
    → Lexes (gap ++ (text ++ after)) (spells (value (constant (length gap) a)))
one_token gap text after a before behind is =
    (length gap + length text + length after, [], (gap, text, after, refl, before, omega arith, is, (after, sym (append-nil after), behind, tt, refl)), tt)

-- a command begins with a parenthesis, perhaps after blanks
pub no_command : (first : ℕ) (others : List ℕ) → is_blank first ≡ false → (first ≡ close_paren → ⊥) → IsCommandLine (first ∷ others) → ⊥
no_command first others no_blank no_paren (text, ([], blank, split)) = no_paren cc
no_command first others no_blank no_paren (text, (b ∷ bs, blank, split)) =
    let same : first ≡ b = cc in
    let yes : is_blank first ≡ true = ap is_blank same ∙ blank.0 in
    absurd cc

no_command_after : (gap rest : List ℕ) → AllPass is_blank gap → (IsCommandLine rest → ⊥) → IsCommandLine (gap ++ rest) → ⊥
no_command_after [] rest blank none command = none command
no_command_after (c ∷ gap) rest blank none (text, ([], blanks, split)) =
    let same : c ≡ close_paren = cc in
    let yes : is_blank close_paren ≡ true = ap is_blank (sym same) ∙ blank.0 in
    absurd cc
no_command_after (c ∷ gap) rest blank none (text, (b ∷ bs, blanks, split)) =
    let others : gap ++ rest ≡ bs ++ close_paren ∷ text = cc in
    no_command_after gap rest blank.1 none (text, (bs, blanks.1, others))

no_command_at_end : IsCommandLine [] → ⊥
no_command_at_end (text, ([], blank, split)) = absurd cc
no_command_at_end (text, (b ∷ bs, blank, split)) = absurd cc

pub reads_at : (gap text after : List ℕ) (a : ArrayValue) → AllPass is_blank gap → AllPass is_blank after → AllPass is_listed (gap ++ (text ++ after)) → (IsCommandLine (text ++ after) → ⊥)
    → IsConstant text after a → ReadsAt (length gap) (gap ++ (text ++ after)) a
reads_at gap text after a before behind listed none is =
    (gap ++ (text ++ after), listed_front (gap ++ (text ++ after)) listed, (no_command_after gap (text ++ after) before none, (one_token gap text after a before behind is, tt)))

pub reads_as : (line : List ℕ) (a : ArrayValue) → AllPass is_listed line → (IsCommandLine line → ⊥) → IsConstant line [] a → ReadsAs line a
reads_as line a listed none is =
    let whole : line ++ [] ≡ line = append-nil line in
    subst (λ l. ReadsAs l a) whole (reads_at [] line [] a tt tt (subst (AllPass is_listed) (sym whole) listed) (subst (λ l. IsCommandLine l → ⊥) (sym whole) none) is)

pub listed_is_one_line : (line : List ℕ) → AllPass is_listed line → AllPass is_no_line_feed line
listed_is_one_line [] listed = tt
listed_is_one_line (c ∷ line) listed = (by_test (c == line_feed) refl, listed_is_one_line line listed.1)
  where
    by_test : (b : Bool) → (c == line_feed) ≡ b → IsTrue (not b)
    by_test true e =
        let bad : is_listed line_feed ≡ true = ap is_listed (sym (eqb→eq c line_feed (passes (c == line_feed) e))) ∙ listed.0 in
        absurd cc
    by_test false e = refl

pub blanks_listed : (line : List ℕ) → AllPass is_blank line → AllPass is_listed line
blanks_listed [] all = tt
blanks_listed (c ∷ line) all = (listed c all.0, blanks_listed line all.1)
  where
    listed : (c : ℕ) → IsTrue (is_blank c) → IsTrue (is_listed c)
    listed c h = let ascii : is_listed_ascii c ≡ true = grind (arith, nat_tests, h) in rw ascii refl

pub blank_read : (line : List ℕ) → AllPass is_blank line → ReadsAsBlank line
blank_read line blank = (
  line,
  listed_front line (blanks_listed line blank),
  (λ command. no_command_after line [] blank no_command_at_end (subst IsCommandLine (sym (append-nil line)) command), (length line, [], (line, sym (append-nil line), blank, tt, omega arith), tt)),
)

-- the shape of a constant has one axis at most
pub constant_rank : {A : Type 0} (xs : List A) → length (constant_shape xs) ≤ 1
constant_rank [] = omega arith
constant_rank (x ∷ []) = omega arith
constant_rank (x ∷ y ∷ xs) = omega arith

-- A word and its argument have one command.
use Rattle.std.proofs.Common.{◌≡◌, ◌⊎◌, ◌∷◌, [], List, refl, sym, ◌∙◌, ap, subst, inl, inr, arith, ◌<◌, ◌≤◌, ℕ, zero, suc, Bool, true, false}
use Rattle.std.specs.Prelude.{codes, nat_le}
use Rattle.std.specs.Str.{bytes_eq}
use Rattle.std.proofs.lemmas.Slice.Eq.{bytes_eq-Decides}
use Rattle.std.proofs.lemmas.Bool.Decides.{nat_tests}
use Rattle.apl_tokens.specs.Symbols.{is_digit}
use Rattle.apl_tokens.specs.Fronts.{AllPass}
use Rattle.apl_tokens.specs.Lexis.{AreDigits, number_of_digits}
use Rattle.apl_array.specs.Axes.{origin_number}
use Rattle.apl_array.specs.declared.axis.Origin.{Origin}
use Rattle.apl_array.specs.declared.axis.Origin.TheVariants.{Zero, One}
use Rattle.apl_syntax.specs.declared.lines.Command.{Command}
use Rattle.apl_syntax.specs.declared.lines.Command.TheVariants as command
use Rattle.apl_syntax.specs.Commands.{least_width, most_width, IsCommandLine, HasWordAndArgument, AreDigitsOf, IsSpelled, IsCommandOf, IsCommand}
use Rattle.apl_syntax.proofs.Words.{one_word, one_text, some_word}

apart : (word a b : List ℕ) → bytes_eq a b ≡ false → word ≡ a → word ≡ b → ⊥
apart word a b differ h k =
    let same : bytes_eq a b ≡ true = (bytes_eq-Decides a b).1 (sym h ∙ k) in
    absurd cc

one_origin : (o p : Origin) → origin_number o ≡ origin_number p → o ≡ p
one_origin Zero Zero h = refl
one_origin Zero One h = absurd (omega (arith, h))
one_origin One Zero h = absurd (omega (arith, h))
one_origin One One h = refl

one_spelled : (word argument : List ℕ) (c d : Command) → IsSpelled word argument c → IsSpelled word argument d → c ≡ d
one_spelled word argument (command.Origin o) (command.Origin p) h k = ap command.Origin (one_origin o p (sym h.1.1 ∙ k.1.1))
one_spelled word argument (command.Origin o) (command.Width w) h k = absurd (apart word (codes "ORIGIN") (codes "WIDTH") refl h.0 k.0)
one_spelled word argument (command.Origin o) command.Clear h k = absurd (apart word (codes "ORIGIN") (codes "CLEAR") refl h.0 k.0)
one_spelled word argument (command.Origin o) command.Off h k = absurd (apart word (codes "ORIGIN") (codes "OFF") refl h.0 k.0)
one_spelled word argument (command.Width v) (command.Origin o) h k = absurd (apart word (codes "WIDTH") (codes "ORIGIN") refl h.0 k.0)
one_spelled word argument (command.Width v) (command.Width w) h k = ap command.Width (sym h.1.1 ∙ k.1.1)
one_spelled word argument (command.Width v) command.Clear h k = absurd (apart word (codes "WIDTH") (codes "CLEAR") refl h.0 k.0)
one_spelled word argument (command.Width v) command.Off h k = absurd (apart word (codes "WIDTH") (codes "OFF") refl h.0 k.0)
one_spelled word argument command.Clear (command.Origin o) h k = absurd (apart word (codes "CLEAR") (codes "ORIGIN") refl h.0 k.0)
one_spelled word argument command.Clear (command.Width w) h k = absurd (apart word (codes "CLEAR") (codes "WIDTH") refl h.0 k.0)
one_spelled word argument command.Clear command.Clear h k = refl
one_spelled word argument command.Clear command.Off h k = absurd (apart word (codes "CLEAR") (codes "OFF") refl h.0 k.0)
one_spelled word argument command.Off (command.Origin o) h k = absurd (apart word (codes "OFF") (codes "ORIGIN") refl h.0 k.0)
one_spelled word argument command.Off (command.Width w) h k = absurd (apart word (codes "OFF") (codes "WIDTH") refl h.0 k.0)
one_spelled word argument command.Off command.Clear h k = absurd (apart word (codes "OFF") (codes "CLEAR") refl h.0 k.0)
one_spelled word argument command.Off command.Off h k = refl
one_spelled word argument c command.Incorrect h k = absurd k
one_spelled word argument command.Incorrect d h k = absurd h

-- a command is spelled, or incorrect since none is
abbrev Parts : List ℕ → List ℕ → Command → Type 0
Parts word argument c = IsSpelled word argument c ⊎ ((c ≡ command.Incorrect) × ((d : Command) → IsSpelled word argument d → ⊥))

parts : (word argument : List ℕ) (c : Command) → IsCommandOf word argument c → Parts word argument c
parts word argument (command.Origin o) h = inl h
parts word argument (command.Width w) h = inl h
parts word argument command.Clear h = inl h
parts word argument command.Off h = inl h
parts word argument command.Incorrect h = inr (refl, h)

one_of_parts : (word argument : List ℕ) (c d : Command) → Parts word argument c → Parts word argument d → c ≡ d
one_of_parts word argument c d (inl h) (inl k) = one_spelled word argument c d h k
one_of_parts word argument c d (inl h) (inr (is, none)) = absurd (none c h)
one_of_parts word argument c d (inr (is, none)) (inl k) = absurd (none d k)
one_of_parts word argument c d (inr (is, none)) (inr (other_is, other_none)) = is ∙ sym other_is

pub one_command : (characters : List ℕ) (c d : Command) → IsCommand characters c → IsCommand characters d → c ≡ d
one_command characters c d (text, word, argument, has_text, has_word, is) (other_text, other_word, other_argument, other_has_text, other_has_word, other_is) =
    let texts : text ≡ other_text = one_text characters text other_text has_text other_has_text in
    let words : (word ≡ other_word) × (argument ≡ other_argument) = one_word other_text word other_word argument other_argument (subst (λ (x : List ℕ). HasWordAndArgument x word argument) texts has_word) other_has_word in
    let moved : IsCommandOf other_word other_argument c = subst (λ (x : List ℕ). IsCommandOf x other_argument c) words.0 (subst (λ (x : List ℕ). IsCommandOf word x c) words.1 is) in
    one_of_parts other_word other_argument c d (parts other_word other_argument c moved) (parts other_word other_argument d other_is)

pub command_line_of : (characters : List ℕ) (c : Command) → IsCommand characters c → IsCommandLine characters
command_line_of characters c (text, word, argument, has_text, has_word, is) = (text, has_text)

-- `)ORIGIN` with another number, or with none
pub incorrect_origin : (argument : List ℕ) → ((n : ℕ) → AreDigitsOf n argument → 1 < n) → IsCommandOf (codes "ORIGIN") argument command.Incorrect
incorrect_origin argument none (command.Origin Zero) h = absurd (omega (arith, none 0 h.1))
incorrect_origin argument none (command.Origin One) h = absurd (omega (arith, none 1 h.1))
incorrect_origin argument none (command.Width w) h = apart (codes "ORIGIN") (codes "ORIGIN") (codes "WIDTH") refl refl h.0
incorrect_origin argument none command.Clear h = apart (codes "ORIGIN") (codes "ORIGIN") (codes "CLEAR") refl refl h.0
incorrect_origin argument none command.Off h = apart (codes "ORIGIN") (codes "ORIGIN") (codes "OFF") refl refl h.0
incorrect_origin argument none command.Incorrect h = h

-- `)WIDTH` with another number, or with none
pub incorrect_width : (argument : List ℕ) → ((n : ℕ) → AreDigitsOf n argument → least_width ≤ n → n ≤ most_width → ⊥) → IsCommandOf (codes "WIDTH") argument command.Incorrect
incorrect_width argument none (command.Origin o) h = apart (codes "WIDTH") (codes "WIDTH") (codes "ORIGIN") refl refl h.0
incorrect_width argument none (command.Width w) h = none w h.1 h.2 h.3
incorrect_width argument none command.Clear h = apart (codes "WIDTH") (codes "WIDTH") (codes "CLEAR") refl refl h.0
incorrect_width argument none command.Off h = apart (codes "WIDTH") (codes "WIDTH") (codes "OFF") refl refl h.0
incorrect_width argument none command.Incorrect h = h

-- another word, or an argument that is not wanted
pub incorrect_word : (word argument : List ℕ) → (word ≡ codes "ORIGIN" → ⊥) → (word ≡ codes "WIDTH" → ⊥) → (word ≡ codes "CLEAR" → argument ≡ [] → ⊥) → (word ≡ codes "OFF" → argument ≡ [] → ⊥) → IsCommandOf word argument command.Incorrect
incorrect_word word argument origin width clear off (command.Origin o) h = origin h.0
incorrect_word word argument origin width clear off (command.Width w) h = width h.0
incorrect_word word argument origin width clear off command.Clear h = clear h.0 h.1
incorrect_word word argument origin width clear off command.Off h = off h.0 h.1
incorrect_word word argument origin width clear off command.Incorrect h = h

all_pass : (p : ℕ → Bool) (xs : List ℕ) → AllPass p xs ⊎ (AllPass p xs → ⊥)
all_pass p [] = inl tt
all_pass p (x ∷ xs) = by_test (p x) refl (all_pass p xs)
  where
    by_test : (b : Bool) → p x ≡ b → AllPass p xs ⊎ (AllPass p xs → ⊥) → AllPass p (x ∷ xs) ⊎ (AllPass p (x ∷ xs) → ⊥)
    by_test true e (inl rest) = inl (e, rest)
    by_test true e (inr not) = inr (λ h. not h.1)
    by_test false e rest = inr (λ h. (let yes : p x ≡ true = h.0 in absurd cc))

are_digits : (xs : List ℕ) → AreDigits xs ⊎ (AreDigits xs → ⊥)
are_digits [] = inr (λ h. h)
are_digits (x ∷ xs) = all_pass is_digit (x ∷ xs)

abbrev Found : List ℕ → List ℕ → Type 0
Found word argument = (c : Command) × IsCommandOf word argument c

some_origin : (argument : List ℕ) → Found (codes "ORIGIN") argument
some_origin argument = by_digits (are_digits argument)
  where
    by_number : (n : ℕ) → number_of_digits argument ≡ n → AreDigits argument → Found (codes "ORIGIN") argument
    by_number zero e digits = (command.Origin Zero, (refl, (digits, e)))
    by_number (suc zero) e digits = (command.Origin One, (refl, (digits, e)))
    by_number (suc (suc n)) e digits = (command.Incorrect, incorrect_origin argument (λ m h. omega (arith, e, h.1)))

    by_digits : AreDigits argument ⊎ (AreDigits argument → ⊥) → Found (codes "ORIGIN") argument
    by_digits (inl digits) = by_number (number_of_digits argument) refl digits
    by_digits (inr not) = (command.Incorrect, incorrect_origin argument (λ m h. absurd (not h.0)))

some_width : (argument : List ℕ) → Found (codes "WIDTH") argument
some_width argument = by_digits (are_digits argument)
  where
    by_test : (least most : Bool) → nat_le least_width (number_of_digits argument) ≡ least → nat_le (number_of_digits argument) most_width ≡ most → AreDigits argument → Found (codes "WIDTH") argument
    by_test true true h k digits = (command.Width (number_of_digits argument), (refl, (digits, refl), grind (arith, nat_tests, h), grind (arith, nat_tests, k)))
    by_test false most h k digits = (command.Incorrect, incorrect_width argument (λ n is least most. (let same : number_of_digits argument ≡ n = is.1 in grind (arith, nat_tests, h, same, least))))
    by_test true false h k digits = (command.Incorrect, incorrect_width argument (λ n is least most. (let same : number_of_digits argument ≡ n = is.1 in grind (arith, nat_tests, k, same, most))))

    by_digits : AreDigits argument ⊎ (AreDigits argument → ⊥) → Found (codes "WIDTH") argument
    by_digits (inl digits) = by_test (nat_le least_width (number_of_digits argument)) (nat_le (number_of_digits argument) most_width) refl refl digits
    by_digits (inr not) = (command.Incorrect, incorrect_width argument (λ n is least most. not is.0))

same_or_not : (a b : List ℕ) → (a ≡ b) ⊎ (a ≡ b → ⊥)
same_or_not a b = by_test (bytes_eq a b) refl
  where
    by_test : (r : Bool) → bytes_eq a b ≡ r → (a ≡ b) ⊎ (a ≡ b → ⊥)
    by_test true e = inl ((bytes_eq-Decides a b).0 e)
    by_test false e = inr (λ h. (let yes : bytes_eq a b ≡ true = (bytes_eq-Decides a b).1 h in absurd cc))

some_of : (word argument : List ℕ) → Found word argument
some_of word argument = by_word (same_or_not word (codes "ORIGIN")) (same_or_not word (codes "WIDTH")) (same_or_not word (codes "CLEAR")) (same_or_not word (codes "OFF")) (same_or_not argument [])
  where
    moved : (other : List ℕ) → word ≡ other → Found other argument → Found word argument
    moved other e h = (h.0, subst (λ (x : List ℕ). IsCommandOf x argument h.0) (sym e) h.1)

    by_word : (word ≡ codes "ORIGIN") ⊎ (word ≡ codes "ORIGIN" → ⊥) → (word ≡ codes "WIDTH") ⊎ (word ≡ codes "WIDTH" → ⊥)
        → (word ≡ codes "CLEAR") ⊎ (word ≡ codes "CLEAR" → ⊥) → (word ≡ codes "OFF") ⊎ (word ≡ codes "OFF" → ⊥) → (argument ≡ []) ⊎ (argument ≡ [] → ⊥) → Found word argument
    by_word (inl e) width clear off none = moved (codes "ORIGIN") e (some_origin argument)
    by_word (inr origin) (inl e) clear off none = moved (codes "WIDTH") e (some_width argument)
    by_word (inr origin) (inr width) (inl e) off (inl none) = (command.Clear, (e, none))
    by_word (inr origin) (inr width) (inl e) off (inr some) = (command.Incorrect, incorrect_word word argument origin width (λ h k. some k) (λ h k. some k))
    by_word (inr origin) (inr width) (inr clear) (inl e) (inl none) = (command.Off, (e, none))
    by_word (inr origin) (inr width) (inr clear) (inl e) (inr some) = (command.Incorrect, incorrect_word word argument origin width (λ h k. clear h) (λ h k. some k))
    by_word (inr origin) (inr width) (inr clear) (inr off) none = (command.Incorrect, incorrect_word word argument origin width (λ h k. clear h) (λ h k. off h))

-- a command line has a command
pub some_command : (characters : List ℕ) → IsCommandLine characters → (c : Command) × IsCommand characters c
some_command characters (text, has_text) =
    let words = some_word text in
    let found : Found words.0 words.1 = some_of words.0 words.1 in
    (found.0, (text, words.0, words.1, has_text, words.2, found.1))

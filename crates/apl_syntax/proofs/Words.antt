-- Runs of blanks and of other symbols: the word and the argument of a text.
use Rattle.std.proofs.Common.{◌≡◌, ◌⊎◌, ◌++◌, ◌∷◌, [], List, refl, sym, ◌∙◌, ap, subst, inl, inr, arith, length, take, drop, get_or, ◌+◌, ◌-◌, ◌<◌, ◌≤◌, ℕ, zero, suc, Bool, true, false, eqb→eq}
use Rattle.std.specs.Prelude.{IsTrue, not, ◌==◌}
use Rattle.std.specs.Bool.{passes}
use Rattle.std.proofs.Math.Numerals.{add-one, sub-one}
use Rattle.std.proofs.Common.{length-drop}
use Rattle.std.proofs.lemmas.List.{take-append-drop}
use Rattle.apl_tokens.specs.Symbols.{is_blank}
use Rattle.apl_tokens.specs.Fronts.{AllPass}
use Rattle.apl_tokens.specs.Lexis.{BeginsWithNo}
use Rattle.apl_syntax.specs.Commands.{close_paren, HasCommandText, IsCommandLine, is_no_blank, EndsWithNoBlank, HasWordAndArgument}

pub AllPass-more : (p : ℕ → Bool) (xs : List ℕ) (i x : ℕ) → i < length xs → AllPass p (take i xs) → x ≡ get_or xs i x → IsTrue (p x) → AllPass p (take (i + 1) xs)
AllPass-more p xs i x h front here passes = subst (λ (k : ℕ). AllPass p (take k xs)) (sym (add-one i)) (go xs i h front here)
  where
    go : (xs : List ℕ) (i : ℕ) → i < length xs → AllPass p (take i xs) → x ≡ get_or xs i x → AllPass p (take (suc i) xs)
    go [] i h front here = tt
    go (y ∷ xs) zero h front here = (subst (λ (z : ℕ). IsTrue (p z)) here passes, tt)
    go (y ∷ xs) (suc i) h front here = (front.0, go xs i (omega arith) front.1 here)

begins : (p : ℕ → Bool) (rs : List ℕ) (y : ℕ) (ys : List ℕ) → BeginsWithNo p rs → rs ≡ y ∷ ys → IsTrue (p y) → ⊥
begins p [] y ys none e h = absurd cc
begins p (r ∷ rs) y ys none e h =
    let same : r ≡ y = cc in
    let no : p y ≡ false = ap p (sym same) ∙ none in
    let yes : p y ≡ true = h in
    absurd cc

cons_same : (x y : ℕ) (xs ys : List ℕ) → x ≡ y → xs ≡ ys → ◌≡◌ {A = List ℕ} (x ∷ xs) (y ∷ ys)
cons_same x y xs ys h k = cc

head_same : (x y : ℕ) (xs ys : List ℕ) → ◌≡◌ {A = List ℕ} (x ∷ xs) (y ∷ ys) → x ≡ y
head_same x y xs ys h = cc

tail_same : (x y : ℕ) (xs ys : List ℕ) → ◌≡◌ {A = List ℕ} (x ∷ xs) (y ∷ ys) → xs ≡ ys
tail_same x y xs ys h = cc

-- the longest front of a class is one
pub one_run : (p : ℕ → Bool) (xs rs ys ss : List ℕ) → AllPass p xs → BeginsWithNo p rs → AllPass p ys → BeginsWithNo p ss → xs ++ rs ≡ ys ++ ss → (xs ≡ ys) × (rs ≡ ss)
one_run p [] rs [] ss h none k other e = (refl, e)
one_run p [] rs (y ∷ ys) ss h none k other e = absurd (begins p rs y (ys ++ ss) none e k.0)
one_run p (x ∷ xs) rs [] ss h none k other e = absurd (begins p ss x (xs ++ rs) other (sym e) h.0)
one_run p (x ∷ xs) rs (y ∷ ys) ss h none k other e =
    let rest : (xs ≡ ys) × (rs ≡ ss) = one_run p xs rs ys ss h.1 none k.1 other (tail_same x y (xs ++ rs) (ys ++ ss) e) in
    (cons_same x y xs ys (head_same x y (xs ++ rs) (ys ++ ss) e) rest.0, rest.1)

all_front : (p : ℕ → Bool) (xs ys : List ℕ) → AllPass p (xs ++ ys) → AllPass p xs
all_front p [] ys h = tt
all_front p (x ∷ xs) ys h = (h.0, all_front p xs ys h.1)

not_all : (x : ℕ) (xs : List ℕ) → AllPass is_blank (x ∷ xs) → EndsWithNoBlank (x ∷ xs) → ⊥
not_all x [] h none =
    let yes : is_blank x ≡ true = h.0 in
    let no : is_blank x ≡ false = none in
    absurd cc
not_all x (y ∷ ys) h none = not_all y ys h.1 none

ends_tail : (x : ℕ) (xs : List ℕ) → EndsWithNoBlank (x ∷ xs) → EndsWithNoBlank xs
ends_tail x [] h = tt
ends_tail x (y ∷ ys) h = h

-- what is before the blanks at the end is one
one_end : (xs rs ys ss : List ℕ) → EndsWithNoBlank xs → AllPass is_blank rs → EndsWithNoBlank ys → AllPass is_blank ss → xs ++ rs ≡ ys ++ ss → xs ≡ ys
one_end [] rs [] ss h blank k other e = refl
one_end [] rs (y ∷ ys) ss h blank k other e = absurd (not_all y ys (all_front is_blank (y ∷ ys) ss (subst (AllPass is_blank) e blank)) k)
one_end (x ∷ xs) rs [] ss h blank k other e = absurd (not_all x xs (all_front is_blank (x ∷ xs) rs (subst (AllPass is_blank) (sym e) other)) h)
one_end (x ∷ xs) rs (y ∷ ys) ss h blank k other e =
    cons_same x y xs ys (head_same x y (xs ++ rs) (ys ++ ss) e) (one_end xs rs ys ss (ends_tail x xs h) blank (ends_tail y ys k) other (tail_same x y (xs ++ rs) (ys ++ ss) e))

pub one_word : (text word other argument other_argument : List ℕ) → HasWordAndArgument text word argument → HasWordAndArgument text other other_argument → (word ≡ other) × (argument ≡ other_argument)
one_word text word other argument other_argument h k =
    let words = one_run is_no_blank word (h.gap ++ (argument ++ h.after)) other (k.gap ++ (other_argument ++ k.after)) h.one_word h.next_blank k.one_word k.next_blank (sym h.split ∙ k.split) in
    let gaps = one_run is_blank h.gap (argument ++ h.after) k.gap (other_argument ++ k.after) h.gap_blank h.begins k.gap_blank k.begins words.1 in
    (words.0, one_end argument h.after other_argument k.after h.ends h.after_blank k.ends k.after_blank gaps.1)

pub one_text : (characters text other : List ℕ) → HasCommandText characters text → HasCommandText characters other → text ≡ other
one_text characters text other (blanks, blank, split) (others, other_blank, other_split) =
    tail_same close_paren close_paren text other (one_run is_blank blanks (close_paren ∷ text) others (close_paren ∷ other) blank refl other_blank refl (sym split ∙ other_split)).1

-- the longest front of a class
record LongestPrefix (p : ℕ → Bool) (xs : List ℕ) : Type 0 where
  front : List ℕ
  rest : List ℕ
  split : xs ≡ front ++ rest
  pass : AllPass p front
  longest : BeginsWithNo p rest

front_of : (p : ℕ → Bool) (xs : List ℕ) → LongestPrefix p xs
front_of p [] = record { front = []; rest = []; split = refl; pass = tt; longest = tt }
front_of p (x ∷ xs) = by_test (p x) refl (front_of p xs)
  where
    by_test : (b : Bool) → p x ≡ b → LongestPrefix p xs → LongestPrefix p (x ∷ xs)
    by_test true e f = record { front = x ∷ f.front; rest = f.rest; split = ap (λ (y : List ℕ). x ∷ y) f.split; pass = (e, f.pass); longest = f.longest }
    by_test false e f = record { front = []; rest = x ∷ xs; split = refl; pass = tt; longest = e }

-- what is before the blanks at the end
record Trimmed (xs : List ℕ) : Type 0 where
  front : List ℕ
  after : List ℕ
  split : xs ≡ front ++ after
  ends : EndsWithNoBlank front
  blank : AllPass is_blank after

trimmed : (xs : List ℕ) → Trimmed xs
trimmed [] = record { front = []; after = []; split = refl; ends = tt; blank = tt }
trimmed (x ∷ xs) = let t : Trimmed xs = trimmed xs in by_front t.front t.after t.split t.ends t.blank
  where
    by_test : (b : Bool) → is_blank x ≡ b → (after : List ℕ) → xs ≡ after → AllPass is_blank after → Trimmed (x ∷ xs)
    by_test true e after split blank = record { front = []; after = x ∷ after; split = ap (λ (y : List ℕ). x ∷ y) split; ends = tt; blank = (e, blank) }
    by_test false e after split blank = record { front = x ∷ []; after = after; split = ap (λ (y : List ℕ). x ∷ y) split; ends = e; blank = blank }

    by_front : (front after : List ℕ) → xs ≡ front ++ after → EndsWithNoBlank front → AllPass is_blank after → Trimmed (x ∷ xs)
    by_front [] after split ends blank = by_test (is_blank x) refl after split blank
    by_front (y ∷ ys) after split ends blank = record { front = x ∷ (y ∷ ys); after = after; split = ap (λ (z : List ℕ). x ∷ z) split; ends = ends; blank = blank }

pub word_and_argument : (text word rest gap more argument after : List ℕ) → text ≡ word ++ rest → rest ≡ gap ++ more → more ≡ argument ++ after
    → AllPass is_no_blank word → BeginsWithNo is_no_blank rest → AllPass is_blank gap → BeginsWithNo is_blank more → EndsWithNoBlank argument → AllPass is_blank after → HasWordAndArgument text word argument
word_and_argument text word rest gap more argument after whole parted trimmed one_word next_blank gap_blank begins ends after_blank =
    let rest_is : rest ≡ gap ++ (argument ++ after) = parted ∙ ap (λ (x : List ℕ). gap ++ x) trimmed in
    record {
      gap = gap;
      after = after;
      split = whole ∙ ap (λ (x : List ℕ). word ++ x) rest_is;
      one_word = one_word;
      next_blank = subst (BeginsWithNo is_no_blank) rest_is next_blank;
      gap_blank = gap_blank;
      begins = subst (BeginsWithNo is_blank) trimmed begins;
      ends = ends;
      after_blank = after_blank;
    }

-- each text has a word and an argument
pub some_word : (text : List ℕ) → (word argument : List ℕ) × HasWordAndArgument text word argument
some_word text =
    let word : LongestPrefix is_no_blank text = front_of is_no_blank text in
    let gap : LongestPrefix is_blank word.rest = front_of is_blank word.rest in
    let argument : Trimmed gap.rest = trimmed gap.rest in
    (word.front, argument.front, word_and_argument text word.front word.rest gap.front gap.rest argument.front argument.after word.split gap.split argument.split word.pass word.longest gap.pass gap.longest argument.ends argument.blank)

pub no_command_line : (characters blanks rest : List ℕ) → characters ≡ blanks ++ rest → AllPass is_blank blanks → BeginsWithNo is_blank rest → ((text : List ℕ) → rest ≡ close_paren ∷ text → ⊥) → IsCommandLine characters → ⊥
no_command_line characters blanks rest split blank longest not (text, (others, other_blank, other_split)) =
    not text (one_run is_blank blanks rest others (close_paren ∷ text) blank longest other_blank refl (sym split ∙ other_split)).1

-- whether a line is a command line
pub command_line : (characters : List ℕ) → IsCommandLine characters ⊎ (IsCommandLine characters → ⊥)
command_line characters = let f : LongestPrefix is_blank characters = front_of is_blank characters in by_rest f.front f.rest f.split f.pass f.longest
  where
    by_test : (blanks : List ℕ) (c : ℕ) (text : List ℕ) (b : Bool) → (c == close_paren) ≡ b → characters ≡ blanks ++ c ∷ text → AllPass is_blank blanks → BeginsWithNo is_blank (c ∷ text) → IsCommandLine characters ⊎ (IsCommandLine characters → ⊥)
    by_test blanks c text true e split blank longest =
        let is : c ≡ close_paren = eqb→eq c close_paren (passes (c == close_paren) e) in
        inl (text, (blanks, blank, split ∙ ap (λ (x : ℕ). blanks ++ x ∷ text) is))
    by_test blanks c text false e split blank longest =
        inr (no_command_line characters blanks (c ∷ text) split blank longest (λ other same. other_symbol (head_same c close_paren text other same)))
      where
        other_symbol : c ≡ close_paren → ⊥
        other_symbol is = let yes : (c == close_paren) ≡ true = ap (λ (x : ℕ). x == close_paren) is in absurd cc

    by_rest : (blanks rest : List ℕ) → characters ≡ blanks ++ rest → AllPass is_blank blanks → BeginsWithNo is_blank rest → IsCommandLine characters ⊎ (IsCommandLine characters → ⊥)
    by_rest blanks [] split blank longest = inr (no_command_line characters blanks [] split blank longest (λ text same. absurd cc))
    by_rest blanks (c ∷ text) split blank longest = by_test blanks c text (c == close_paren) refl split blank longest

-- the blanks at the end, from the right
pub blanks_more : (xs : List ℕ) (n x : ℕ) → n < length xs → x ≡ get_or xs n x → IsTrue (is_blank x) → AllPass is_blank (drop (n + 1) xs) → AllPass is_blank (drop n xs)
blanks_more xs n x h here blank after = go xs n h here (subst (λ (k : ℕ). AllPass is_blank (drop k xs)) (add-one n) after)
  where
    go : (xs : List ℕ) (n : ℕ) → n < length xs → x ≡ get_or xs n x → AllPass is_blank (drop (suc n) xs) → AllPass is_blank (drop n xs)
    go [] n h here after = absurd (omega arith)
    go (y ∷ xs) zero h here after = (subst (λ (z : ℕ). IsTrue (is_blank z)) here blank, after)
    go (y ∷ xs) (suc n) h here after = go xs n (omega arith) here after

pub ends_at : (xs : List ℕ) (n x : ℕ) → 0 < n → n ≤ length xs → x ≡ get_or xs (n - 1) x → is_blank x ≡ false → EndsWithNoBlank (take n xs)
ends_at xs zero x some h here no_blank = absurd (omega arith)
ends_at xs (suc n) x some h here no_blank = go xs n (omega arith) (here ∙ ap (λ (k : ℕ). get_or xs k x) (sub-one (suc n)))
  where
    go : (xs : List ℕ) (n : ℕ) → n < length xs → x ≡ get_or xs n x → EndsWithNoBlank (take (suc n) xs)
    go [] n h here = absurd (omega arith)
    go (y ∷ xs) zero h here = ap is_blank (sym here) ∙ no_blank
    go (y ∷ []) (suc n) h here = absurd (omega arith)
    go (y ∷ z ∷ xs) (suc n) h here = go (z ∷ xs) n (omega arith) here

pub not_blank : (x : ℕ) → (x ≡ 32 → ⊥) → is_blank x ≡ false
not_blank x h = by_test (is_blank x) refl
  where
    by_test : (b : Bool) → is_blank x ≡ b → is_blank x ≡ false
    by_test true e = absurd (h (eqb→eq x 32 (passes (is_blank x) e)))
    by_test false e = e

take_all : (xs : List ℕ) → take (length xs) xs ≡ xs
take_all [] = refl
take_all (x ∷ xs) = ap (λ (y : List ℕ). x ∷ y) (take_all xs)

-- what a slice from a place on holds
abbrev pub from : ℕ → List ℕ → List ℕ
from n xs = take (length xs - n) (drop n xs)

rest_of : (xs : List ℕ) (n : ℕ) → from n xs ≡ drop n xs
rest_of xs n = ap (λ (k : ℕ). take k (drop n xs)) (sym (length-drop n xs)) ∙ take_all (drop n xs)

pub word_of_lengths : (text word rest : List ℕ) (n gap end : ℕ) → word ≡ take n text → rest ≡ drop n text → AllPass is_no_blank (take n text) → BeginsWithNo is_no_blank (drop n text)
    → AllPass is_blank (take gap rest) → BeginsWithNo is_blank (drop gap rest) → EndsWithNoBlank (take end (from gap rest)) → AllPass is_blank (drop end (from gap rest)) → HasWordAndArgument text word (take end (from gap rest))
word_of_lengths text word rest n gap end word_is rest_is no_blank next blank longest ends after =
    word_and_argument text word rest (take gap rest) (from gap rest) (take end (from gap rest)) (drop end (from gap rest))
    (sym (take-append-drop n text) ∙ ap (λ (x : List ℕ). x ++ drop n text) (sym word_is) ∙ ap (λ (x : List ℕ). word ++ x) (sym rest_is))
    (sym (take-append-drop gap rest) ∙ ap (λ (x : List ℕ). take gap rest ++ x) (sym (rest_of rest gap)))
    (sym (take-append-drop end (from gap rest)))
    (subst (AllPass is_no_blank) (sym word_is) no_blank)
    (subst (BeginsWithNo is_no_blank) (sym rest_is) next)
    blank
    (subst (BeginsWithNo is_blank) (sym (rest_of rest gap)) longest)
    ends
    after

module _ (characters : List ℕ) (n : ℕ) (blank : AllPass is_blank (take n characters)) (longest : BeginsWithNo is_blank (drop n characters)) where
  no_mark : ((text : List ℕ) → from n characters ≡ close_paren ∷ text → ⊥) → IsCommandLine characters → ⊥
  no_mark none = no_command_line characters (take n characters) (drop n characters) (sym (take-append-drop n characters)) blank longest (λ text e. none text (rest_of characters n ∙ e))

  pub all_blank : (r : Bool) → r ≡ (length (from n characters) == 0) → r ≡ true → IsCommandLine characters → ⊥
  all_blank r is holds = no_mark (λ text e. over text e (eqb→eq (length (from n characters)) 0 (passes (length (from n characters) == 0) (sym is ∙ holds))))
    where
      over : (text : List ℕ) → from n characters ≡ close_paren ∷ text → length (from n characters) ≡ 0 → ⊥
      over text e none = let some : length (from n characters) ≡ length (close_paren ∷ text) = ap length e in omega (arith, some, none)

  pub other_mark : (x : ℕ) → x ≡ get_or (from n characters) 0 x → (x ≡ close_paren → ⊥) → IsCommandLine characters → ⊥
  other_mark x at other = no_mark (λ text e. other (at ∙ ap (λ (y : List ℕ). get_or y 0 x) e))

  pub command_text : (r : Bool) (x : ℕ) → r ≡ (length (from n characters) == 0) → r ≡ false → x ≡ get_or (from n characters) 0 x → x ≡ close_paren → HasCommandText characters (from 1 (from n characters))
  command_text r x is fails at mark =
      (take n characters, blank, sym (take-append-drop n characters) ∙ ap (λ (y : List ℕ). take n characters ++ y) (sym (rest_of characters n) ∙ first (from n characters) at (sym is ∙ fails)))
    where
      first : (xs : List ℕ) → x ≡ get_or xs 0 x → (length xs == 0) ≡ false → xs ≡ close_paren ∷ from 1 xs
      first [] at some = absurd cc
      first (y ∷ ys) at some =
          let rest : take (suc (length ys) - 1) ys ≡ ys = rw sub-one (take_all ys) in
          cons_same y close_paren ys (from 1 (y ∷ ys)) (sym at ∙ mark) (sym rest)

pub empty : (xs : List ℕ) → (length xs == 0) ≡ true → xs ≡ []
empty [] h = refl
empty (x ∷ xs) h = absurd (some (eqb→eq (length (x ∷ xs)) 0 (passes (length (x ∷ xs) == 0) h)))
  where
    some : length (x ∷ xs) ≡ 0 → ⊥
    some e = omega (arith, e)

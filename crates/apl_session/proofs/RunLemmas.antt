-- How answers to lines make up a run.
use Rattle.std.proofs.Common.{◌≡◌, ◌≢◌, ℕ, ◌<◌, ◌≤◌, Bool, true, false, MatchBool, List, [], ◌∷◌, ◌++◌, length, Option, None, Some, Result, Ok, Err, refl, sym, ap, ◌∙◌, subst, arith, append_assoc, append-nil, length-append}
use Rattle.std.specs.List.{All, flat_map}
use Rattle.std.specs.Io.KnownBytes.{Consumes}
use Rattle.std.proofs.KnownBytes.{Appends-nil, Appends-trans}
use Rattle.std.proofs.lemmas.List.Elements.{All-nil, All-cons, All-append}
use Rattle.std.proofs.lemmas.List.Concat.{flat_map-append}
use Rattle.apl_print.specs.Put.{AppendsFront}
use Rattle.apl_session.proofs.WrittenLemmas.{AppendsFront-after}
use Rattle.apl_print.specs.Text.{ended}
use Rattle.apl_print.specs.Text.{line_feed}
use Rattle.apl_session.specs.Lines.{lines_of, IsUnbroken}
use Rattle.apl_session.specs.Run.{Answer, Semantics, IsAnswer, IsRun, text_of}
use Rattle.apl_session.specs.LineAnswer.{IsLineAnswered}
use Rattle.apl_session.specs.Outcome.{IsSourceText, AnswersAll, AnswersFront, AnswersLines, BeginsWithUnansweredLine}
use Rattle.apl_session.specs.Progress.{Leads, Progress, IsBlockAnswered}
use Rattle.apl_session.specs.declared.interpreter.Next.{Next}
use Rattle.apl_session.specs.declared.interpreter.Next.TheVariants.{Go, End}
use Rattle.apl_session.specs.declared.interpreter.RunFault.{RunFault}
use Rattle.apl_session.specs.declared.interpreter.RunFault.TheVariants.{Read, Write, Memory}
use Rattle.apl_session.proofs.LineLemmas.{lines_of-line, lines_of-last, lines_of-joined}

at_false : (b : Bool) (P Q : Type 0) → b ≡ false → Q → MatchBool b P Q
at_false false P Q is q = q
at_false true P Q is q = cc

at_true : (b : Bool) (P Q : Type 0) → b ≡ true → P → MatchBool b P Q
at_true true P Q is p = p
at_true false P Q is p = cc

at_either : (b : Bool) (P Q : Type 0) → P → Q → MatchBool b P Q
at_either true P Q p q = p
at_either false P Q p q = q

module _ {W : Type 0} (semantics : Semantics W) where
  -- one answer is a run of one line, whether it ends the run or not
  pub IsRun-single : (state : W) (line : List ℕ) (answer : Answer W) → IsAnswer semantics state line answer
      → IsRun semantics state (line ∷ []) (answer ∷ [])
  IsRun-single state line answer is = (is, at_either answer.ends _ _ refl tt)

  pub IsRun-ended : (state : W) (line : List ℕ) (lines : List (List ℕ)) (answer : Answer W) → IsAnswer semantics state line answer → answer.ends ≡ true
      → IsRun semantics state (line ∷ lines) (answer ∷ [])
  IsRun-ended state line lines answer is ends = (is, at_true answer.ends _ _ ends refl)

  pub Leads-append : (state mid last : W) (lines more : List (List ℕ)) (answers later : List (Answer W))
      → Leads semantics state lines answers mid → Leads semantics mid more later last → Leads semantics state (lines ++ more) (answers ++ later) last
  Leads-append state mid last [] more [] later first second = subst (λ state. Leads semantics state more later last) first second
  Leads-append state mid last [] more (answer ∷ answers) later first second = absurd first
  Leads-append state mid last (line ∷ lines) more [] later first second = absurd first
  Leads-append state mid last (line ∷ lines) more (answer ∷ answers) later first second =
      (first.0, first.1, Leads-append answer.after mid last lines more answers later first.2 second)

  pub IsRun-after : (state mid : W) (lines more : List (List ℕ)) (answers later : List (Answer W))
      → Leads semantics state lines answers mid → IsRun semantics mid more later → IsRun semantics state (lines ++ more) (answers ++ later)
  IsRun-after state mid [] more [] later first second = subst (λ state. IsRun semantics state more later) first second
  IsRun-after state mid [] more (answer ∷ answers) later first second = absurd first
  IsRun-after state mid (line ∷ lines) more [] later first second = absurd first
  IsRun-after state mid (line ∷ lines) more (answer ∷ answers) later first second =
      (first.0, at_false answer.ends _ _ first.1 (IsRun-after answer.after mid lines more answers later first.2 second))

  pub IsRun-leads : (state last : W) (lines : List (List ℕ)) (answers : List (Answer W)) → Leads semantics state lines answers last → IsRun semantics state lines answers
  IsRun-leads state last [] [] leads = tt
  IsRun-leads state last [] (answer ∷ answers) leads = absurd leads
  IsRun-leads state last (line ∷ lines) [] leads = absurd leads
  IsRun-leads state last (line ∷ lines) (answer ∷ answers) leads = (leads.0, at_false answer.ends _ _ leads.1 (IsRun-leads answer.after last lines answers leads.2))

  pub goes_on-leads : (state last : W) (lines : List (List ℕ)) (answers : List (Answer W)) → Leads semantics state lines answers last
      → All (λ answer. answer.ends ≡ false) answers
  goes_on-leads state last [] [] leads = All-nil (λ answer. answer.ends ≡ false)
  goes_on-leads state last [] (answer ∷ answers) leads = absurd leads
  goes_on-leads state last (line ∷ lines) [] leads = absurd leads
  goes_on-leads state last (line ∷ lines) (answer ∷ answers) leads =
      All-cons (λ answer. answer.ends ≡ false) answer answers leads.1 (goes_on-leads answer.after last lines answers leads.2)

  -- ---- how far a run has come

  pub none_yet : (state : W) (bytes : List ℕ) (known : Option (List ℕ)) → Progress semantics state state bytes bytes known known
  none_yet state bytes known = record {
    lines = [];
    is_bytes = refl;
    unbroken = All-nil IsUnbroken;
    answers = [];
    leads = refl;
    written = Appends-nil known;
  }

  pub Progress-trans : (state mid last : W) (bytes rest left : List ℕ) (a b c : Option (List ℕ))
      → Progress semantics state mid bytes rest a b → Progress semantics mid last rest left b c → Progress semantics state last bytes left a c
  Progress-trans state mid last bytes rest left a b c first second = record {
    lines = first.lines ++ second.lines;
    is_bytes = first.is_bytes ∙ ap (λ rest. flat_map ended first.lines ++ rest) second.is_bytes
        ∙ rw (flat_map-append ended first.lines second.lines) (sym (append_assoc (flat_map ended first.lines) (flat_map ended second.lines) left));
    unbroken = All-append IsUnbroken first.lines second.lines first.unbroken second.unbroken;
    answers = first.answers ++ second.answers;
    leads = Leads-append state mid last first.lines second.lines first.answers second.answers first.leads second.leads;
    written = rw (flat_map-append (λ (answer : Answer W). answer.text) first.answers second.answers) (Appends-trans a b c _ _ first.written second.written);
  }

  pub Progress-more : (state mid : W) (bytes rest more : List ℕ) (a b : Option (List ℕ))
      → Progress semantics state mid bytes rest a b → Progress semantics state mid (bytes ++ more) (rest ++ more) a b
  Progress-more state mid bytes rest more a b first = record {
    lines = first.lines;
    is_bytes = ap (λ bytes. bytes ++ more) first.is_bytes ∙ append_assoc (flat_map ended first.lines) rest more;
    unbroken = first.unbroken;
    answers = first.answers;
    leads = first.leads;
    written = first.written;
  }

  pub Progress-line : (state last : W) (line rest : List ℕ) (a b : Option (List ℕ)) → IsUnbroken line
      → IsLineAnswered semantics state last line a b (Ok Go) → Progress semantics state last (line ++ line_feed ∷ rest) rest a b
  Progress-line state last line rest a b unbroken line_is = record {
    lines = line ∷ [];
    is_bytes = simp (append_assoc, append-nil);
    unbroken = All-cons IsUnbroken line [] unbroken (All-nil IsUnbroken);
    answers = line_is.0 ∷ [];
    leads = (line_is.1, line_is.3, line_is.2);
    written = rw (append-nil line_is.0.text) line_is.4;
  }

  -- ---- how a run comes out

  pub all_after : (state mid : W) (bytes rest : List ℕ) (a b c : Option (List ℕ))
      → Progress semantics state mid bytes rest a b → AnswersAll semantics mid (Some rest) b c → AnswersAll semantics state (Some bytes) a c
  all_after state mid bytes rest a b c first second =
      let lines : lines_of bytes ≡ first.lines ++ lines_of second.text =
      ap lines_of (first.is_bytes ∙ ap (λ rest. flat_map ended first.lines ++ rest) (sym second.is_source)) ∙ lines_of-joined first.lines second.text first.unbroken in
      record {
        text = bytes;
        is_source = refl;
        answers = first.answers ++ second.answers;
        run = rw lines (IsRun-after state mid first.lines (lines_of second.text) first.answers second.answers first.leads second.run);
        written = rw (flat_map-append (λ (answer : Answer W). answer.text) first.answers second.answers) (Appends-trans a b c _ _ first.written second.written);
      }

  pub front_after : (state mid : W) (bytes rest : List ℕ) (a b c : Option (List ℕ))
      → Progress semantics state mid bytes rest a b → AnswersFront semantics mid (Some rest) b c → AnswersFront semantics state (Some bytes) a c
  front_after state mid bytes rest a b c first second =
      let lines : lines_of bytes ≡ first.lines ++ lines_of second.text =
      ap lines_of (first.is_bytes ∙ ap (λ rest. flat_map ended first.lines ++ rest) (sym second.is_source)) ∙ lines_of-joined first.lines second.text first.unbroken in
      record {
        text = bytes;
        is_source = refl;
        answered = first.lines ++ second.answered;
        unanswered = second.unanswered;
        is_lines = lines ∙ ap (λ later. first.lines ++ later) second.is_lines ∙ sym (append_assoc first.lines second.answered second.unanswered);
        answers = first.answers ++ second.answers;
        run = IsRun-after state mid first.lines second.answered first.answers second.answers first.leads second.run;
        written = rw (flat_map-append (λ (answer : Answer W). answer.text) first.answers second.answers)
            (subst (λ later. AppendsFront a c (text_of first.answers ++ later)) (append-nil (text_of second.answers))
            (AppendsFront-after a b c (text_of first.answers) (text_of second.answers) [] first.written second.written));
      }

  pub all_at_end : (state last : W) (line rest : List ℕ) (a b : Option (List ℕ)) → IsUnbroken line
      → IsLineAnswered semantics state last line a b (Ok End) → AnswersAll semantics state (Some (line ++ line_feed ∷ rest)) a b
  all_at_end state last line rest a b unbroken line_is = record {
    text = line ++ line_feed ∷ rest;
    is_source = refl;
    answers = line_is.0 ∷ [];
    run = rw (lines_of-line line rest unbroken) (IsRun-ended state line (lines_of rest) line_is.0 line_is.1 line_is.3);
    written = rw (append-nil line_is.0.text) line_is.4;
  }

  -- after a failed write: the first line was answered, and the others were not
  front_of_first : (state last : W) (text line : List ℕ) (others : List (List ℕ)) (a b : Option (List ℕ)) → lines_of text ≡ line ∷ others
      → IsLineAnswered semantics state last line a b (Err Write) → AnswersFront semantics state (Some text) a b
  front_of_first state last text line others a b is_first line_is = record {
    text = text;
    is_source = refl;
    answered = line ∷ [];
    unanswered = others;
    is_lines = is_first;
    answers = line_is.0 ∷ [];
    run = IsRun-single state line line_is.0 line_is.1;
    written = AppendsFront-after a a b [] line_is.0.text [] (Appends-nil a) line_is.3;
  }

  pub front_at_fault : (state last : W) (line rest : List ℕ) (a b : Option (List ℕ)) → IsUnbroken line
      → IsLineAnswered semantics state last line a b (Err Write) → AnswersFront semantics state (Some (line ++ line_feed ∷ rest)) a b
  front_at_fault state last line rest a b unbroken line_is =
      front_of_first state last (line ++ line_feed ∷ rest) line (lines_of rest) a b (lines_of-line line rest unbroken) line_is

  -- a last line that no line feed ends
  pub all_of_last : (next : Next) (state last : W) (line : List ℕ) (a b : Option (List ℕ)) → IsUnbroken line → 0 < length line
      → IsLineAnswered semantics state last line a b (Ok next) → AnswersAll semantics state (Some line) a b
  all_of_last Go state last line a b unbroken some line_is = record {
    text = line;
    is_source = refl;
    answers = line_is.0 ∷ [];
    run = rw (lines_of-last line unbroken some) (line_is.1, at_false line_is.0.ends _ _ line_is.3 tt);
    written = rw (append-nil line_is.0.text) line_is.4;
  }
  all_of_last End state last line a b unbroken some line_is = record {
    text = line;
    is_source = refl;
    answers = line_is.0 ∷ [];
    run = rw (lines_of-last line unbroken some) (IsRun-ended state line [] line_is.0 line_is.1 line_is.3);
    written = rw (append-nil line_is.0.text) line_is.4;
  }

  pub front_of_last : (state last : W) (line : List ℕ) (a b : Option (List ℕ)) → IsUnbroken line → 0 < length line
      → IsLineAnswered semantics state last line a b (Err Write) → AnswersFront semantics state (Some line) a b
  front_of_last state last line a b unbroken some line_is = front_of_first state last line line [] a b (lines_of-last line unbroken some) line_is

  pub all_of_none : (state : W) (known : Option (List ℕ)) → AnswersAll semantics state (Some []) known known
  all_of_none state known = record {
    text = [];
    is_source = refl;
    answers = [];
    run = tt;
    written = Appends-nil known;
  }

  -- ---- a line that begins with what is held and ends in a block

  joined : (held rest line after more : List ℕ) → rest ≡ line ++ line_feed ∷ after → (held ++ rest) ++ more ≡ (held ++ line) ++ line_feed ∷ (after ++ more)
  joined held rest line after more is = rw is (simp append_assoc)

  -- what follows a line is shorter than the block
  pub few_after : (rest line after : List ℕ) (most : ℕ) → rest ≡ line ++ line_feed ∷ after → length rest ≤ most → length after ≤ most
  few_after rest line after most is few = omega (arith, length-append {A = ℕ}, ap length is)

  pub block_goes_on : (state mid last : W) (bytes held rest line after : List ℕ) (a b c : Option (List ℕ)) → rest ≡ line ++ line_feed ∷ after
      → IsUnbroken (held ++ line) → Progress semantics state mid bytes (held ++ rest) a b
      → IsLineAnswered semantics mid last (held ++ line) b c (Ok Go) → Progress semantics state last bytes after a c
  block_goes_on state mid last bytes held rest line after a b c is unbroken first line_is =
      let place : held ++ rest ≡ (held ++ line) ++ line_feed ∷ after = sym (append-nil (held ++ rest)) ∙ joined held rest line after [] is ∙ ap (λ after. (held ++ line) ++ line_feed ∷ after) (append-nil after) in
      Progress-trans state mid last bytes ((held ++ line) ++ line_feed ∷ after) after a b c (subst (λ rest. Progress semantics state mid bytes rest a b) place first)
      (Progress-line mid last (held ++ line) after b c unbroken line_is)

  pub block_ends : (state mid last : W) (bytes held rest line after : List ℕ) (a b c : Option (List ℕ)) → rest ≡ line ++ line_feed ∷ after
      → IsUnbroken (held ++ line) → Progress semantics state mid bytes (held ++ rest) a b
      → IsLineAnswered semantics mid last (held ++ line) b c (Ok End) → (more : List ℕ) → AnswersAll semantics state (Some (bytes ++ more)) a c
  block_ends state mid last bytes held rest line after a b c is unbroken first line_is more =
      all_after state mid (bytes ++ more) ((held ++ line) ++ line_feed ∷ (after ++ more)) a b c
      (subst (λ rest. Progress semantics state mid (bytes ++ more) rest a b) (joined held rest line after more is) (Progress-more state mid bytes (held ++ rest) more a b first))
      (all_at_end mid last (held ++ line) (after ++ more) b c unbroken line_is)

  pub block_is_cut : (state mid last : W) (bytes held rest line after : List ℕ) (a b c : Option (List ℕ)) → rest ≡ line ++ line_feed ∷ after
      → IsUnbroken (held ++ line) → Progress semantics state mid bytes (held ++ rest) a b
      → IsLineAnswered semantics mid last (held ++ line) b c (Err Write) → (more : List ℕ) → AnswersFront semantics state (Some (bytes ++ more)) a c
  block_is_cut state mid last bytes held rest line after a b c is unbroken first line_is more =
      front_after state mid (bytes ++ more) ((held ++ line) ++ line_feed ∷ (after ++ more)) a b c
      (subst (λ rest. Progress semantics state mid (bytes ++ more) rest a b) (joined held rest line after more is) (Progress-more state mid bytes (held ++ rest) more a b first))
      (front_at_fault mid last (held ++ line) (after ++ more) b c unbroken line_is)

  -- what an answered line means once its result is known
  pub answered_as : (state last : W) (line : List ℕ) (a b : Option (List ℕ)) (result known : Result Next RunFault) → result ≡ known → known ≢ Err Memory
      → (result ≢ Err Memory → IsLineAnswered semantics state last line a b result) → IsLineAnswered semantics state last line a b known
  answered_as state last line a b result known is other answered =
      subst (λ result. IsLineAnswered semantics state last line a b result) is (answered (λ memory. other (sym is ∙ memory)))

  -- a line that could not be held: its beginning and what follows it
  unanswered_line : (most : ℕ) (held rest line after : List ℕ) → rest ≡ line ++ line_feed ∷ after → IsUnbroken (held ++ line) → 0 < length held
      → length rest ≤ most → BeginsWithUnansweredLine most (Some []) (held ++ rest)
  unanswered_line most held rest line after is unbroken some few = record {
    front = held ++ line;
    more = line_feed ∷ after;
    still = [];
    is_bytes = ap (λ rest. held ++ rest) is ∙ sym (append_assoc held line (line_feed ∷ after)) ∙ ap (λ more. (held ++ line) ++ more) (sym (append-nil (line_feed ∷ after)));
    some = omega (arith, length-append {A = ℕ});
    unbroken = unbroken;
    few = omega (arith, length-append {A = ℕ}, ap length is);
    is_source = refl;
  }

  -- the line's fault is the block's
  pub block_fails : (fault : RunFault) (state mid last : W) (most : ℕ) (bytes held rest line after left : List ℕ) (a b c : Option (List ℕ)) → rest ≡ line ++ line_feed ∷ after
      → IsUnbroken (held ++ line) → length rest ≤ most → Progress semantics state mid bytes (held ++ rest) a b
      → (◌≢◌ {A = Result Next RunFault} (Err fault) (Err Memory) → IsLineAnswered semantics mid last (held ++ line) b c (Err fault))
      → (◌≡◌ {A = Result Next RunFault} (Err fault) (Err Memory) → (last ≡ mid) × (c ≡ b) × (0 < length held))
      → IsBlockAnswered semantics state last most bytes left a c (Err fault)
  block_fails Read state mid last most bytes held rest line after left a b c is unbroken few first answered memory = answered (λ e. cc)
  block_fails Write state mid last most bytes held rest line after left a b c is unbroken few first answered memory =
      block_is_cut state mid last bytes held rest line after a b c is unbroken first (answered (λ e. cc))
  block_fails Memory state mid last most bytes held rest line after left a b c is unbroken few first answered memory =
      let same = memory refl in
      let far = subst (λ known. Progress semantics state mid bytes (held ++ rest) a known) (sym same.1) first in
      (held ++ rest, subst (λ now. Progress semantics state now bytes (held ++ rest) a c) (sym same.0) far, unanswered_line most held rest line after is unbroken same.2 few)

  -- the end of the block could not be held
  pub end_unanswered : (state mid : W) (most : ℕ) (bytes held rest : List ℕ) (a b : Option (List ℕ)) → IsUnbroken held → IsUnbroken rest → 0 < length rest
      → Progress semantics state mid bytes (held ++ rest) a b → (left : List ℕ) × Progress semantics state mid bytes left a b × BeginsWithUnansweredLine most (Some []) left
  end_unanswered state mid most bytes held rest a b unbroken_held unbroken some first = (
    held ++ rest,
    first,
    record {
      front = held ++ rest;
      more = [];
      still = [];
      is_bytes = sym (append-nil (held ++ rest));
      some = omega (arith, length-append {A = ℕ});
      unbroken = All-append (λ byte. byte ≢ line_feed) held rest unbroken_held unbroken;
      few = omega arith;
      is_source = refl;
    },
  )

  -- ---- what the source tells

  pub AnswersAll-source : (state : W) (text : List ℕ) (known a b : Option (List ℕ)) → IsSourceText known text → AnswersAll semantics state (Some text) a b → AnswersAll semantics state known a b
  AnswersAll-source state text known a b is all = record {
    text = text;
    is_source = is;
    answers = all.answers;
    run = subst (λ text. IsRun semantics state (lines_of text) all.answers) all.is_source all.run;
    written = all.written;
  }

  pub AnswersFront-source : (state : W) (text : List ℕ) (known a b : Option (List ℕ)) → IsSourceText known text → AnswersFront semantics state (Some text) a b
      → AnswersFront semantics state known a b
  AnswersFront-source state text known a b is front = record {
    text = text;
    is_source = is;
    answered = front.answered;
    unanswered = front.unanswered;
    is_lines = subst (λ text. lines_of text ≡ front.answered ++ front.unanswered) front.is_source front.is_lines;
    answers = front.answers;
    run = front.run;
    written = front.written;
  }

  pub AnswersLines-source : (state mid : W) (bytes rest more : List ℕ) (known a b : Option (List ℕ)) (IsRest : List ℕ → Type 0) → IsSourceText known (bytes ++ more)
      → Progress semantics state mid bytes rest a b → IsRest (rest ++ more) → AnswersLines semantics state known a b IsRest
  AnswersLines-source state mid bytes rest more known a b IsRest is first is_rest =
      let whole = Progress-more state mid bytes rest more a b first in
      record {
        text = bytes ++ more;
        is_source = is;
        lines = whole.lines;
        rest = rest ++ more;
        is_text = whole.is_bytes;
        unbroken = whole.unbroken;
        is_rest = is_rest;
        answers = whole.answers;
        run = IsRun-leads state mid whole.lines whole.answers whole.leads;
        goes_on = goes_on-leads state mid whole.lines whole.answers whole.leads;
        written = whole.written;
      }

-- the bytes that are known to be left, or none where nothing is known
abbrev pub left_of : Option (List ℕ) → List ℕ
left_of None = []
left_of (Some bytes) = bytes

pub IsSourceText-given : (known left : Option (List ℕ)) (given : List ℕ) → Consumes known left given → IsSourceText known (given ++ left_of left)
IsSourceText-given None left given is = tt
IsSourceText-given (Some bytes) None given is = absurd is
IsSourceText-given (Some bytes) (Some rest) given is = sym is

pub IsSourceText-left : (left : Option (List ℕ)) → IsSourceText left (left_of left)
IsSourceText-left None = tt
IsSourceText-left (Some bytes) = refl

-- How a run comes out, by what the source tells.
use Rattle.std.proofs.Common.{◌≡◌, ℕ, ◌≤◌, List, [], ◌++◌, length, take, Option, Some, refl, ap, ◌∙◌, subst, arith, append_assoc, append-nil}
use Rattle.std.specs.Io.KnownBytes.{Consumes, Keeps, IsAtEnd}
use Rattle.std.proofs.KnownBytes.{Consumes-trans, Consumes-kept, Consumes-whole}
use Rattle.apl_session.specs.Lines.{IsUnbroken}
use Rattle.apl_session.specs.Run.{Semantics}
use Rattle.apl_session.specs.Outcome.{IsSourceText, AnswersAll, AnswersFront, AnswersLines, BeginsUnbroken, BeginsWithUnansweredLine}
use Rattle.apl_session.specs.Progress.{Progress}
use Rattle.apl_session.proofs.RunLemmas.{Progress-trans, Progress-more, all_after, front_after, AnswersAll-source, AnswersFront-source, AnswersLines-source, left_of, IsSourceText-given, IsSourceText-left}

-- a source that is at its end gave the whole text
pub IsSourceText-end : (known left : Option (List ℕ)) (given : List ℕ) → Consumes known left given → IsAtEnd left → IsSourceText known given
IsSourceText-end known left given is end = Consumes-whole known left given (λ text. given ≡ text) is end refl

-- a take of no bytes gave none
pub nothing_more : (known before after : Option (List ℕ)) (given room : List ℕ) (n : ℕ) → n ≡ 0 → Consumes known before given → Consumes before after (take n room)
    → Consumes known after given
nothing_more known before after given room n none gave gives =
    let all = Consumes-trans known before after given (take n room) gave gives in
    let same : given ++ take n room ≡ given = rw none (append-nil given) in
    subst (Consumes known after) same all

-- what could not be held, and after it what the source still has
begins_before : (block most : ℕ) (rest : List ℕ) (after : Option (List ℕ)) → block ≤ most → BeginsWithUnansweredLine block (Some []) rest
    → BeginsWithUnansweredLine most after (rest ++ left_of after)
begins_before block most rest after within is = record {
  front = is.front;
  more = is.more;
  still = left_of after;
  is_bytes =
      let whole : rest ≡ is.front ++ is.more = is.is_bytes ∙ ap (λ still. is.front ++ (is.more ++ still)) is.is_source ∙ ap (λ more. is.front ++ more) (append-nil is.more) in
      ap (λ rest. rest ++ left_of after) whole ∙ append_assoc is.front is.more (left_of after);
  some = is.some;
  unbroken = is.unbroken;
  few = let few : length is.more ≤ block = is.few in omega arith;
  is_source = IsSourceText-left after;
}

module _ {W : Type 0} (semantics : Semantics W) where
  pub takes_more : (state mid last : W) (known before after : Option (List ℕ)) (given held block left : List ℕ) (a b c : Option (List ℕ))
      → Consumes known before given → Consumes before after block → Progress semantics state mid given held a b → Progress semantics mid last (held ++ block) left b c
      → (bytes : List ℕ) × Consumes known after bytes × Progress semantics state last bytes left a c
  takes_more state mid last known before after given held block left a b c gave gives first second = (
    given ++ block,
    Consumes-trans known before after given block gave gives,
    Progress-trans semantics state mid last (given ++ block) (held ++ block) left a b c (Progress-more semantics state mid given held block a b first) second,
  )

  pub ends_within : (state mid : W) (known before after : Option (List ℕ)) (given held block : List ℕ) (a b c : Option (List ℕ))
      → Consumes known before given → Consumes before after block → Progress semantics state mid given held a b
      → ((more : List ℕ) → AnswersAll semantics mid (Some ((held ++ block) ++ more)) b c) → AnswersAll semantics state known a c
  ends_within state mid known before after given held block a b c gave gives first second =
      let more = left_of after in
      AnswersAll-source semantics state ((given ++ block) ++ more) known a c (IsSourceText-given known after (given ++ block) (Consumes-trans known before after given block gave gives))
      (all_after semantics state mid ((given ++ block) ++ more) ((held ++ block) ++ more) a b c
      (Progress-more semantics state mid (given ++ block) (held ++ block) more a b (Progress-more semantics state mid given held block a b first)) (second more))

  pub cut_within : (state mid : W) (known before after : Option (List ℕ)) (given held block : List ℕ) (a b c : Option (List ℕ))
      → Consumes known before given → Consumes before after block → Progress semantics state mid given held a b
      → ((more : List ℕ) → AnswersFront semantics mid (Some ((held ++ block) ++ more)) b c) → AnswersFront semantics state known a c
  cut_within state mid known before after given held block a b c gave gives first second =
      let more = left_of after in
      AnswersFront-source semantics state ((given ++ block) ++ more) known a c (IsSourceText-given known after (given ++ block) (Consumes-trans known before after given block gave gives))
      (front_after semantics state mid ((given ++ block) ++ more) ((held ++ block) ++ more) a b c
      (Progress-more semantics state mid (given ++ block) (held ++ block) more a b (Progress-more semantics state mid given held block a b first)) (second more))

  pub memory_within : (state mid last : W) (most : ℕ) (known before after : Option (List ℕ)) (given held block : List ℕ) (a b c : Option (List ℕ))
      → Consumes known before given → Consumes before after block → Progress semantics state mid given held a b
      → ((rest : List ℕ) × Progress semantics mid last (held ++ block) rest b c × BeginsWithUnansweredLine (length block) (Some []) rest) → length block ≤ most
      → AnswersLines semantics state known a c (BeginsWithUnansweredLine most after)
  memory_within state mid last most known before after given held block a b c gave gives first second within =
      let whole = takes_more state mid last known before after given held block second.0 a b c gave gives first second.1 in
      AnswersLines-source semantics state last whole.0 second.0 (left_of after) known a c (BeginsWithUnansweredLine most after) (IsSourceText-given known after whole.0 whole.1) whole.2
      (begins_before (length block) most second.0 after within second.2)

  pub read_fails : (state mid : W) (known before after : Option (List ℕ)) (given held : List ℕ) (a b : Option (List ℕ))
      → Consumes known before given → Keeps before after → IsUnbroken held → Progress semantics state mid given held a b
      → AnswersLines semantics state known a b (BeginsUnbroken after)
  read_fails state mid known before after given held a b gave keeps unbroken first =
      let more = left_of after in
      AnswersLines-source semantics state mid given held more known a b (BeginsUnbroken after) (IsSourceText-given known after given (Consumes-kept known before after given gave keeps)) first
      (record { front = held; still = more; is_bytes = refl; unbroken = unbroken; is_source = IsSourceText-left after })

  pub ends_after : (state mid : W) (known left : Option (List ℕ)) (given held : List ℕ) (a b c : Option (List ℕ))
      → Consumes known left given → IsAtEnd left → Progress semantics state mid given held a b → AnswersAll semantics mid (Some held) b c → AnswersAll semantics state known a c
  ends_after state mid known left given held a b c gave end first second =
      AnswersAll-source semantics state given known a c (IsSourceText-end known left given gave end) (all_after semantics state mid given held a b c first second)

  pub cut_after : (state mid : W) (known left : Option (List ℕ)) (given held : List ℕ) (a b c : Option (List ℕ))
      → Consumes known left given → IsAtEnd left → Progress semantics state mid given held a b → AnswersFront semantics mid (Some held) b c → AnswersFront semantics state known a c
  cut_after state mid known left given held a b c gave end first second =
      AnswersFront-source semantics state given known a c (IsSourceText-end known left given gave end) (front_after semantics state mid given held a b c first second)

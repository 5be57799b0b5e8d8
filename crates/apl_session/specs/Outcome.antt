-- How a run may come out, by what the source gave and what the sink took.
use Rattle.std.specs.Prelude.{◌≡◌, ℕ, ◌<◌, ◌≤◌, List, ◌++◌, length, All, Option, IfSome, false, flat_map}
use Rattle.std.specs.Io.KnownBytes.{Appends}
use Rattle.apl_print.specs.Put.{AppendsFront}
use Rattle.apl_print.specs.Text.{ended}
use Rattle.apl_session.specs.declared.runs.TheConstants.{BLOCK}
use Rattle.apl_session.specs.Lines.{lines_of, IsUnbroken}
use Rattle.apl_session.specs.Run.{Answer, Semantics, IsRun, text_of}

-- the text is that of the source, where its bytes are known
abbrev pub IsSourceText : Option (List ℕ) → List ℕ → Type 0
IsSourceText known text = IfSome known (λ bytes. text ≡ bytes)

module _ {W : Type 0} (semantics : Semantics W) (state : W) (known : Option (List ℕ)) (old new : Option (List ℕ)) where
  -- What was written is the text of a run over all lines of the source's text.
  pub record AnswersAll : Type 0 where
    pub text : List ℕ
    pub is_source : IsSourceText known text
    pub answers : List (Answer W)
    pub run : IsRun semantics state (lines_of text) answers
    pub written : Appends old new (text_of answers)

  -- What was written begins the text of a run over the first lines of the source's text.
  pub record AnswersFront : Type 0 where
    pub text : List ℕ
    pub is_source : IsSourceText known text
    pub answered : List (List ℕ)
    pub unanswered : List (List ℕ)
    pub is_lines : lines_of text ≡ answered ++ unanswered
    pub answers : List (Answer W)
    pub run : IsRun semantics state answered answers
    pub written : AppendsFront old new (text_of answers)

  -- The text's first lines were answered whole, none of them ended the run, and of the rest nothing was answered.
  pub record AnswersLines (IsRest : List ℕ → Type 0) : Type 0 where
    pub text : List ℕ
    pub is_source : IsSourceText known text
    pub lines : List (List ℕ)
    pub rest : List ℕ
    pub is_text : text ≡ flat_map ended lines ++ rest
    pub unbroken : All IsUnbroken lines
    pub is_rest : IsRest rest
    pub answers : List (Answer W)
    pub run : IsRun semantics state lines answers
    pub goes_on : All (λ answer. answer.ends ≡ false) answers
    pub written : Appends old new (text_of answers)

-- These bytes begin with some that end no line, and after those comes what the source still has.
pub record BeginsUnbroken (known : Option (List ℕ)) (bytes : List ℕ) : Type 0 where
  pub front : List ℕ
  pub still : List ℕ
  pub is_bytes : bytes ≡ front ++ still
  pub unbroken : IsUnbroken front
  pub is_source : IsSourceText known still

-- These bytes begin with at least one byte of a line. After those come at most `most` bytes that were taken with them, and then
-- what the source still has.
pub record BeginsWithUnansweredLine (most : ℕ) (known : Option (List ℕ)) (bytes : List ℕ) : Type 0 where
  pub front : List ℕ
  pub more : List ℕ
  pub still : List ℕ
  pub is_bytes : bytes ≡ front ++ (more ++ still)
  pub some : 0 < length front
  pub unbroken : IsUnbroken front
  pub few : length more ≤ most
  pub is_source : IsSourceText known still

-- the same, with at most one block of bytes
abbrev pub BeginsUnanswered : Option (List ℕ) → List ℕ → Type 0
BeginsUnanswered known bytes = BeginsWithUnansweredLine BLOCK known bytes

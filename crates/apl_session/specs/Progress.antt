-- How far a run has come, in the middle of its text. No contract of a public function cites this file.
use Rattle.std.specs.Prelude.{◌≡◌, ℕ, List, [], ◌∷◌, ◌++◌, flat_map, All, Option, Some, false, Result, Ok, Err}
use Rattle.std.specs.Io.KnownBytes.{Appends}
use Rattle.apl_print.specs.Text.{ended}
use Rattle.apl_session.specs.Lines.{IsUnbroken}
use Rattle.apl_session.specs.Run.{Answer, Semantics, IsAnswer, text_of}
use Rattle.apl_session.specs.Outcome.{AnswersAll, AnswersFront, BeginsWithUnansweredLine}
use Rattle.apl_session.specs.declared.interpreter.Next.{Next}
use Rattle.apl_session.specs.declared.interpreter.Next.TheVariants.{Go, End}
use Rattle.apl_session.specs.declared.interpreter.RunFault.{RunFault}
use Rattle.apl_session.specs.declared.interpreter.RunFault.TheVariants.{Read, Write, Memory}

-- the answers to these lines, one after the other, lead from one state to another, and none of them ends the run
abbrev pub Leads : {W : Type 0} → Semantics W → W → List (List ℕ) → List (Answer W) → W → Type 0
Leads semantics state [] [] last = last ≡ state
Leads semantics state [] (answer ∷ answers) last = ⊥
Leads semantics state (line ∷ lines) [] last = ⊥
Leads semantics state (line ∷ lines) (answer ∷ answers) last = IsAnswer semantics state line answer × (answer.ends ≡ false)
    × Leads semantics answer.after lines answers last

module _ {W : Type 0} (semantics : Semantics W) where
  -- From one state to another, the whole lines at the front of the bytes were answered, and the rest is still to come.
  pub record Progress (state now : W) (bytes rest : List ℕ) (old new : Option (List ℕ)) : Type 0 where
    pub lines : List (List ℕ)
    pub is_bytes : bytes ≡ flat_map ended lines ++ rest
    pub unbroken : All IsUnbroken lines
    pub answers : List (Answer W)
    pub leads : Leads semantics state lines answers now
    pub written : Appends old new (text_of answers)

  -- What a block of the text does, of at most `most` bytes. `bytes` is the rest before it and the block, and `rest` is the rest after it.
  abbrev pub IsBlockAnswered : W → W → ℕ → List ℕ → List ℕ → Option (List ℕ) → Option (List ℕ) → Result Next RunFault → Type 0
  IsBlockAnswered state now most bytes rest old new (Ok Go) = Progress state now bytes rest old new × IsUnbroken rest
  -- whatever follows, the whole run was written
  IsBlockAnswered state now most bytes rest old new (Ok End) = (more : List ℕ) → AnswersAll semantics state (Some (bytes ++ more)) old new
  IsBlockAnswered state now most bytes rest old new (Err Write) = (more : List ℕ) → AnswersFront semantics state (Some (bytes ++ more)) old new
  IsBlockAnswered state now most bytes rest old new (Err Memory) = (left : List ℕ) × Progress state now bytes left old new × BeginsWithUnansweredLine most (Some []) left
  IsBlockAnswered state now most bytes rest old new (Err Read) = ⊥

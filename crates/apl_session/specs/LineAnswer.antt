-- What the answer to one line leaves in a sink.
use Rattle.std.specs.Prelude.{◌≡◌, ℕ, true, false, List, Option, Result, Ok, Err}
use Rattle.std.specs.Io.KnownBytes.{Appends}
use Rattle.apl_print.specs.Put.{AppendsFront}
use Rattle.apl_session.specs.Run.{Answer, Semantics, IsAnswer}
use Rattle.apl_session.specs.declared.interpreter.Next.{Next}
use Rattle.apl_session.specs.declared.interpreter.Next.TheVariants.{Go, End}
use Rattle.apl_session.specs.declared.interpreter.RunFault.{RunFault}
use Rattle.apl_session.specs.declared.interpreter.RunFault.TheVariants.{Read, Write, Memory}

-- A line had such an answer, from one state to another, and its text was written; after a failed write a beginning of it.
abbrev pub IsLineOutcome : {W : Type 0} → (W → List ℕ → Answer W → Type 0) → W → W → List ℕ → Option (List ℕ) → Option (List ℕ) → Result Next RunFault → Type 0
IsLineOutcome {W} IsOne state now line old new (Ok Go) = (answer : Answer W) × IsOne state line answer × (now ≡ answer.after)
    × (answer.ends ≡ false) × Appends old new answer.text
IsLineOutcome {W} IsOne state now line old new (Ok End) = (answer : Answer W) × IsOne state line answer × (now ≡ answer.after)
    × (answer.ends ≡ true) × Appends old new answer.text
IsLineOutcome {W} IsOne state now line old new (Err Write) = (answer : Answer W) × IsOne state line answer × (now ≡ answer.after)
    × AppendsFront old new answer.text
IsLineOutcome IsOne state now line old new (Err Read) = ⊥
IsLineOutcome IsOne state now line old new (Err Memory) = ⊥

-- A line was answered, from one state to another, and its text written; after a failed write a beginning of it.
abbrev pub IsLineAnswered : {W : Type 0} → Semantics W → W → W → List ℕ → Option (List ℕ) → Option (List ℕ) → Result Next RunFault → Type 0
IsLineAnswered semantics state now line old new result = IsLineOutcome (IsAnswer semantics) state now line old new result

-- what comes of a line once its text was put
abbrev pub next_after : {T E : Type 0} → Result T E → Result Next RunFault
next_after (Ok value) = Ok Go
next_after (Err error) = Err Write

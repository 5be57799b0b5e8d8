-- What a run of an interpreter over the lines of a text writes.
use Rattle.std.specs.Prelude.{◌≡◌, ℕ, ◌⊎◌, Bool, false, MatchBool, List, [], ◌∷◌, flat_map, None}
use Rattle.apl_print.specs.Reported.{report_text}
use Rattle.apl_print.specs.declared.reports.Report.TheVariants.{WsFull}
use Rattle.apl_session.specs.Lines.{without_return}

-- the answer to a line: what is written, the state after it, and whether the run ends with it
pub record Answer (W : Type 0) : Type 0 where
  pub text : List ℕ
  pub after : W
  pub ends : Bool

-- What an interpreter means: the answers of a line without its carriage return in a state, and the lines that may lack memory.
pub record Semantics (W : Type 0) : Type 1 where
  pub IsStep : W → List ℕ → Answer W → Type 0
  pub IsRefusable : List ℕ → Type 0

-- the step of a line that is refused since memory ran out: the report, and the state as it was
abbrev pub refused_step : {W : Type 0} → W → List ℕ → Answer W
refused_step state line = record { text = report_text WsFull line None; after = state; ends = false }

-- a line's answer as it is defined
abbrev pub IsDefinedAnswer : {W : Type 0} → Semantics W → W → List ℕ → Answer W → Type 0
IsDefinedAnswer semantics state line answer = semantics.IsStep state (without_return line) answer

-- a line's answer: as it is defined, or for a refusable line the refused step
abbrev pub IsAnswer : {W : Type 0} → Semantics W → W → List ℕ → Answer W → Type 0
IsAnswer semantics state line answer = IsDefinedAnswer semantics state line answer
    ⊎ ((answer ≡ refused_step state (without_return line)) × semantics.IsRefusable (without_return line))

-- such an answer to each line in order, up to the first that ends the run, or to the last line
abbrev pub IsRunOf : {W : Type 0} → (W → List ℕ → Answer W → Type 0) → W → List (List ℕ) → List (Answer W) → Type 0
IsRunOf IsOne state [] [] = Unit {0}
IsRunOf IsOne state [] (answer ∷ answers) = ⊥
IsRunOf IsOne state (line ∷ lines) [] = ⊥
IsRunOf IsOne state (line ∷ lines) (answer ∷ answers) = IsOne state line answer
    × MatchBool answer.ends (answers ≡ []) (IsRunOf IsOne answer.after lines answers)

-- A run: an answer to each line in order, up to the first that ends the run, or to the last line.
abbrev pub IsRun : {W : Type 0} → Semantics W → W → List (List ℕ) → List (Answer W) → Type 0
IsRun semantics state lines answers = IsRunOf (IsAnswer semantics) state lines answers

-- a run in which no line is refused
abbrev pub IsDefinedRun : {W : Type 0} → Semantics W → W → List (List ℕ) → List (Answer W) → Type 0
IsDefinedRun semantics state lines answers = IsRunOf (IsDefinedAnswer semantics) state lines answers

-- the texts of the answers, one after the other
abbrev pub text_of : {W : Type 0} → List (Answer W) → List ℕ
text_of answers = flat_map (λ answer. answer.text) answers

-- a line has at most one answer in each state
abbrev pub IsDeterministic : {W : Type 0} → Semantics W → Type 0
IsDeterministic {W} semantics = (state : W) (line : List ℕ) (one other : Answer W)
    → semantics.IsStep state line one → semantics.IsStep state line other → one ≡ other

-- a line has an answer in each lawful state, and the state after it is lawful
abbrev pub IsTotal : {W : Type 0} → (W → Type 0) → Semantics W → Type 0
IsTotal {W} IsLawful semantics = (state : W) (line : List ℕ) → IsLawful state
    → (answer : Answer W) × semantics.IsStep state line answer × IsLawful answer.after

-- lines have a run in which none is refused from each lawful state
abbrev pub HasDefinedRun : (W : Type 0) → (W → Type 0) → Semantics W → Type 0
HasDefinedRun W IsLawful semantics = (state : W) (lines : List (List ℕ)) → IsLawful state
    → (answers : List (Answer W)) × IsDefinedRun semantics state lines answers

-- lines have at most one run in which none is refused, and such a run is a run
pub record HasOneDefinedRun (W : Type 0) (semantics : Semantics W) : Type 0 where
  pub one : (state : W) (lines : List (List ℕ)) (answers others : List (Answer W))
      → IsDefinedRun semantics state lines answers → IsDefinedRun semantics state lines others → answers ≡ others
  pub is_run : (state : W) (lines : List (List ℕ)) (answers : List (Answer W))
      → IsDefinedRun semantics state lines answers → IsRun semantics state lines answers

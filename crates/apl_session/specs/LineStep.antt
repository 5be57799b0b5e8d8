-- The answers to a line without its carriage return. No contract of a public function cites this file.
use Rattle.std.specs.Prelude.{◌≡◌, ◌⊎◌, ℕ, List}
use Rattle.apl_eval.specs.Workspace.{WorkspaceValue}
use Rattle.apl_session.specs.Run.{Answer, refused_step}
use Rattle.apl_session.specs.Step.{IsStep, IsRefusable}

-- the step of the line, or the refused step
abbrev pub IsLineStep : WorkspaceValue → List ℕ → Answer WorkspaceValue → Type 0
IsLineStep state line answer = IsStep state line answer ⊎ ((answer ≡ refused_step state line) × IsRefusable line)

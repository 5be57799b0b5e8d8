-- Lawful workspaces. Those of a session are among them.
use Rattle.std.specs.Prelude.{ℕ, ◌≤◌, List, IfSome}
use Rattle.apl_array.specs.Array.{ArrayValue}
use Rattle.apl_array.specs.Limits.{IsWithinLimits}
use Rattle.apl_print.specs.Width.{least_width as least, most_width as most}
use Rattle.apl_eval.specs.Workspace.{WorkspaceValue, value_of}
use Rattle.apl_eval.specs.Meaning.{Outcome, done, failed}

-- each name's value is within all limits, and lines have from 30 to 130 characters
pub record IsLawful (w : WorkspaceValue) : Type 0 where
  pub values : (name : List ℕ) → IfSome (value_of name w) IsWithinLimits
  pub least_width : least ≤ w.width
  pub greatest_width : w.width ≤ most

-- the workspace after a value or an error is lawful, and the value has a property
abbrev pub LeavesLawful : {V : Type 0} → (V → Type 0) → Outcome V → Type 0
LeavesLawful P (done v w) = P v × IsLawful w
LeavesLawful P (failed report column w) = IsLawful w

-- the property is that it is within all limits
abbrev pub IsLawfulOutcome : Outcome ArrayValue → Type 0
IsLawfulOutcome = LeavesLawful IsWithinLimits

-- What contracts see of a workspace.
use Rattle.std.specs.Prelude.{ℕ, List, Option}
use Rattle.std.specs.Cmp.Lexicographic.{slice_cmp}
use Rattle.std.specs.Ordering.{nat_cmp}
use Rattle.std.specs.FinMap.{FinMap, get, insert, empty}
use Rattle.apl_array.specs.declared.axis.Origin.{Origin}
use Rattle.apl_array.specs.declared.axis.Origin.TheVariants.{One}
use Rattle.apl_array.specs.Array.{ArrayValue}

-- from the bytes of a name's text to the name's value
abbrev pub NameValues : Type 0
NameValues = FinMap (slice_cmp nat_cmp) ArrayValue

-- the names with their values, the number of the first index, and how many characters a printed line has at most
pub record WorkspaceValue : Type 0 where
  pub names : NameValues
  pub origin : Origin
  pub width : ℕ

-- its parts
abbrev pub parts_of : WorkspaceValue → NameValues × (Origin × ℕ)
parts_of w = (w.names, (w.origin, w.width))

-- the workspace of such parts
abbrev pub workspace_of : NameValues × (Origin × ℕ) → WorkspaceValue
workspace_of parts = record { names = parts.0; origin = parts.1.0; width = parts.1.1 }

-- the value of a name, if it has one
abbrev pub value_of : List ℕ → WorkspaceValue → Option ArrayValue
value_of name w = get w.names name

-- the workspace with other names and values
abbrev pub with_names : NameValues → WorkspaceValue → WorkspaceValue
with_names names w = record { names = names; origin = w.origin; width = w.width }

-- the workspace with another origin
abbrev pub with_origin : Origin → WorkspaceValue → WorkspaceValue
with_origin origin w = record { names = w.names; origin = origin; width = w.width }

-- the workspace with another width
abbrev pub with_width : ℕ → WorkspaceValue → WorkspaceValue
with_width width w = record { names = w.names; origin = w.origin; width = width }

-- the workspace after an assignment
abbrev pub assigned : List ℕ → ArrayValue → WorkspaceValue → WorkspaceValue
assigned name value w = with_names (insert w.names name value) w

-- a new workspace, and a cleared one
abbrev pub opening_workspace : WorkspaceValue
opening_workspace = record { names = empty; origin = One; width = 120 }

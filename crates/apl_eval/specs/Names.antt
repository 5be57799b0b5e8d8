-- The map of names that a hash map holds, and two maps laid over one another. No contract of a public function cites this file.
use Rattle.std.specs.Prelude.{ℕ, List, map, ◌++◌, string_bytes, String}
use Rattle.std.specs.FinMap.{from_entries, entries}
use Rattle.std.specs.declared.rc.Rc.{Rc}
use Rattle.std.specs.HashMap.{HashMap}
use Rattle.apl_array.specs.Array.{ArrayValue}
use Rattle.apl_eval.specs.Workspace.{NameValues}

abbrev pub named : {Y Z : Type 0} → String Y × Rc ArrayValue Z → List ℕ × ArrayValue
named e = (string_bytes e.0, e.1.value)

abbrev pub names_in : {Y Z S : Type 0} → HashMap (String Y) (Rc ArrayValue Z) S → NameValues
names_in m = from_entries (map named m.entries)

-- the names of both, with the first map's value where it has one
abbrev pub overlaid : NameValues → NameValues → NameValues
overlaid staged names = from_entries (entries staged ++ entries names)

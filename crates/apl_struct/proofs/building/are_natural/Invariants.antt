use Rattle.std.proofs.Common.{◌≡◌, true, map, take}
use Rattle.std.specs.List.{list_all}
use Rattle.apl_answer.specs.Arguments.{is_natural}
use Rattle.apl_struct.proofs.building.are_natural.Given as goal

abbrev pub invariant-loop-place : goal.invariant-loop-place
invariant-loop-place g l = list_all is_natural (take l.place (map g.T.Numeric.number_in l.numbers)) ≡ true

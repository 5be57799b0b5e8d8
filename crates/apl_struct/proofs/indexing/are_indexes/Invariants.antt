use Rattle.std.proofs.Common.{◌≡◌, map, take}
use Rattle.std.specs.List.{list_all}
use Rattle.apl_array.specs.Axes.{from_origin, is_below}
use Rattle.apl_struct.proofs.indexing.are_indexes.Given as goal

abbrev pub invariant-loop-place : goal.invariant-loop-place
invariant-loop-place g l = l.are_all ≡ list_all (λ number. is_below l.axis_length (from_origin l.origin number)) (take l.place (map g.N.Numeric.number_in l.numbers))

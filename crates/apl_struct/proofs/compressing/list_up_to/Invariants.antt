use Rattle.std.proofs.Common.{◌≡◌, map, take, vec_capacity}
use Rattle.apl_array.specs.Axes.{place_number}
use Rattle.apl_struct.specs.Compressing.{repeated_indexes}
use Rattle.apl_struct.proofs.compressing.list_up_to.Given as goal

abbrev pub invariant-loop-i : goal.invariant-loop-i
invariant-loop-i g l = record {
  kept : l.table.items ≡ repeated_indexes (take l.i (map place_number (map g.T.Numeric.number_in l.counts)));
  room : vec_capacity l.table ≡ vec_capacity l.initial.table;
}

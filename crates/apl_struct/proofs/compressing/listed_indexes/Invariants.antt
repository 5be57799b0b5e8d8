use Rattle.std.proofs.Common.{◌≡◌, ◌+◌, ◌*◌, ◌≤◌, map, take, vec_capacity}
use Rattle.apl_array.specs.Axes.{place_number}
use Rattle.apl_struct.specs.Compressing.{repeated_indexes}
use Rattle.apl_struct.specs.declared.compressing.TheConstants.{SPARE}
use Rattle.apl_struct.proofs.compressing.listed_indexes.Given as goal

abbrev pub invariant-loop-turn : goal.invariant-loop-turn
invariant-loop-turn g l = record {
  kept : l.table.items ≡ repeated_indexes (take (l.turn * 4) (map place_number (map g.T.Numeric.number_in l.counts)));
  room : l.all + SPARE ≤ vec_capacity l.table;
}

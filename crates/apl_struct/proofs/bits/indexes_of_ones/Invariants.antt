use Rattle.std.proofs.Common.{◌≡◌, ◌*◌, ◌≤◌, length, map, take, vec_capacity}
use Rattle.std.specs.Prelude.{vec_len}
use Rattle.apl_array.specs.Array.{bit}
use Rattle.apl_array.specs.Axes.{place_number}
use Rattle.apl_struct.specs.Compressing.{repeated_indexes}
use Rattle.apl_struct.proofs.bits.indexes_of_ones.Given as goal

abbrev pub invariant-loop-turn : goal.invariant-loop-turn
invariant-loop-turn l = record {
  few : vec_len l.table ≤ l.turn * 4;
  kept : l.table.items ≡ repeated_indexes (take (l.turn * 4) (map place_number (map bit l.truths)));
  room : length l.truths ≤ vec_capacity l.table;
}

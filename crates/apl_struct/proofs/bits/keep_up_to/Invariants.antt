use Rattle.std.proofs.Common.{◌≡◌, ◌+◌, ◌≤◌, length, map, take}
use Rattle.apl_array.specs.Array.{bit}
use Rattle.apl_array.specs.Axes.{place_number}
use Rattle.apl_struct.specs.Compressing.{repeated_indexes}
use Rattle.apl_struct.proofs.bits.keep_up_to.Given as goal

abbrev pub invariant-loop-i : goal.invariant-loop-i
invariant-loop-i l = record {
  few : l.kept + l.from ≤ length l.fn.table.items + l.i;
  kept : take l.kept l.places ≡ repeated_indexes (take l.i (map place_number (map bit l.truths)));
  len : length l.places + l.from ≡ length l.fn.table.items + l.to;
}

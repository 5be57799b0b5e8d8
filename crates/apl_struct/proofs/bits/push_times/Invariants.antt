use Rattle.std.proofs.Common.{◌≡◌, ◌++◌, replicate, vec_capacity}
use Rattle.apl_struct.proofs.bits.push_times.Given as goal

abbrev pub invariant-loop-again : goal.invariant-loop-again
invariant-loop-again l = (l.table.items ≡ l.initial.table.items ++ replicate l._again l.index) × (vec_capacity l.table ≡ vec_capacity l.initial.table)

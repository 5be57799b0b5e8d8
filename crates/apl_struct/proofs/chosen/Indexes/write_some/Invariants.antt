use Rattle.std.proofs.Common.{◌≡◌, ◌+◌, length, map}
use Rattle.apl_pool.specs.Runs.{AreWritten}
use Rattle.apl_struct.specs.Chosen.{chosen_at}
use Rattle.apl_struct.proofs.chosen.Indexes.write_some.Given as goal

abbrev pub invariant-loop-offset : goal.invariant-loop-offset
invariant-loop-offset g l = AreWritten (chosen_at l.elements (map g.N.Numeric.number_in l.self.numbers.now) l.self.first) l.from (l.from + (l.done + l.offset)) l.room × (length l.room ≡ length l.initial.room)

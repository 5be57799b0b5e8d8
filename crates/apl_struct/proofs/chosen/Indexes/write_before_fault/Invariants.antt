use Rattle.std.proofs.Common.{◌≡◌, ◌+◌, ◌*◌, length, map}
use Rattle.apl_pool.specs.Runs.{AreWritten}
use Rattle.apl_struct.specs.Chosen.{chosen_at}
use Rattle.apl_struct.proofs.chosen.Indexes.write_before_fault.Given as goal

abbrev pub invariant-loop-turn : goal.invariant-loop-turn
invariant-loop-turn g l = AreWritten (chosen_at l.elements (map g.N.Numeric.number_in l.self.numbers.now) l.self.first) l.from (l.from + l.turn * 4) l.room × (length l.room ≡ length l.initial.room)

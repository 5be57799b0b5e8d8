use Rattle.std.proofs.Common.{◌≡◌, ◌+◌, ◌*◌, length}
use Rattle.apl_pool.specs.Runs.{AreWritten}
use Rattle.apl_pool.proofs.work.write_places.Given as goal

abbrev pub invariant-loop-turn : goal.invariant-loop-turn
invariant-loop-turn g l = AreWritten (g.K.Kernel.outcome l.kernel) l.from (l.first + l.turn * 4) l.room × (length l.room ≡ length l.initial.room)

use Rattle.std.proofs.Common.{◌≡◌, ◌+◌, length}
use Rattle.apl_pool.specs.Runs.{AreWritten}
use Rattle.apl_pool.proofs.work.write_some.Given as goal

abbrev pub invariant-loop-offset : goal.invariant-loop-offset
invariant-loop-offset g l = AreWritten (g.K.Kernel.outcome l.kernel) l.from (l.first + l.offset) l.room × (length l.room ≡ length l.initial.room)

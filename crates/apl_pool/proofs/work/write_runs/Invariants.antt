use Rattle.std.proofs.Common.{◌≡◌, ◌-◌, ◌≤◌, length}
use Rattle.apl_pool.specs.Runs.{AreWritten}
use Rattle.apl_pool.proofs.work.write_runs.Given as goal

abbrev pub invariant-loop-place : goal.invariant-loop-place
invariant-loop-place g l =
    (l.from ≤ l.place)
    × (l.place ≤ l.to)
    × AreWritten (g.K.Kernel.outcome l.kernel) l.from l.place l.room
    × (length l.room ≡ length l.initial.room)

abbrev pub decreases-loop-place : goal.decreases-loop-place
decreases-loop-place g l = l.to - l.place

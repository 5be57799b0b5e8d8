use Prim.Native.Nat.{◌+◌, ◌*◌}
use Rattle.apl_pool.proofs.crew.+crew.Given as goal

abbrev pub decreases-work_together : goal.decreases-work_together
decreases-work_together g l = 2 * l.workers

abbrev pub decreases-before : goal.decreases-before
decreases-before g l = 2 * l.others + 1

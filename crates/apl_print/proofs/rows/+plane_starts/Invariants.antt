use Rattle.std.proofs.Common.{length}
use Rattle.apl_print.proofs.rows.+plane_starts.Given as goal

abbrev pub decreases-plane_starts : goal.decreases-plane_starts
decreases-plane_starts l = length l.lengths.now

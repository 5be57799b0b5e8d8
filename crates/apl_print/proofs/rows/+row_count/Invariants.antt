use Rattle.std.proofs.Common.{length}
use Rattle.apl_print.proofs.rows.+row_count.Given as goal

abbrev pub decreases-row_count : goal.decreases-row_count
decreases-row_count l = length l.lengths.now

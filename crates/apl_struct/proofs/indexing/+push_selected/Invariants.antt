use Rattle.std.proofs.Common.{length}
use Rattle.apl_struct.proofs.indexing.+push_selected.Given as goal

abbrev pub decreases-push_selected : goal.decreases-push_selected
decreases-push_selected l = length l.lengths.now

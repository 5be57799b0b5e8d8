use Rattle.std.proofs.Common.{length}
use Rattle.apl_struct.proofs.selecting.+selected_axes.Given as goal

abbrev pub decreases-selected_axes : goal.decreases-selected_axes
decreases-selected_axes l = length l.lengths.now

use Rattle.std.proofs.Common.{length}
use Rattle.apl_struct.proofs.permuting.+named_axes.Given as goal

abbrev pub decreases-named_axes : goal.decreases-named_axes
decreases-named_axes l = length l.axes.now

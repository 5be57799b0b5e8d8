use Rattle.std.proofs.Common.{length}
use Rattle.apl_struct.proofs.arguments.+is_without_axis.Given as goal

abbrev pub decreases-is_without_axis : goal.decreases-is_without_axis
decreases-is_without_axis l = length l.b.now

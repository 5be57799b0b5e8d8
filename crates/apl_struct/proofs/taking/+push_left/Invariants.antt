use Rattle.std.proofs.Common.{length}
use Rattle.apl_struct.proofs.taking.+push_left.Given as goal

abbrev pub decreases-push_left : goal.decreases-push_left
decreases-push_left l = length l.numbers.now

use Rattle.std.proofs.Common.{length}
use Rattle.apl_struct.proofs.selecting.+push_slots.Given as goal

abbrev pub decreases-push_slots : goal.decreases-push_slots
decreases-push_slots g l = length l.slots.now

use Rattle.std.proofs.Common.{length}
use Rattle.apl_struct.proofs.permuting.+are_from_origin.Given as goal

abbrev pub decreases-are_from_origin : goal.decreases-are_from_origin
decreases-are_from_origin l = length l.numbers.now

use Rattle.std.proofs.Common.{length}
use Rattle.apl_struct.proofs.permuting.+least_length_onto.Given as goal

abbrev pub decreases-least_length_onto : goal.decreases-least_length_onto
decreases-least_length_onto l = length l.axes.now

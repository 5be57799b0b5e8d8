use Rattle.apl_reduce.proofs.BitFolds.{no_bits}
use Rattle.apl_reduce.proofs.bit_folds.RunBitsKnownRun.none.Goals as goal

pub returns : goal.returns
returns c = no_bits

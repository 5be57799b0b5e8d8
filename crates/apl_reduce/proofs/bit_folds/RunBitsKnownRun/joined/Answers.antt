use Rattle.apl_reduce.proofs.BitFolds.{joined_bits}
use Rattle.apl_reduce.proofs.bit_folds.RunBitsKnownRun.joined.Goals as goal

pub returns : goal.returns
returns c = λ numbers first count low high. joined_bits numbers first count _ _ _ _ low high

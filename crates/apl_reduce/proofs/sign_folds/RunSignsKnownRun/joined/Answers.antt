use Rattle.apl_reduce.proofs.SignFolds.{joined_signs}
use Rattle.apl_reduce.proofs.sign_folds.RunSignsKnownRun.joined.Goals as goal

pub returns : goal.returns
returns c = λ numbers first count low high. joined_signs numbers first count _ _ _ _ low high

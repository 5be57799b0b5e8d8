use Rattle.apl_reduce.proofs.SignFolds.{no_signs}
use Rattle.apl_reduce.proofs.sign_folds.RunSignsKnownRun.none.Goals as goal

pub returns : goal.returns
returns c = no_signs

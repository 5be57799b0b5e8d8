use Rattle.apl_scalar.proofs.Truths.{monadic_is_truth, dyadic_is_truth}
use Rattle.apl_scalar.proofs.laws.truth_values_are_results.Goals as goal

pub returns-clause-monadic : goal.returns-clause-monadic
returns-clause-monadic c = monadic_is_truth

pub returns-clause-dyadic : goal.returns-clause-dyadic
returns-clause-dyadic c = dyadic_is_truth

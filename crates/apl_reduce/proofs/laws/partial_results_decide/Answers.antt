use Rattle.apl_reduce.proofs.Ends.{partial_results_decide}
use Rattle.apl_reduce.proofs.laws.partial_results_decide.Goals as goal

pub returns : goal.returns
returns c = partial_results_decide c.range_is_decided.ensures.decided

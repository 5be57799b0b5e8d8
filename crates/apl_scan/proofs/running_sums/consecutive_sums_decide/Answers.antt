use Rattle.apl_scan.proofs.RunningSums.{limit_told, sums_told}
use Rattle.apl_scan.proofs.running_sums.consecutive_sums_decide.Goals as goal

pub returns-clause-limit : goal.returns-clause-limit
returns-clause-limit c = limit_told c.range_is_decided.ensures.decided c.limits_are_answered.ensures c.exact_folds_decide.ensures.list c.replaced_index_has_place.ensures.lawful

pub returns-clause-sums : goal.returns-clause-sums
returns-clause-sums c = sums_told c.range_is_decided.ensures.decided c.limits_are_answered.ensures c.exact_folds_decide.ensures.list c.replaced_index_has_place.ensures.lawful

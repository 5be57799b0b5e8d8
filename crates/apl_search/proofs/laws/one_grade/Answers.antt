use Rattle.apl_search.proofs.Orders.{upwards_is_strict, downwards_is_strict, one_grade}
use Rattle.apl_search.specs.Ordering.{upwards, downwards}
use Rattle.apl_search.proofs.laws.one_grade.Goals as goal

pub returns-clause-up : goal.returns-clause-up
returns-clause-up c = one_grade upwards upwards_is_strict

pub returns-clause-down : goal.returns-clause-down
returns-clause-down c = one_grade downwards downwards_is_strict

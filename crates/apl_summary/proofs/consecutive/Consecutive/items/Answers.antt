use Rattle.apl_summary.proofs.ConsecutiveLists.{items_of}
use Rattle.apl_summary.proofs.consecutive.Consecutive.items.Goals as goal

pub returns-clause-list : goal.returns-clause-list
returns-clause-list c = λ xs h. items_of c.args.self.now.sums xs h

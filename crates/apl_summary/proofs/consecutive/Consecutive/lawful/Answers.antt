use Rattle.std.proofs.Common.{sym, ◌∙◌}
use Rattle.apl_summary.proofs.ConsecutiveLists.{lawful_then, then_lawful}
use Rattle.apl_summary.proofs.RunningSums.{sums_if_lawful, lawful_if_sums}
use Rattle.apl_summary.proofs.consecutive.Consecutive.lawful.Goals as goal

pub returns-clause-list : goal.returns-clause-list
returns-clause-list c = λ xs h. ((λ e. lawful_then c.args.self.now.sums xs h (sym c.are_in_range.ensures ∙ e)), (λ f. c.are_in_range.ensures ∙ then_lawful c.args.self.now.sums xs h f))

pub returns-clause-running : goal.returns-clause-running
returns-clause-running c = λ xs h items. (
  (λ e. sums_if_lawful xs (lawful_then c.args.self.now.sums xs h (sym c.are_in_range.ensures ∙ e))),
  (λ f. c.are_in_range.ensures ∙ then_lawful c.args.self.now.sums xs h (lawful_if_sums xs items f)),
)

use Rattle.apl_eval.proofs.NameLemmas.{get-overlaid_first, get-overlaid_second}
use Rattle.apl_eval.proofs.statement.look_up.Goals as goal

pub returns-in-Some : goal.returns-in-Some
returns-in-Some c = get-overlaid_first c.args.staged.now c.args.workspace.now.names c.args.name.now c.in-Some.value.now.value c.in-Some.ensures

pub returns-in-None : goal.returns-in-None
returns-in-None c = get-overlaid_second c.args.staged.now c.args.workspace.now.names c.args.name.now c.get-in-None.result c.in-None.ensures (rw (← c.names.ensures) c.get-in-None.ensures)

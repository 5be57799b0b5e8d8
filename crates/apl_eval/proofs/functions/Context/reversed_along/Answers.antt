use Rattle.apl_answer.specs.Rows as rows
use Rattle.apl_struct.specs.Rearranging.{reverse_row}
use Rattle.apl_eval.specs.Functions.{reversed_along}
use Rattle.apl_eval.proofs.functions.Context.reversed_along.Goals as goal

pub returns : goal.returns
unfolding reversed_along
returns g c = c.result_of.ensures (rows.result_of (reverse_row c.args.b.now c.args.axis)) c.reverse.ensures

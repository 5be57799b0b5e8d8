use Rattle.apl_eval.specs.Functions.{dyadic_plain}
use Rattle.apl_eval.proofs.functions.Context.dyadic_plain.Goals as goal

pub returns : goal.returns
returns g c = c.result_of.ensures (dyadic_plain c.args.self.now.workspace.now.origin c.args.function.now c.args.a.now c.args.b.now) c.dyadic_plain_answer.ensures

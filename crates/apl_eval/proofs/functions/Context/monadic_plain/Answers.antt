use Rattle.apl_eval.specs.Functions.{monadic_plain}
use Rattle.apl_eval.proofs.functions.Context.monadic_plain.Goals as goal

pub returns : goal.returns
returns g c = c.result_of.ensures (monadic_plain c.args.self.now.workspace.now.origin c.args.function.now c.args.b.now) c.monadic_plain_answer.ensures

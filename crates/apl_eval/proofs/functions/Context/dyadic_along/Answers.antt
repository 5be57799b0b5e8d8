use Rattle.apl_eval.specs.Functions.{dyadic_along}
use Rattle.apl_eval.proofs.functions.Context.dyadic_along.Goals as goal

pub returns : goal.returns
returns g c = c.result_of.ensures (dyadic_along c.args.function c.args.axis c.args.a.now c.args.b.now) c.dyadic_along_answer.ensures

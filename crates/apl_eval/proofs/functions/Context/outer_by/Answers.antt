use Rattle.apl_answer.specs.Rows as rows
use Rattle.apl_reduce.specs.Products.{outer_row}
use Rattle.apl_eval.proofs.functions.Context.outer_by.Goals as goal

pub returns : goal.returns
returns g c = c.result_of.ensures (rows.result_of (outer_row c.args.function.now c.args.a.now c.args.b.now)) (rw c.function-f.ensures.value at c.outer.ensures)

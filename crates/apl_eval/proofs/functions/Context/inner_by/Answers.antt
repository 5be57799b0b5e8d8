use Rattle.apl_answer.specs.Rows as rows
use Rattle.apl_reduce.specs.Products.{inner_row}
use Rattle.apl_eval.proofs.functions.Context.inner_by.Goals as goal

pub returns : goal.returns
returns g c =
    c.result_of.ensures (rows.result_of (inner_row c.args.left.now c.args.right.now c.args.a.now c.args.b.now))
    (rw (c.function-f.ensures.value, c.function-g.ensures.value) at c.inner.ensures)

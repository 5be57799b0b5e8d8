use Rattle.apl_reduce.proofs.Onto.{axis_row}
use Rattle.apl_reduce.proofs.axis_items.rows_have_folds.Goals as goal

pub returns : goal.returns
returns g c = λ place below.
    let axis = c.args._axis.now in
    axis_row g.T.ElementType.elem_of g.T.Numeric.number_in g.met.T.Numeric.is_number c.args._f axis.elements.now axis.items axis.block axis.inner place axis.two

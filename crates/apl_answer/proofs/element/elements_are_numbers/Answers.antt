use Rattle.apl_answer.proofs.Widened.{as_numbers}
use Rattle.apl_answer.proofs.element.elements_are_numbers.Goals as goal

pub returns : goal.returns
returns g c = as_numbers g.T.Numeric.number_in g.T.ElementType.elem_of g.met.T.Numeric.is_number c.args._elements.now

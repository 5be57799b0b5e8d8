use Rattle.apl_answer.proofs.Places.{answer_from_values, answer_from_stop}
use Rattle.apl_answer.proofs.fill.array_from_fill.Goals as goal

pub returns-in-Ok : goal.returns-in-Ok
returns-in-Ok g c = λ at_place outcome same values stop.
    rw c.array.ensures (answer_from_values g.T.ElementType.elem_of at_place c.args.shape outcome same g.T.ElementType.kind c.in-Ok.values.items (rw c.in-Ok.is at values))

pub returns-in-Err : goal.returns-in-Err
returns-in-Err g c = λ at_place outcome same values stop.
    rw c.from.ensures (answer_from_stop g.T.ElementType.elem_of at_place c.args.shape outcome same g.T.ElementType.kind c.in-Err.stop (rw c.in-Err.is at stop))

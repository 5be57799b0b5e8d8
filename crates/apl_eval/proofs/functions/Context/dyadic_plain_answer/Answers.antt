use Rattle.apl_eval.proofs.functions.Context.dyadic_plain_answer.Goals as goal

pub returns-in-TransposeBy : goal.returns-in-TransposeBy
returns-in-TransposeBy g c = rw c.in-TransposeBy.is (rw c.origin-origin.ensures at c.transpose_by.ensures)

use Rattle.std.proofs.Common.{sym, subst}
use Rattle.apl_answer.specs.Rows.{Answers}
use Rattle.apl_struct.specs.Indexing.{Slots, select_row}
use Rattle.apl_struct.proofs.indexing.select_elements.Goals as goal

pub returns-in-Some : goal.returns-in-Some
returns-in-Some g c =
    subst (λ (slots : Slots). Answers (select_row c.args.a.now slots c.args.origin) c.select_of_vector.result) (sym c.in-Some.ensures.1) c.select_of_vector.ensures

use Rattle.std.proofs.Common.{◌≡◌, ◌∙◌, ap, sym, Some, rules}
use Rattle.std.specs.Prelude.{option_copied, true, false}
use Rattle.apl_eval.proofs.Endings.{assigns, assigns-last}
use Rattle.apl_eval.proofs.statement.is_assignment_program.Goals as goal

pub returns-in-Some-Assign : goal.returns-in-Some-Assign
returns-in-Some-Assign c = λ tree program.
    let is : assigns (Some c.in-Some-Assign.field-0.now) ≡ true = search rules in
    sym is ∙ assigns-last tree c.args.program.now (Some c.in-Some-Assign.field-0.now) program (rw c.operations.ensures.all at c.in-Some-Assign.ensures.value)

pub returns-in-Some-Assign-2 : goal.returns-in-Some-Assign-2
returns-in-Some-Assign-2 c = λ tree program.
    let is : assigns (Some c.in-Some-Assign.field-0.now) ≡ true = search rules in
    sym is ∙ assigns-last tree c.args.program.now (Some c.in-Some-Assign.field-0.now) program (rw c.operations.ensures.all at c.in-Some-Assign.ensures.value)

pub returns-in_default : goal.returns-in_default
returns-in_default c = λ tree program.
    let is : assigns (Some c.in_default.field-0.now) ≡ false = search rules in
    let found : option_copied c.last.result ≡ Some c.in_default.field-0.now = ap option_copied c.in_default.is in
    sym is ∙ assigns-last tree c.args.program.now (Some c.in_default.field-0.now) program (sym found ∙ (rw c.operations.ensures.all at c.last.ensures.value))

use Rattle.std.proofs.Common.{List, Result, ◌≡◌, sym, ◌∙◌, ap, subst}
use Rattle.std.specs.FinMap.{empty}
use Rattle.apl_eval.specs.Workspace.{WorkspaceValue, NameValues, with_names}
use Rattle.apl_grammar.specs.declared.program.Operation.{Operation}
use Rattle.apl_grammar.specs.declared.program.Operation.TheVariants as op
use Rattle.apl_eval.specs.declared.statement.EvalStop.{EvalStop}
use Rattle.apl_eval.specs.Steps.{Item, step, IsState, staged_in}
use Rattle.apl_eval.proofs.NameLemmas.{on_err}
use Rattle.apl_eval.proofs.StackLemmas.{staged_in-nameless}
use Rattle.apl_eval.proofs.statement.assign_at_in_workspace.Goals as goal

-- the names of a workspace, over the workspace without them
before : (w nameless : WorkspaceValue) (names : NameValues) → names ≡ w.names → nameless ≡ with_names empty w → staged_in names nameless ≡ w
before w nameless names own none = (λ i. staged_in (own i) (none i)) ∙ staged_in-nameless w.names w

after : (w nameless new : WorkspaceValue) (names : NameValues) → nameless ≡ with_names empty w → new ≡ with_names names nameless → staged_in names nameless ≡ new
after w nameless new names none put = ap (staged_in names) none ∙ staged_in-nameless names w ∙ ap (with_names names) (sym none) ∙ sym put

moved : {T : Type 0} (o : Operation) (stack items : List Item) (old w new n : WorkspaceValue) (r : Result T EvalStop) → old ≡ w → new ≡ n → IsState (step o stack old) items new r → IsState (step o stack w) items n r
moved o stack items old w new n r is and h = subst (λ w. IsState (step o stack w) items n r) is (subst (λ n. IsState (step o stack old) items n r) and h)

pub returns-clause-state : goal.returns-clause-state
returns-clause-state g c =
    let nameless = c.take_names-names.new.self in
    let old = before c.args.workspace.now nameless c.take_names-names.result c.take_names-names.ensures.names c.take_names-names.ensures.others in
    let new = after c.args.workspace.now nameless c.put_names.new.self c.apply_assign_at-answer.new.staged c.take_names-names.ensures.others c.put_names.ensures in
    moved (op.AssignAt c.args.target.now) c.args.stack.now c.apply_assign_at-answer.new.stack _ _ _ _ c.apply_assign_at-answer.result old new c.apply_assign_at-answer.ensures.state

pub returns-clause-unchanged : goal.returns-clause-unchanged
returns-clause-unchanged g c =
    let nameless = c.take_names-names.new.self in
    let old = before c.args.workspace.now nameless c.take_names-names.result c.take_names-names.ensures.names c.take_names-names.ensures.others in
    let new = after c.args.workspace.now nameless c.put_names.new.self c.apply_assign_at-answer.new.staged c.take_names-names.ensures.others c.put_names.ensures in
    on_err c.apply_assign_at-answer.result (λ same. sym new ∙ same ∙ old) c.apply_assign_at-answer.ensures.unchanged

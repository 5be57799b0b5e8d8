use Rattle.std.proofs.Common.{◌≡◌, ◌∷◌, refl, sym, ◌∙◌, ap, Some, rules}
use Rattle.std.specs.FinMap.{insert}
use Rattle.apl_grammar.specs.declared.program.Operation.TheVariants as op
use Rattle.apl_eval.specs.Meaning.{done, name_outcome}
use Rattle.apl_eval.specs.Steps.{staged_in, waiting}
use Rattle.apl_eval.proofs.StackLemmas.{staged_in-insert, monadic_above, dyadic_above, index_above, assign_at_above}
use Rattle.apl_eval.proofs.statement.carry_out.Goals as goal

pub returns-in-Constant : goal.returns-in-Constant
returns-in-Constant g c =
    let w = staged_in c.args.staged.now c.args.context.now.workspace.now in
    rw c.in-Constant.is (c.put.ensures (done c.in-Constant.constant w) w (c.constant_value.ensures w))

pub returns-in-Name : goal.returns-in-Name
returns-in-Name g c =
    let w = staged_in c.args.staged.now c.args.context.now.workspace.now in
    let value = rw c.as_str-name.ensures at c.name_value.ensures in
    rw c.in-Name.is (c.put-in-Name.ensures (name_outcome c.in-Name.column c.in-Name.name w) w value)

pub apply_dyadic-requires : goal.apply_dyadic-requires
apply_dyadic-requires g c =
    let w = staged_in c.args.staged.now c.args.context.now.workspace.now in
    let possible = dyadic_above w c.in-Dyadic.form c.in-Dyadic.axis c.args.stack.now (rw c.in-Dyadic.is at c.requires) in
    (search rules, (search rules, (search rules, possible)))

pub returns-in-Dyadic : goal.returns-in-Dyadic
returns-in-Dyadic g c =
    let w = staged_in c.args.staged.now c.args.context.now.workspace.now in
    rw c.in-Dyadic.is (c.apply_dyadic.ensures w refl)

pub apply_monadic-requires : goal.apply_monadic-requires
apply_monadic-requires g c =
    let w = staged_in c.args.staged.now c.args.context.now.workspace.now in
    let possible = monadic_above w c.in-Monadic.form c.in-Monadic.axis c.args.stack.now (rw c.in-Monadic.is at c.requires) in
    (search rules, (search rules, (search rules, possible)))

pub returns-in-Monadic : goal.returns-in-Monadic
returns-in-Monadic g c =
    let w = staged_in c.args.staged.now c.args.context.now.workspace.now in
    rw c.in-Monadic.is (c.apply_monadic.ensures w refl)

pub apply_index-requires : goal.apply_index-requires
apply_index-requires g c =
    let w = staged_in c.args.staged.now c.args.context.now.workspace.now in
    let possible = index_above w c.in-Index.semicolons c.in-Index.brackets c.args.stack.now (rw c.in-Index.is at c.requires) in
    (search rules, (search rules, (search rules, possible)))

pub returns-in-Index : goal.returns-in-Index
returns-in-Index g c =
    let w = staged_in c.args.staged.now c.args.context.now.workspace.now in
    rw c.in-Index.is (c.apply_index.ensures w refl)

pub apply_assign_at-requires : goal.apply_assign_at-requires
apply_assign_at-requires g c =
    let w = staged_in c.args.staged.now c.args.context.now.workspace.now in
    let is : c.args.operation.now ≡ op.AssignAt c.indexed_name.result.now = cc in
    let possible = assign_at_above w c.indexed_name.result.now c.args.stack.now (rw is at c.requires) in
    (search rules, (search rules, (search rules, possible)))

pub returns-in-AssignAt : goal.returns-in-AssignAt
returns-in-AssignAt g c =
    let is : c.args.operation.now ≡ op.AssignAt c.indexed_name.result.now = cc in
    rw is c.apply_assign_at.ensures.state

pub returns-in_ok-insert-in-Assign : goal.returns-in_ok-insert-in-Assign
returns-in_ok-insert-in-Assign g c =
    let w = staged_in c.args.staged.now c.args.context.now.workspace.now in
    let value = c.top_value.result.now.value in
    let stack : c.args.stack.now ≡ Some value ∷ c.top_value.ensures.0 = c.top_value.ensures.1 in
    let staged = staged_in-insert c.args.staged.now c.args.context.now.workspace.now c.in-Assign.name value in
    let kept : c.insert.new.self ≡ insert c.args.staged.now c.in-Assign.name value =
    c.in_ok-insert-in-Assign.ensures.ok ∙ (λ i. insert c.args.staged.now (c.as_str.ensures i) (c.in_ok-value-in-Assign.ensures.cases i)) in
    rw (c.in-Assign.is, stack, kept) (ap (waiting (Some value ∷ c.top_value.ensures.0)) (sym staged))

use Rattle.std.proofs.Common.{◌≡◌, refl, ◌∙◌, ap, rules}
use Rattle.apl_eval.specs.Steps.{staged_in}
use Rattle.apl_eval.proofs.StackLemmas.{staged_in-empty}
use Rattle.apl_eval.proofs.StepLemmas.{is_possible, stops_with, at_end}
use Rattle.apl_eval.proofs.statement.carry_out_all.Goals as goal

pub operations-init : goal.operations-init
operations-init g c =
    let w : staged_in c.args.staged.now c.args.context.now.workspace.now ≡ c.args.context.now.workspace.now = ap (λ s. staged_in s c.args.context.now.workspace.now) c.requires.staged ∙ staged_in-empty c.args.context.now.workspace.now in
    rw (c.requires.stack, w) (record { left = refl })

pub carry_out-requires : goal.carry_out-requires
carry_out-requires g c =
    let w = staged_in c.operations.staged c.args.context.now.workspace.now in
    let possible =
    is_possible c.args.operations.now c.args.context.now.workspace.now c.operations.operation-index c.operations.stack w c.operation-item.result
    c.requires.possible c.operations-test.true c.operation-item.is c.operations.invariant in
    (search rules, (search rules, (search rules, possible)))

pub returns-in-Err : goal.returns-in-Err
returns-in-Err g c =
    stops_with c.args.operations.now c.args.context.now.workspace.now c.operations.operation-index c.operations.stack (staged_in c.operations.staged c.args.context.now.workspace.now) c.operation-item.result
    (Unit {0}) c.operations-test.true c.operation-item.is c.operations.invariant c.carry_out.new.stack (staged_in c.carry_out.new.staged c.args.context.now.workspace.now) c.in-Err.stop c.in-Err.ensures

pub returns : goal.returns
returns g c =
    at_end c.args.operations.now c.args.context.now.workspace.now c.operations.operation-index c.operations.stack (staged_in c.operations.staged c.args.context.now.workspace.now)
    c.operations-test.false c.operations.invariant

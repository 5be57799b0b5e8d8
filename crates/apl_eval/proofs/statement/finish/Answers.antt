use Rattle.std.proofs.Common.{rules, ◌≡◌, Err}
use Rattle.apl_eval.specs.declared.statement.EvalStop.TheVariants.{Error}
use Rattle.apl_eval.specs.Steps.{steps, staged_in}
use Rattle.apl_eval.proofs.StepLemmas.{leaves_value, means, ends_with, went_on, ended_with}
use Rattle.apl_eval.proofs.statement.finish.Goals as goal

pub pop_value-value-requires : goal.pop_value-value-requires
pop_value-value-requires c =
    let w = c.args.workspace.now in
    let is = went_on (steps c.args.program.now _ w) c.args.stack (staged_in c.args.staged w) c.args.carried _ c.in-Ok.is c.requires in
    leaves_value c.args.program.now w c.operations-of_a_tree.ensures.of_a_tree c.args.stack (staged_in c.args.staged w) is

pub returns-in_ok-keep-in-Ok : goal.returns-in_ok-keep-in-Ok
returns-in_ok-keep-in-Ok c = λ tree program.
    let w = c.args.workspace.now in
    let after = staged_in c.args.staged w in
    let value = c.pop_value-value.result.value in
    let is = went_on (steps c.args.program.now _ w) c.args.stack after c.args.carried _ c.in-Ok.is c.requires in
    let meaning = means c.args.program.now w tree program c.args.stack after is value c.pop_value-value.new.self c.pop_value-value.ensures in
    let kept : c.keep.new.self ≡ after = c.in_ok-keep-in-Ok.ensures.ok in
    let shown = rw (c.deref.ensures, c.width.ensures.width) at (c.in_ok-shown-in-Ok.ensures tree program) in
    rw kept (value, meaning, shown)

pub returns-in_ok-keep-in-Err-Error : goal.returns-in_ok-keep-in-Err-Error
returns-in_ok-keep-in-Err-Error c = λ tree program.
    let w = c.args.workspace.now in
    let after = staged_in c.args.staged w in
    let is : c.args.carried ≡ Err (Error c.in-Err-Error.report c.in-Err-Error.column) = search rules in
    let ended = ended_with (steps c.args.program.now _ w) c.args.stack after c.args.carried c.in-Err-Error.report c.in-Err-Error.column is c.requires in
    let kept : c.keep-in-Err-Error.new.self ≡ after = c.in_ok-keep-in-Err-Error.ensures.ok in
    rw kept (ends_with c.args.program.now w tree program c.in-Err-Error.report c.in-Err-Error.column after ended)

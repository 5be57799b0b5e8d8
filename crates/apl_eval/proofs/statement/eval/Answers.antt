use Rattle.std.proofs.Common.{rules, ◌≡◌, ◌++◌, [], Err, option_copied, sym, ◌∙◌, ap, subst}
use Rattle.apl_eval.specs.Steps.{steps, last_assign_at, staged_in, IsState}
use Rattle.apl_eval.proofs.Endings.{is_assignment_at_end}
use Rattle.apl_eval.proofs.StackLemmas.{assign_at_above}
use Rattle.apl_eval.proofs.StepLemmas.{before_last, before_last_alone, went_on, stopped_with, front_possible, front_stops, nothing_after, leaves_value, means, stops_so}
use Rattle.apl_eval.proofs.statement.eval.Goals as goal
use Rattle.apl_eval.proofs.statement.eval.Goals.{in-Ok-Some-2, in-Ok-None, in-Err-default}

pub carry_out_all-carried-requires-clause-possible : goal.carry_out_all-carried-requires-clause-possible
carry_out_all-carried-requires-clause-possible g c κs within =
    let divided = c.without_last_assign_at in
    front_possible divided.result.0.now (option_copied divided.result.1) c.args.workspace.now c.args.program.now divided.ensures.of_a_tree divided.ensures.all

pub assign_at_in_workspace-requires-after_bounds : goal.assign_at_in_workspace-requires-after_bounds
assign_at_in_workspace-requires-after_bounds g c κs within =
    let divided = c.without_last_assign_at in
    let carried = c.carry_out_all-carried in
    let last = before_last carried.result divided.ensures.all (ap option_copied c.in-Ok-Some.is-1) c.in-Ok-Some.is-0 carried.ensures in
    assign_at_above (staged_in carried.new.staged c.args.workspace.now) c.in-Ok-Some.target.now carried.new.stack (last.is_possible divided.ensures.of_a_tree)

pub returns-in_err-assign_at_in_workspace-in-Ok-Some : goal.returns-in_err-assign_at_in_workspace-in-Ok-Some
returns-in_err-assign_at_in_workspace-in-Ok-Some g c = λ tree program.
    let carried = c.carry_out_all-carried in
    let last = before_last_alone carried.result (c.is_empty.ensures c.if-is_empty.true) c.without_last_assign_at.ensures.all (ap option_copied c.in-Ok-Some.is-1) c.in-Ok-Some.is-0 carried.ensures in
    let refused = c.in_err-assign_at_in_workspace-in-Ok-Some in
    let is : c.from_residual.result ≡ Err refused.field-0.0 = search rules in
    rw is (stops_so (Unit {0}) c.args.program.now c.args.workspace.now tree program c.assign_at_in_workspace.new.stack c.assign_at_in_workspace.new.workspace refused.field-0.0
    refused.ensures.unchanged (subst (λ state. IsState {T = Unit {0}} state c.assign_at_in_workspace.new.stack c.assign_at_in_workspace.new.workspace (Err refused.field-0.0)) (sym last.whole) refused.ensures.state))

pub pop_value-requires : goal.pop_value-requires
pop_value-requires g c =
    let divided = c.without_last_assign_at in
    let carried = c.carry_out_all-carried in
    let last = before_last_alone carried.result (c.is_empty.ensures c.if-is_empty.true) divided.ensures.all (ap option_copied c.in-Ok-Some.is-1) c.in-Ok-Some.is-0 carried.ensures in
    leaves_value c.args.program.now c.args.workspace.now divided.ensures.of_a_tree c.assign_at_in_workspace.new.stack c.assign_at_in_workspace.new.workspace
    (last.whole ∙ c.in_ok-assign_at_in_workspace-in-Ok-Some.ensures.state)

pub returns-in-Ok-Some : goal.returns-in-Ok-Some
returns-in-Ok-Some g c = λ tree program.
    let carried = c.carry_out_all-carried in
    let last = before_last_alone carried.result (c.is_empty.ensures c.if-is_empty.true) c.without_last_assign_at.ensures.all (ap option_copied c.in-Ok-Some.is-1) c.in-Ok-Some.is-0 carried.ensures in
    let value = c.pop_value.result.value in
    let meaning =
    means c.args.program.now c.args.workspace.now tree program c.assign_at_in_workspace.new.stack c.assign_at_in_workspace.new.workspace
    (last.whole ∙ c.in_ok-assign_at_in_workspace-in-Ok-Some.ensures.state) value c.pop_value.new.self c.pop_value.ensures in
    (value, meaning, is_assignment_at_end tree c.args.program.now c.without_last_assign_at.result.0.now c.in-Ok-Some.target.now program last.split)

pub apply_assign_at-carried-requires-after_bounds : goal.apply_assign_at-carried-requires-after_bounds
apply_assign_at-carried-requires-after_bounds g c κs within =
    let divided = c.without_last_assign_at in
    let carried = c.carry_out_all-carried in
    let last = before_last carried.result divided.ensures.all (ap option_copied c.in-Ok-Some.is-1) c.in-Ok-Some.is-0 carried.ensures in
    assign_at_above (staged_in carried.new.staged c.args.workspace.now) c.in-Ok-Some.target.now carried.new.stack (last.is_possible divided.ensures.of_a_tree)

pub finish-requires : goal.finish-requires
finish-requires g c =
    let divided = c.without_last_assign_at in
    let first = divided.result.0.now in
    let w = c.args.workspace.now in
    let carried = c.carry_out_all-carried in
    let after = staged_in carried.new.staged w in
    elim c.match-carried.branch [
      | in-Ok-Some-2 b ↦
          let before = before_last carried.result divided.ensures.all (ap option_copied b.in-Ok-Some.is-1) b.in-Ok-Some.is-0 carried.ensures in
          let last = b.apply_assign_at-carried in
          rw (b.staged-is, b.stack-is, b.carried-is) (subst (λ state. IsState state last.new.stack (staged_in last.new.staged w) last.result) (sym before.whole) last.ensures.state)
      | in-Ok-None b ↦
          let split = divided.ensures.all ∙ ap (λ t. first ++ last_assign_at (option_copied t)) b.in-Ok-None.is-1 in
          let came = went_on (steps first [] w) carried.new.stack after carried.result _ b.in-Ok-None.is-0 carried.ensures in
          rw (b.staged-is, b.stack-is, b.carried-is) (nothing_after first w c.args.program.now split ∙ came)
      | in-Err-default b ↦
          rw (b.staged-is, b.stack-is, b.carried-is) (front_stops first (option_copied divided.result.1) w (Unit {0}) c.args.program.now divided.ensures.all carried.new.stack after b.in-Err-default.stop
          (stopped_with (steps first [] w) carried.new.stack after carried.result b.in-Err-default.stop b.in-Err-default.is-0 carried.ensures))
    ]

use Rattle.std.proofs.Common.{◌≡◌, ◌+◌, ◌∷◌, ◌++◌, ℕ, length, map, sym, ◌∙◌, ap, Result, Err, Some}
use Rattle.std.specs.Prelude.{option_copied}
use Rattle.std.specs.FinMap.{get}
use Rattle.apl_array.specs.Array.{ArrayValue}
use Rattle.apl_print.specs.declared.reports.Report.{Report}
use Rattle.apl_eval.specs.Workspace.{assigned, value_of}
use Rattle.apl_eval.specs.Meaning.{assign_at_column, assign_at_outcome, assign_at_outcome_of}
use Rattle.apl_eval.specs.Steps.{onto, waiting, ended, staged_in, HasValue}
use Rattle.apl_eval.proofs.NameLemmas.{told, at_err}
use Rattle.apl_eval.proofs.StackLemmas.{below_slots, enough_slots, step-assign_at, staged_in-insert}
use Rattle.apl_eval.proofs.statement.apply_assign_at.Goals as goal

pub pop_slots-requires : goal.pop_slots-requires
pop_slots-requires g c = enough_slots HasValue (length c.args.target.now.semicolons + 1) c.args.stack.now c.requires

pub top_value-value-requires : goal.top_value-value-requires
top_value-value-requires g c =
    let slots = c.in_ok-slots.slots in
    let count : length slots ≡ length c.args.target.now.semicolons + 1 = c.in_ok-slots.ensures.count in
    below_slots HasValue (length c.args.target.now.semicolons + 1) c.args.stack.now slots c.pop_slots.new.self c.requires count c.in_ok-slots.ensures.items

pub returns-in-Ok-clause-state : goal.returns-in-Ok-clause-state
returns-in-Ok-clause-state g c =
    let workspace = c.args.context.now.workspace.now in
    let w = staged_in c.args.staged.now workspace in
    let shared = c.share_array.new.staged in
    let target = c.args.target.now in
    let slots = c.in_ok-slots.slots in
    let right = c.top_value-value.result.now.value in
    let below = c.top_value-value.ensures.0 in
    let count : length slots ≡ length target.semicolons + 1 = c.in_ok-slots.ensures.count in
    let stack : c.args.stack.now ≡ slots ++ Some right ∷ below = c.in_ok-slots.ensures.items ∙ ap (λ items. slots ++ items) c.top_value-value.ensures.1 in
    let is = step-assign_at w target slots right below c.args.stack.now count stack in
    let chosen : map option_copied c.as_slice.result.now ≡ slots = ap (map option_copied) c.as_slice.ensures.value ∙ c.in_ok-chosen.ensures in
    let had : get shared target.name ≡ value_of target.name w = rw c.as_str-name.ensures at c.in_ok-share_array.ensures.value in
    let done = rw (c.as_str-name.ensures, chosen, c.deref.ensures, had) at c.in-Ok.ensures.ok in
    let outcome = ap (λ (r : Result ArrayValue Report). onto below (assign_at_outcome_of r target.column target.name target.arrow right w)) done.1 in
    let now : assigned target.name done.0 w ≡ staged_in c.assign_at.new.self workspace =
    sym (ap (λ staged. staged_in staged workspace) done.2 ∙ staged_in-insert shared workspace target.name done.0 ∙ ap (assigned target.name done.0) c.share_array.ensures.same) in
    is ∙ outcome ∙ (λ i. waiting (sym c.top_value-value.ensures.1 i) (now i))

pub returns-in-Err-Error-clause-state : goal.returns-in-Err-Error-clause-state
returns-in-Err-Error-clause-state g c =
    let workspace = c.args.context.now.workspace.now in
    let w = staged_in c.args.staged.now workspace in
    let shared = c.share_array.new.staged in
    let target = c.args.target.now in
    let slots = c.in_ok-slots.slots in
    let right = c.top_value-value.result.now.value in
    let below = c.top_value-value.ensures.0 in
    let count : length slots ≡ length target.semicolons + 1 = c.in_ok-slots.ensures.count in
    let stack : c.args.stack.now ≡ slots ++ Some right ∷ below = c.in_ok-slots.ensures.items ∙ ap (λ items. slots ++ items) c.top_value-value.ensures.1 in
    let is = step-assign_at w target slots right below c.args.stack.now count stack in
    let chosen : map option_copied c.as_slice.result.now ≡ slots = ap (map option_copied) c.as_slice.ensures.value ∙ c.in_ok-chosen.ensures in
    let had : get shared target.name ≡ value_of target.name w = rw c.as_str-name.ensures at c.in_ok-share_array.ensures.value in
    let answers = rw (c.as_str-name.ensures, chosen, c.deref.ensures, had) at (told _ c.assign_at.result _ (c.in-Err-Error.is ∙ ap Err c.in-Err-Error.field-0-is) c.assign_at.ensures.err) in
    let outcome = ap (λ (r : Result ArrayValue Report). onto below (assign_at_outcome_of r target.column target.name target.arrow right w)) answers in
    let report = c.in-Err-Error.report in
    let shown : assign_at_column target.column target.arrow report ≡ c.assign_at_column.result =
    sym (c.assign_at_column.ensures ∙ ap (λ (r : Report). assign_at_column target.column target.arrow r) c.in-Err-Error.report-is) in
    let failed : onto below (assign_at_outcome target.column target.name target.arrow slots right w) ≡ ended report c.assign_at_column.result w =
    outcome ∙ ap (λ (column : ℕ). ended report column w) shown in
    let after : staged_in c.assign_at.new.self workspace ≡ w =
    ap (λ staged. staged_in staged workspace) (at_err c.assign_at.result _ c.in-Err-Error.is c.assign_at.ensures.unchanged) ∙ c.share_array.ensures.same in
    rw after (is ∙ failed ∙ ap (λ (r : Report). ended r c.assign_at_column.result w) (sym c.in-Err-Error.report-is))

pub returns-in-Err-Error-clause-unchanged : goal.returns-in-Err-Error-clause-unchanged
returns-in-Err-Error-clause-unchanged g c =
    ap (λ staged. staged_in staged c.args.context.now.workspace.now) (at_err c.assign_at.result _ c.in-Err-Error.is c.assign_at.ensures.unchanged) ∙ c.share_array.ensures.same

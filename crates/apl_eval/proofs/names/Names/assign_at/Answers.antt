use Rattle.std.proofs.Common.{rules, ◌≡◌, Option, Some, Err, map, option_copied, refl, sym, ap, ◌∙◌}
use Rattle.std.specs.FinMap.{get}
use Rattle.std.specs.HashMap.{get_by_text}
use Rattle.std.specs.Rc.{rc_with_value}
use Rattle.apl_array.specs.Array.{ArrayValue}
use Rattle.apl_eval.specs.Functions.{assign_at_result}
use Rattle.apl_eval.proofs.NameLemmas.{found_here, not_found, names_in-written, names_in-unwritten, on_ok, on_err, err_of}
use Rattle.apl_eval.proofs.names.Names.assign_at.Goals as goal

pub returns-in_default-clause-err : goal.returns-in_default-clause-err
unfolding assign_at_result
returns-in_default-clause-err g c = rw (← c.self.view_is, not_found c.self.inside.values c.args.name.now c.in_default.ensures.value) refl

pub returns-in-Some-get_mut-clause-ok : goal.returns-in-Some-get_mut-clause-ok
returns-in-Some-get_mut-clause-ok g c =
    let values = c.self.inside.values in
    let held = c.in-Some.held.now in
    let written = rc_with_value held c.assign_at.new.array in
    let found : Some held ≡ get_by_text values c.args.name.now = c.in-Some.ensures.value in
    let changed = names_in-written values (c.get_mut.follows.lender written) c.args.name.now held written found (c.get_mut.follows.holds written) in
    rw (← c.self.view_is, found_here values c.args.name.now held found)
    (on_ok c.assign_at.result (λ answer. (c.assign_at.new.array, rw c.in-Some-get_mut.ensures.value at answer, changed)) c.assign_at.ensures.ok)

pub returns-in-Some-get_mut-clause-err : goal.returns-in-Some-get_mut-clause-err
returns-in-Some-get_mut-clause-err g c =
    let held = c.in-Some.held.now in
    let found : Some held ≡ get_by_text c.self.inside.values c.args.name.now = c.in-Some.ensures.value in
    let had : get c.args.self.now c.args.name.now ≡ Some held.value = ap (λ names. get names c.args.name.now) (sym c.self.view_is) ∙ found_here c.self.inside.values c.args.name.now held found in
    let same = ap (λ (array : Option ArrayValue). assign_at_result c.args.context.now.workspace.now.origin array (map option_copied c.args.slots.now) c.args.value.now)
    (ap Some c.in-Some-get_mut.ensures.value ∙ sym had) in
    err_of c.assign_at.result _ _ same c.assign_at.ensures.err

pub returns-in-Some-get_mut-clause-unchanged : goal.returns-in-Some-get_mut-clause-unchanged
returns-in-Some-get_mut-clause-unchanged g c =
    let values = c.self.inside.values in
    let held = c.in-Some.held.now in
    let written = rc_with_value held c.assign_at.new.array in
    let found : Some held ≡ get_by_text values c.args.name.now = c.in-Some.ensures.value in
    on_err c.assign_at.result
    (λ same. names_in-unwritten values (c.get_mut.follows.lender written) c.args.name.now held written found (same ∙ c.in-Some-get_mut.ensures.value) (c.get_mut.follows.holds written) ∙ c.self.view_is)
    c.assign_at.ensures.unchanged

pub returns-in_err-held-clause-err : goal.returns-in_err-held-clause-err
returns-in_err-held-clause-err g c =
    let held = c.in-Some.held.now in
    let found : Some held ≡ get_by_text c.self.inside.values c.args.name.now = c.in-Some.ensures.value in
    let had : get c.args.self.now c.args.name.now ≡ Some held.value = ap (λ names. get names c.args.name.now) (sym c.self.view_is) ∙ found_here c.self.inside.values c.args.name.now held found in
    let same = ap (λ (array : Option ArrayValue). assign_at_result c.args.context.now.workspace.now.origin array (map option_copied c.args.slots.now) c.args.value.now)
    (ap Some c.deref.ensures ∙ sym had) in
    let is : c.from_residual.result ≡ Err c.in_err-held.field-0.0 = search rules in
    rw is (err_of {X = Unit {0}} (Err c.in_err-held.field-0.0) _ _ same c.in_err-held.ensures.err)

pub returns-in_err-held-clause-unchanged : goal.returns-in_err-held-clause-unchanged
returns-in_err-held-clause-unchanged g c =
    let held = c.in-Some.held.now in
    let is : c.from_residual.result ≡ Err c.in_err-held.field-0.0 = search rules in
    rw is (names_in-unwritten c.self.inside.values (c.get_mut.follows.lender held) c.args.name.now held held c.in-Some.ensures.value refl (c.get_mut.follows.holds held) ∙ c.self.view_is)

pub returns-clause-ok : goal.returns-clause-ok
returns-clause-ok g c =
    let values = c.self.inside.values in
    let held = c.in-Some.held.now in
    let changed = c.in_ok-held.field-0 in
    let found : Some held ≡ get_by_text values c.args.name.now = c.in-Some.ensures.value in
    let written = names_in-written values (c.get_mut.follows.lender changed) c.args.name.now held changed found (c.get_mut.follows.holds changed) in
    rw (← c.self.view_is, found_here values c.args.name.now held found) (changed.value, rw c.deref.ensures at c.in_ok-held.ensures.ok, written)

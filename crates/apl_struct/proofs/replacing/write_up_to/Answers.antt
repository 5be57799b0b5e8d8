use Rattle.std.proofs.Common.{◌≡◌, suc, ◌+◌, ◌<◌, length, sym, refl, rules, ap, ◌∙◌, arith}
use Rattle.std.specs.Prelude.{Some}
use Rattle.apl_walk.specs.Steps.{and_step}
use Rattle.apl_struct.specs.Numbering.{place_or_zero, last_number, value_numbered}
use Rattle.apl_struct.proofs.Replacement.{value_more}
use Rattle.apl_struct.proofs.replacing.write_up_to.Goals as goal

pub loop-i-init : goal.loop-i-init
loop-i-init g c = record { values = λ choice elements steps before. before; len = refl }

pub loop-i-preserved : goal.loop-i-preserved
loop-i-preserved g c = record {
  values = λ choice elements steps before p inside.
      let i = c.loop-i.i in
      let n = c.args.line.from + i in
      let base = c.args.line.base in
      let room = c.loop-i.room in
      let values = c.args.values.now in
      let fill = c.args.fill in
      let map_step = g.M.AxisMap.step c.args.last in
      let len : length room ≡ length c.args.room.now = c.loop-i.invariant.len in
      let here : i < g.M.AxisMap.extent c.args.last = omega (arith, c.loop-i-test.true, c.requires.end) in
      let step : map_step i ≡ Some c.in-Some.taken = sym c.step.ensures.value ∙ c.in-Some.is in
      let place : c.in-Some.taken + base ≡ choice n = ap (λ s. place_or_zero (and_step s (Some base))) (sym step) ∙ steps i here in
      let within = rw step at (c.requires.within i here) in
      let below : c.in-Some.taken + base < length room = omega (arith, within, len) in
      let next : suc n ≡ c.args.line.from + (i + 1) = omega arith in
      value_more elements values room fill c.element_or-value.result choice c.args.line.step n (c.in-Some.taken + base) below place c.element_or-value.ensures
      (λ q low. c.loop-i.invariant.values choice elements steps before q (omega (arith, low, len))) p (omega (arith, inside, len))
      ∙ ap (λ m. value_numbered elements values fill (last_number choice c.args.line.step p m) p) next;
  len = search rules;
}

pub returns-clause-values : goal.returns-clause-values
returns-clause-values g c = λ choice elements steps before p inside.
    let all : c.args.line.from + c.loop-i.i ≡ c.args.line.from + c.args.end = omega arith in
    c.loop-i.invariant.values choice elements steps before p inside
    ∙ ap (λ m. value_numbered elements c.args.values.now c.args.fill (last_number choice c.args.line.step p m) p) all

use Rattle.std.proofs.Common.{◌≡◌, ℕ, ◌+◌, ◌*◌, ◌/◌, length, refl, ap, ◌∙◌, arith}
use Rattle.apl_struct.specs.Numbering.{last_number, value_numbered}
use Rattle.apl_struct.proofs.replacing.write_along.Goals as goal

pub loop-turn-init : goal.loop-turn-init
loop-turn-init g c = record { values = λ choice elements steps before. before; len = refl }

pub write_up_to-requires-clause-within : goal.write_up_to-requires-clause-within
write_up_to-requires-clause-within g c = λ i inside. rw c.loop-turn.invariant.len (c.requires.within i inside)

pub write_up_to-requires-2-clause-within : goal.write_up_to-requires-2-clause-within
write_up_to-requires-2-clause-within g c = λ i inside. rw c.loop-turn.invariant.len (c.requires.within i inside)

pub loop-turn-preserved : goal.loop-turn-preserved
loop-turn-preserved g c = record {
  values = λ choice elements steps before p inside.
      let len : length c.loop-turn.room ≡ length c.args.room.now = c.loop-turn.invariant.len in
      let next : c.args.line.from + (c.loop-turn.turn * 4 + 4) ≡ c.args.line.from + (c.loop-turn.turn + 1) * 4 = omega arith in
      c.write_up_to.ensures.values choice elements steps (λ q low. c.loop-turn.invariant.values choice elements steps before q (omega (arith, low, len))) p (omega (arith, inside, len))
      ∙ ap (λ m. value_numbered elements c.args.values.now c.args.fill (last_number choice c.args.line.step p m) p) next;
  len = omega (arith, c.write_up_to.ensures.len, c.loop-turn.invariant.len);
}

pub returns-clause-values : goal.returns-clause-values
returns-clause-values g c = λ choice elements steps before p inside.
    let value : ℕ → ℕ → g.row.T.Denot = λ q m. value_numbered elements c.args.values.now c.args.fill (last_number choice c.args.line.step q m) q in
    let len : length c.loop-turn.room ≡ length c.args.room.now = c.loop-turn.invariant.len in
    let none : c.args.line.from ≡ c.args.line.from + 0 = omega arith in
    let done : c.args.line.from + c.loop-turn.turn * 4 ≡ c.args.line.from + c.extent-extent.result / 4 * 4 = omega arith in
    let all : c.args.line.from + c.extent-extent.result ≡ c.args.line.from + g.M.AxisMap.extent c.args.last = omega arith in
    c.write_up_to-2.ensures.values choice elements steps
    (λ q low. c.loop-turn.invariant.values choice elements steps (λ r few. before r few ∙ ap (value r) none) q (omega (arith, low, len)) ∙ ap (value q) done)
    p (omega (arith, inside, len))
    ∙ ap (value p) all

use Rattle.std.proofs.Common.{◌≡◌, ◌+◌, ◌-◌, ◌<◌, length, ℤ, Ok, FitsSigned, to_z, of_z, w64, sym, ap, ◌∙◌, rules, arith}
use Rattle.std.proofs.lemmas.Int.{to_z-of_z}
use Rattle.std.proofs.lemmas.Nat.{le_or_l, le_or_r}
use Rattle.apl_scalar.specs.Scalar.{dyadic_numbers}
use Rattle.apl_reduce.proofs.Folds.{one_step_less}
use Rattle.apl_reduce.proofs.Onto.{one_number_onto}
use Rattle.apl_reduce.proofs.folded_rows.judged_onto.Goals as goal

pub loop-done-preserved : goal.loop-done-preserved
loop-done-preserved g c =
    let numbers = c.args.numbers.now in
    let count = c.args.count in
    let done = c.loop-done._done in
    let kept = c.loop-done.invariant in
    let left : count - done ≡ count - (done + 1) + 1 = omega (arith, c.loop-done-test.true) in
    let here = c.loop-done.place - c.args.stride in
    let place = one_step_less c.args.first (count - done) (count - (done + 1)) c.args.stride c.loop-done.place left kept.place in
    let inside : here < length numbers = search rules in
    let x = c.number.result in
    let fits : FitsSigned w64 x = search rules in
    let next = c.likely-next.result in
    let stored : to_z w64 (of_z w64 next.0) ≡ next.0 = search rules in
    let total = to_z w64 c.loop-done.total-bits in
    record {
      place = place;
      total = λ none.
          let before_none : c.loop-done.all_doubts ≡ 0 = omega (arith, none, le_or_l c.loop-done.all_doubts next.1) in
          let own_none : next.1 ≡ 0 = omega (arith, none, le_or_r c.loop-done.all_doubts next.1) in
          ap (λ (z : ℤ). Ok z) stored
          ∙ sym (c.likely-next.ensures own_none)
          ∙ ap (λ z. dyadic_numbers g.F.Function.FUNCTION z total) (to_z-of_z w64 x fits)
          ∙ one_number_onto g.T.ElementType.elem_of g.T.Numeric.number_in g.met.T.Numeric.is_number g.F.Function.FUNCTION numbers c.args.first c.args.stride count done here _ x total _
          c.loop-done-test.true place inside c.index-numbers-place.is c.number.ensures (kept.total before_none);
    }

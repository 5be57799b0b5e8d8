use Rattle.std.proofs.Common.{◌≡◌, suc, ◌+◌, ◌-◌, map, ℤ, Result, Ok, to_z, of_z, w64, sym, ap, ◌∙◌, rules, arith}
use Rattle.apl_pool.specs.declared.kernel.Fault.{Fault}
use Rattle.apl_reduce.specs.Folded.{folded_onto, element_along}
use Rattle.apl_reduce.proofs.Folds.{reached, one_onto, one_step_less, fault_stays}
use Rattle.apl_reduce.proofs.folding.fold_items.Goals as goal

pub returns-in-Err : goal.returns-in-Err
returns-in-Err g c =
    let elements = map g.T.ElementType.elem_of c.args.elements.now in
    let first = c.args.first in
    let stride = c.args.stride in
    let m = c.loop-done._done in
    let start : Result ℤ Fault = Ok (to_z w64 (of_z w64 c.args.total)) in
    let read : to_z w64 (of_z w64 c.args.total) ≡ c.args.total = search rules in
    let kept = c.loop-done.invariant in
    let done : m + 1 ≡ suc m = omega arith in
    let k = c.args.count - (m + 1) in
    let next : c.args.count - m ≡ k + 1 = omega (arith, c.loop-done-test.true) in
    let place = one_step_less first (c.args.count - m) k stride c.loop-done.place next kept.place in
    let item = element_along elements first stride in
    let faulty = c.in-Err.ensures
    ∙ one_onto g.F.Function.FUNCTION item k (c.args.count - m) m (m + 1) _ (Ok (to_z w64 c.loop-done.total-bits)) start (omega (arith, next)) done (c.element_at.ensures ∙ reached elements first stride k _ place) kept.total in
    let here : 0 + k ≡ k = omega arith in
    sym (fault_stays g.F.Function.FUNCTION item c.in-Err.fault 0 k (m + 1) c.args.count start (omega (arith, c.loop-done-test.true))
    (ap (λ i. folded_onto g.F.Function.FUNCTION item i (m + 1) start) here ∙ sym faulty))
    ∙ ap (λ z. folded_onto g.F.Function.FUNCTION item 0 c.args.count (Ok z)) read

pub loop-done-preserved : goal.loop-done-preserved
loop-done-preserved g c =
    let elements = map g.T.ElementType.elem_of c.args.elements.now in
    let first = c.args.first in
    let stride = c.args.stride in
    let m = c.loop-done._done in
    let kept = c.loop-done.invariant in
    let done : m + 1 ≡ suc m = omega arith in
    let k = c.args.count - (m + 1) in
    let next : c.args.count - m ≡ k + 1 = omega (arith, c.loop-done-test.true) in
    let place = one_step_less first (c.args.count - m) k stride c.loop-done.place next kept.place in
    let stored : to_z w64 (of_z w64 c.in-Ok.number) ≡ c.in-Ok.number = search rules in
    record {
      place = place;
      total = ap (λ (z : ℤ). Ok z) stored ∙ c.in-Ok.ensures
          ∙ one_onto g.F.Function.FUNCTION (element_along elements first stride) k (c.args.count - m) m (m + 1) _ (Ok (to_z w64 c.loop-done.total-bits)) (Ok (to_z w64 (of_z w64 c.args.total))) (omega (arith, next)) done (c.element_at.ensures ∙ reached elements first stride k _ place) kept.total;
    }

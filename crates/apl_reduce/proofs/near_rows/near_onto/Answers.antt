use Rattle.std.proofs.Common.{◌≡◌, ◌+◌, ◌-◌, ◌*◌, ◌^◌, ◌<◌, ◌≤◌, length, ℤ, Ok, FitsSigned, to_z, of_z, w64, sym, ap, subst, ◌∙◌, rules, arith}
use Rattle.std.specs.Prelude.{unsigned_abs}
use Rattle.std.proofs.lemmas.Int.{to_z-of_z}
use Rattle.apl_array.specs.declared.array.Elem.TheVariants.{Int}
use Rattle.apl_scalar.specs.Scalar.{dyadic_of}
use Rattle.apl_reduce.proofs.Folds.{one_step_less}
use Rattle.apl_reduce.proofs.NearSums.{both_low}
use Rattle.apl_reduce.proofs.Onto.{one_number_onto}
use Rattle.apl_reduce.proofs.near_rows.near_onto.Goals as goal

pub loop-done-preserved : goal.loop-done-preserved
loop-done-preserved g c =
    let numbers = c.args.numbers.now in
    let count = c.args.count in
    let done = c.loop-done._done in
    let kept = c.loop-done.invariant in
    let left : count - done ≡ count - (done + 1) + 1 = omega (arith, c.loop-done-test.true) in
    let here = c.loop-done.place - c.args.stride in
    let place = one_step_less c.args.first (count - done) (count - (done + 1)) c.args.stride c.loop-done.place left kept.place in
    let inside : here < length numbers = search rules in
    let x = c.number.result in
    let fits : FitsSigned w64 x = search rules in
    let next = c.near_step-next.result in
    let stored : to_z w64 (of_z w64 next.0) ≡ next.0 = search rules in
    let sum = to_z w64 c.loop-done.sum-bits in
    record {
      place = place;
      sum = λ low near.
          let both = both_low (2 ^ 47) c.loop-done.bits next.1 low in
          let before = kept.sum both.0 near in
          let few : unsigned_abs sum + 2 ^ 46 < 2 ^ 63 = omega (arith, before.1, c.loop-done-test.true, c.requires.few) in
          let step = c.near_step-next.ensures both.1 few in (
            ap (λ (z : ℤ). Ok z) stored
                ∙ sym step.0
                ∙ ap (λ z. dyadic_of g.F.Function.FUNCTION (Int z) (Int sum)) (to_z-of_z w64 x fits)
                ∙ one_number_onto g.T.ElementType.elem_of g.T.Numeric.number_in g.met.T.Numeric.is_number g.F.Function.FUNCTION numbers c.args.first c.args.stride count done here _ x sum _
                c.loop-done-test.true place inside c.index-numbers-place.is c.number.ensures before.0,
            subst (λ z. unsigned_abs z ≤ 2 ^ 62 + (done + 1) * 2 ^ 46) (sym stored) (omega (arith, step.1, before.1)),
          );
    }

use Rattle.std.proofs.Common.{◌≡◌, suc, ℤ, pos, ◌+◌, ◌-◌, ◌*◌, ◌<◌, Ok, slice_index_or, to_z, of_z, w64, refl, ap, sym, ◌∙◌, rules, arith}
use Rattle.std.proofs.lemmas.Result.{err_from_is_err_and}
use Rattle.apl_scalar.specs.Scalar.{dyadic_numbers}
use Rattle.apl_scan.specs.Lines.{number_along}
use Rattle.apl_scan.proofs.Folds.{one_step_less, reached, one_more, fault_stays}
use Rattle.apl_scan.proofs.lines.fold_up_to.Goals as goal

pub returns-in_err-total : goal.returns-in_err-total
returns-in_err-total g c =
    let place = c.args.place in
    let stride = c.args.stride in
    let before = c.args.before in
    let done = c.loop-done._done in
    let kept = c.loop-done.invariant in
    let step = dyadic_numbers g.F.Function.FUNCTION in
    let number = number_along c.args.numbers.now (place - before * stride) stride in
    let total : ℤ = to_z w64 c.loop-done.total-bits in
    let x : ℤ = slice_index_or c.args.numbers.now (c.loop-done.left - stride) (pos 0) in
    let more : done < before = c.loop-done-test.true in
    let left = one_step_less place stride before done c.loop-done.left c.requires.within more kept.left in
    let there = reached place stride before done (c.loop-done.left - stride) c.requires.within more left in
    let read : to_z w64 (of_z w64 x) ≡ x = search rules in
    let item = ap (λ p. slice_index_or c.args.numbers.now p (pos 0)) there in
    let faulty = one_more step number (before - (done + 1)) (before - done) done (suc done) x (Ok total) (omega (arith, more)) refl item kept.total in
    let applied = c.apply.ensures ∙ ap (λ y. step y total) read ∙ faulty in
    let p = err_from_is_err_and c.from_residual.result c.from_residual.ensures.1 in
    rw (p.1, p.2) (sym (fault_stays step number _ (before - (done + 1)) (suc done) before (omega (arith, more)) (sym applied ∙ c.in_err-total.was)))

pub loop-done-preserved : goal.loop-done-preserved
loop-done-preserved g c =
    let place = c.args.place in
    let stride = c.args.stride in
    let before = c.args.before in
    let done = c.loop-done._done in
    let kept = c.loop-done.invariant in
    let step = dyadic_numbers g.F.Function.FUNCTION in
    let number = number_along c.args.numbers.now (place - before * stride) stride in
    let total : ℤ = to_z w64 c.loop-done.total-bits in
    let x : ℤ = slice_index_or c.args.numbers.now (c.loop-done.left - stride) (pos 0) in
    let more : done < before = c.loop-done-test.true in
    let left = one_step_less place stride before done c.loop-done.left c.requires.within more kept.left in
    let there = reached place stride before done (c.loop-done.left - stride) c.requires.within more left in
    let read : to_z w64 (of_z w64 x) ≡ x = search rules in
    let item = ap (λ p. slice_index_or c.args.numbers.now p (pos 0)) there in
    let folded_more = one_more step number (before - (done + 1)) (before - done) done (done + 1) x (Ok total) (omega (arith, more)) (omega arith) item kept.total in
    let stored : to_z w64 (of_z w64 c.in_ok-total.total) ≡ c.in_ok-total.total = search rules in
    record {
      left = left;
      total = ap (λ (z : ℤ). Ok z) stored ∙ sym c.in_ok-total.was ∙ c.apply.ensures ∙ ap (λ y. step y total) read ∙ folded_more;
    }

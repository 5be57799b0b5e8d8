use Rattle.std.proofs.Common.{◌≡◌, ◌+◌, ◌-◌, ◌*◌, ◌/◌, ◌≤◌, to_z, of_z, w64, refl, sym, ◌∙◌, subst, rules, arith}
use Rattle.apl_summary.specs.Extremes.{extreme_of_two}
use Rattle.apl_summary.specs.ExtremeRuns.{IsExtremumFrom}
use Rattle.apl_summary.proofs.FourExtremes.{extremum_alone, extremum_with, moved, ending}
use Rattle.apl_summary.proofs.extremum.extremum_of_run.Goals as goal

pub loop-place-init : goal.loop-place-init
loop-place-init g c =
    let x = c.in_ok-item.item in
    let outcome = g.K.Kernel.outcome c.args.kernel.now in
    let kept : to_z w64 (of_z w64 x) ≡ x = search rules in
    let last : c.args.to - 1 + 1 ≡ c.args.to = omega arith in (
      subst (λ k. IsExtremumFrom c.args.is_least outcome (c.args.to - 1) c.args.to k) (sym kept)
          (ending c.args.is_least outcome (c.args.to - 1) _ _ x last (extremum_alone c.args.is_least outcome (c.args.to - 1) x c.in_ok-item.ensures.item c.in_ok-item.ensures.range)),
      omega arith,
      omega arith,
    )

pub loop-place-preserved : goal.loop-place-preserved
loop-place-preserved g c =
    let x = c.in_ok-item_at.field-0 in
    let outcome = g.K.Kernel.outcome c.args.kernel.now in
    let place = c.loop-place.place - 1 in
    let before = to_z w64 c.loop-place.item-bits in
    let read : to_z w64 (of_z w64 x) ≡ x = search rules in
    let kept : to_z w64 (of_z w64 c.extreme_of_two-item.result) ≡ c.extreme_of_two-item.result = search rules in
    let item : c.extreme_of_two-item.result ≡ extreme_of_two c.args.is_least x before = rw (c.extreme_of_two-item.ensures, read) refl in
    let next : c.loop-place.place ≡ place + 1 = omega arith in (
      subst (λ k. IsExtremumFrom c.args.is_least outcome place c.args.to k) (sym (kept ∙ item))
          (extremum_with c.args.is_least outcome place c.args.to x before (omega arith) c.in_ok-item_at.ensures.item c.in_ok-item_at.ensures.range (moved c.args.is_least outcome _ _ c.args.to before next c.loop-place.invariant.0)),
      omega arith,
      omega arith,
    )

pub returns-clause-summary : goal.returns-clause-summary
returns-clause-summary g c =
    let outcome = g.K.Kernel.outcome c.args.kernel.now in
    let start = c.args.from + (c.args.to - 1 - c.args.from) / 4 * 4 in
    let kept : to_z w64 (of_z w64 c.in_ok-item-2.item) ≡ c.in_ok-item-2.item = search rules in
    let first : c.loop-place.place ≡ start = omega (arith, c.loop-place-test.false, c.loop-place.invariant.1) in
    let inside : start ≤ c.args.to = omega (arith, first, c.loop-place.invariant.2) in
    let all = c.in_ok-item-2.ensures c.args.to inside (moved c.args.is_least outcome _ _ c.args.to _ first c.loop-place.invariant.0) in
    (subst (λ k. IsExtremumFrom c.args.is_least outcome c.args.from c.args.to k) (sym kept) all).0

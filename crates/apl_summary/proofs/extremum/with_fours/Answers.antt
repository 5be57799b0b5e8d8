use Rattle.std.proofs.Common.{◌≡◌, ◌+◌, ◌-◌, ◌*◌, to_z, of_z, w64, sym, subst, rules, arith}
use Rattle.apl_summary.specs.ExtremeRuns.{IsExtremumFrom}
use Rattle.apl_summary.proofs.FourExtremes.{moved}
use Rattle.apl_summary.proofs.extremum.with_fours.Goals as goal

pub loop-left-init : goal.loop-left-init
loop-left-init g c = (
  λ to inside p. p,
  omega arith,
)

pub loop-left-preserved : goal.loop-left-preserved
loop-left-preserved g c =
    let outcome = g.K.Kernel.outcome c.args.kernel.now in
    let start = c.args.from + (c.loop-left.left - 1) * 4 in
    let kept : to_z w64 (of_z w64 c.in_ok-item.item) ≡ c.in_ok-item.item = search rules in
    let next : c.args.from + c.loop-left.left * 4 ≡ start + 4 = omega (arith, c.loop-left-test.true) in (
      λ to inside p. subst (λ k. IsExtremumFrom c.args.is_least outcome start to k) (sym kept)
          (c.in_ok-item.ensures to (omega (arith, inside, c.loop-left.invariant.1, next)) (moved c.args.is_least outcome _ _ to _ next (c.loop-left.invariant.0 to inside p))),
      omega (arith, c.loop-left.invariant.1),
    )

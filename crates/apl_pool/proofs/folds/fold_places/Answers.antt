use Rattle.std.proofs.Common.{◌-◌, arith}
use Rattle.apl_pool.proofs.FoldedParts.{counted, folded_is}
use Rattle.apl_pool.proofs.folds.fold_places.Goals as goal

pub join_both-folded-requires : goal.join_both-folded-requires
join_both-folded-requires g c =
    let s = g.S.Summary in
    let run = folded_is s.step s.item_count s.outcome (g.K.Kernel.outcome c.args.kernel.now) _ _ _ _ c.in-Ok.is c.fold_run.ensures in
    let left = counted s.step s.item_count s.outcome (g.K.Kernel.outcome c.args.kernel.now) _ _ _ run in
    let right = counted s.step s.item_count s.outcome (g.K.Kernel.outcome c.args.kernel.now) _ _ _ c.loop-end.invariant.0 in
    omega (arith, left, right)

pub loop-end-preserved : goal.loop-end-preserved
loop-end-preserved g c =
    let s = g.S.Summary in
    let run = folded_is s.step s.item_count s.outcome (g.K.Kernel.outcome c.args.kernel.now) _ _ _ _ c.in-Ok.is c.fold_run.ensures in (
      c.join_both-folded.ensures (g.K.Kernel.outcome c.args.kernel.now) (c.loop-end.end - c.min.result) c.loop-end.end c.args.to run c.loop-end.invariant.0,
      omega (arith, c.min.ensures),
      omega (arith, c.min.ensures),
    )

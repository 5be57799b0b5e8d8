use Rattle.std.proofs.Common.{refl, arith}
use Rattle.std.proofs.lemmas.Result.{err_from_is_err_and}
use Rattle.apl_pool.proofs.FoldedParts.{counted, folded_is, stop_is, stop_behind}
use Rattle.apl_pool.proofs.folds.fold_all.Goals as goal

pub returns-in_err-fold_places : goal.returns-in_err-fold_places
returns-in_err-fold_places g c =
    let s = g.S.Summary in
    let p = err_from_is_err_and c.from_residual.result c.from_residual.ensures.1 in
    let stop = stop_is s.step s.item_count s.outcome (g.K.Kernel.outcome c.args.kernel.now) _ _ _ _ c.in_err-fold_places.was c.fold_places.ensures in
    rw (p.1, p.2) (stop_behind s.step s.item_count s.outcome (g.K.Kernel.outcome c.args.kernel.now) 0 c.loop-piece.piece.from _ _ _ c.loop-piece.folded _ (omega arith) refl (omega arith) c.loop-piece.invariant.0 stop)

pub join_both-folded-requires : goal.join_both-folded-requires
join_both-folded-requires g c =
    let s = g.S.Summary in
    let more = folded_is s.step s.item_count s.outcome (g.K.Kernel.outcome c.args.kernel.now) _ _ _ _ c.in_ok-fold_places.was c.fold_places.ensures in
    let left = counted s.step s.item_count s.outcome (g.K.Kernel.outcome c.args.kernel.now) _ _ _ c.loop-piece.invariant.0 in
    let right = counted s.step s.item_count s.outcome (g.K.Kernel.outcome c.args.kernel.now) _ _ _ more in
    omega (arith, left, right)

pub loop-piece-preserved : goal.loop-piece-preserved
loop-piece-preserved g c =
    let s = g.S.Summary in
    let more = folded_is s.step s.item_count s.outcome (g.K.Kernel.outcome c.args.kernel.now) _ _ _ _ c.in_ok-fold_places.was c.fold_places.ensures in (
      rw c.next_piece-piece.ensures.from (c.join_both-folded.ensures (g.K.Kernel.outcome c.args.kernel.now) 0 c.loop-piece.piece.from c.loop-piece.piece.to c.loop-piece.invariant.0 more),
      omega arith,
      c.next_piece-piece.ensures.some,
      c.next_piece-piece.ensures.order,
      c.next_piece-piece.ensures.within,
    )

use Rattle.std.proofs.Common.{◌+◌, sym, arith}
use Rattle.apl_pool.proofs.FoldedParts.{fold_one, counted, all_ok}
use Rattle.apl_pool.proofs.folds.fold_items.Goals as goal

pub join_both-folded-requires : goal.join_both-folded-requires
join_both-folded-requires g c =
    let s = g.S.Summary in
    let before = counted s.step s.item_count s.outcome (g.K.Kernel.outcome c.args.kernel.now) c.args.from c.loop-place.place c.loop-place.folded c.loop-place.invariant in
    omega (arith, before, c.one.ensures.count)

pub returns-in-Err : goal.returns-in-Err
returns-in-Err g c =
    let s = g.S.Summary in
    rw c.stop_at.ensures record {
      at_least = omega (arith, counted s.step s.item_count s.outcome (g.K.Kernel.outcome c.args.kernel.now) c.args.from c.loop-place.place c.loop-place.folded c.loop-place.invariant);
      below = omega arith;
      faulty = sym c.in-Err.ensures;
      earlier = all_ok s.step s.item_count s.outcome (g.K.Kernel.outcome c.args.kernel.now) c.args.from c.loop-place.place c.loop-place.folded c.loop-place.invariant;
    }

pub loop-place-preserved : goal.loop-place-preserved
loop-place-preserved g c =
    let s = g.S.Summary in
    let item = fold_one s.step s.item_count s.outcome (g.K.Kernel.outcome c.args.kernel.now) c.loop-place.place _ _ (sym c.in-Ok.ensures) c.one.ensures.count c.one.ensures.outcome c.one.ensures.range in
    c.join_both-folded.ensures (g.K.Kernel.outcome c.args.kernel.now) c.args.from c.loop-place.place (c.loop-place.place + 1) c.loop-place.invariant item

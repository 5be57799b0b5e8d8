use Rattle.apl_pool.proofs.FoldedParts.{fold_is, fold_both}
use Rattle.apl_pool.proofs.folds.join_both.Goals as goal

pub returns-in-Some-right : goal.returns-in-Some-right
returns-in-Some-right g c = λ outcome from mid to p q.
    let s = g.S.Summary in
    let a = fold_is s.step s.item_count s.outcome outcome from mid _ _ c.in-Some.is p in
    let b = fold_is s.step s.item_count s.outcome outcome mid to _ _ c.in-Some-right.is q in
    fold_both s.step s.item_count s.outcome outcome from mid to _ _ _ a b c.join.ensures.count c.join.ensures.outcome c.join.ensures.range

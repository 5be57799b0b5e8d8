use Rattle.apl_pool.specs.Folds.{IsFolded}
use Rattle.apl_pool.proofs.folds.fold_items.Given as goal

abbrev pub invariant-loop-place : goal.invariant-loop-place
invariant-loop-place g l = IsFolded g.S.Summary.step g.S.Summary.item_count g.S.Summary.outcome (g.K.Kernel.outcome l.kernel) l.fn.from l.place l.folded

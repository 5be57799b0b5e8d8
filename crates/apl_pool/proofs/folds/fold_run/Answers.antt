use Rattle.std.proofs.Common.{arith}
use Rattle.apl_pool.proofs.FoldedParts.{of_a_run}
use Rattle.apl_pool.proofs.folds.fold_run.Goals as goal

pub returns-in-Some : goal.returns-in-Some
returns-in-Some g c =
    let s = g.S.Summary in
    of_a_run s.step s.item_count s.outcome (g.K.Kernel.outcome c.args.kernel.now) c.args.from c.args.to c.in-Some.summary (omega arith) c.in-Some.ensures

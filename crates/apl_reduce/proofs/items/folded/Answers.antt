use Rattle.std.proofs.Common.{arith}
use Rattle.std.proofs.lemmas.Result.{err_from_is_err_and}
use Rattle.apl_reduce.proofs.JudgedItems.{last_fault_of_all, next_fault_of_all}
use Rattle.apl_reduce.proofs.items.folded.Goals as goal

pub returns-in_err-result : goal.returns-in_err-result
returns-in_err-result g c =
    let p = err_from_is_err_and c.from_residual.result c.from_residual.ensures.1 in
    rw (p.1, p.2) (last_fault_of_all (g.X.Items.outcome c.args.items.now) (g.F.Dyadic.function c.args.function) c.args.last _ _ c.at.ensures c.in_err-result.was)

pub returns-in_err-result-2 : goal.returns-in_err-result-2
returns-in_err-result-2 g c =
    let p = err_from_is_err_and c.from_residual-in_err-result-2.result c.from_residual-in_err-result-2.ensures.1 in
    rw (p.1, p.2)
    (next_fault_of_all (g.X.Items.outcome c.args.items.now) _ c.loop-k.k _ _ _ _ (omega arith) (omega arith) c.loop-k.invariant.value c.with_item.ensures c.in_err-result-2.was)

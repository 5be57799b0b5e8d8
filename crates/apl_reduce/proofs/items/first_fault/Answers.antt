use Rattle.std.proofs.Common.{◌<◌, arith}
use Rattle.apl_reduce.proofs.JudgedItems.{search_goes_on}
use Rattle.apl_reduce.proofs.items.first_fault.Goals as goal

pub loop-k-preserved : goal.loop-k-preserved
loop-k-preserved g c =
    let n = g.X.Items.item_count c.args.items.now in
    let below : c.loop-k.k < n = omega (arith, c.count-k-end.ensures) in
    search_goes_on (g.X.Items.outcome c.args.items.now) c.loop-k.k n _ _ _ below c.at.ensures c.in_default.is c.loop-k.invariant

use Rattle.std.proofs.Common.{◌≡◌, ◌-◌}
use Rattle.apl_reduce.specs.Items.{first_fault}
use Rattle.apl_reduce.proofs.items.first_fault.Given as goal

abbrev pub invariant-loop-k : goal.invariant-loop-k
invariant-loop-k g l =
    let n = g.X.Items.item_count l.items in
    let outcome = g.X.Items.outcome l.items in
    first_fault outcome l.k (n - l.k) ≡ first_fault outcome 0 n

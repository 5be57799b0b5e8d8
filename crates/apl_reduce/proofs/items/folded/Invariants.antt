use Rattle.std.proofs.Common.{◌≡◌, ◌-◌, ◌≤◌, Ok}
use Rattle.apl_reduce.specs.Items.{folded_from}
use Rattle.apl_reduce.proofs.items.folded.Given as goal

abbrev pub invariant-loop-k : goal.invariant-loop-k
invariant-loop-k g l = record {
  below : l.k ≤ l.last;
  value : folded_from (g.X.Items.outcome l.items) (g.F.Dyadic.function l.function) l.k (l.last - l.k) ≡ Ok l.result;
}

abbrev pub decreases-loop-k : goal.decreases-loop-k
decreases-loop-k g l = l.k

use Rattle.std.proofs.Common.{◌≡◌, ◌+◌, ◌-◌, ◌≤◌, Ok, map}
use Rattle.apl_reduce.specs.Folded.{folded_onto}
use Rattle.apl_reduce.specs.Items.{item_in}
use Rattle.apl_reduce.proofs.run_folds.fold_neighbours.Given as goal

abbrev pub invariant-loop-rest : goal.invariant-loop-rest
invariant-loop-rest g l = record {
  order : l.rest ≤ l.count;
  total : Ok l.total ≡ folded_onto g.F.Function.FUNCTION (item_in (map g.T.ElementType.elem_of l.numbers)) (l.first + l.rest) (l.count - l.rest) (Ok l.initial.total);
}

abbrev pub decreases-loop-rest : goal.decreases-loop-rest
decreases-loop-rest g l = l.rest

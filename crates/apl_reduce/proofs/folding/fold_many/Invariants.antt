use Rattle.std.proofs.Common.{◌≡◌, ◌+◌, ◌-◌, ◌≤◌, Ok, map}
use Rattle.apl_reduce.specs.Folded.{folded_onto, element_along}
use Rattle.apl_reduce.proofs.folding.fold_many.Given as goal

abbrev pub invariant-loop-rest : goal.invariant-loop-rest
invariant-loop-rest g l = record {
  order : l.rest ≤ l.count;
  total : Ok l.total ≡ folded_onto g.F.Function.FUNCTION (element_along (map g.T.ElementType.elem_of l.elements) l.first l.stride) (0 + l.rest) (l.count - l.rest) (Ok l.initial.total);
}

abbrev pub decreases-loop-rest : goal.decreases-loop-rest
decreases-loop-rest g l = l.rest

use Rattle.std.proofs.Common.{◌≡◌, ◌+◌, ◌-◌, ◌*◌, Ok, map}
use Rattle.apl_reduce.specs.Folded.{folded_onto, element_along}
use Rattle.apl_reduce.proofs.folded_rows.judged_onto.Given as goal

abbrev pub invariant-loop-done : goal.invariant-loop-done
invariant-loop-done g l = record {
  place : l.place ≡ l.first + (l.count - l._done) * l.stride;
  total : l.all_doubts ≡ 0 → Ok l.total ≡ folded_onto g.F.Function.FUNCTION (element_along (map g.T.ElementType.elem_of l.numbers) l.first l.stride) (l.count - l._done) l._done (Ok l.initial.total);
}

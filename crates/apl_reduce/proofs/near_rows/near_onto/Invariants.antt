use Rattle.std.proofs.Common.{◌≡◌, ◌+◌, ◌-◌, ◌*◌, ◌^◌, ◌<◌, ◌≤◌, Ok, map}
use Rattle.std.specs.Prelude.{unsigned_abs}
use Rattle.apl_reduce.specs.Folded.{folded_onto, element_along}
use Rattle.apl_reduce.proofs.near_rows.near_onto.Given as goal

abbrev pub invariant-loop-done : goal.invariant-loop-done
invariant-loop-done g l = record {
  place : l.place ≡ l.first + (l.count - l._done) * l.stride;
  sum : l.bits < 2 ^ 47 → unsigned_abs l.total ≤ 2 ^ 62
      → (Ok l.sum ≡ folded_onto g.F.Function.FUNCTION (element_along (map g.T.ElementType.elem_of l.numbers) l.first l.stride) (l.count - l._done) l._done (Ok l.total))
      × (unsigned_abs l.sum ≤ 2 ^ 62 + l._done * 2 ^ 46);
}

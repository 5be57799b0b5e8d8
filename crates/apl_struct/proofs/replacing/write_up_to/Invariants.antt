use Rattle.std.proofs.Common.{◌≡◌, length}
use Rattle.std.specs.Prelude.{Some}
use Rattle.apl_walk.specs.Steps.{and_step}
use Rattle.apl_struct.specs.Numbering.{place_or_zero, AreWrittenUpTo}
use Rattle.apl_struct.proofs.replacing.write_up_to.Given as goal

abbrev pub invariant-loop-i : goal.invariant-loop-i
invariant-loop-i g l = record {
  values : AreWrittenUpTo (λ i. place_or_zero (and_step (g.M.AxisMap.step l.last i) (Some l.line.base))) (g.M.AxisMap.extent l.last) l.line.from l.fn.first l.i l.line.step l.values l.fill l.initial.room l.room;
  len : length l.room ≡ length l.initial.room;
}

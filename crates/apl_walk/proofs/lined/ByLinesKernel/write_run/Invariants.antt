use Rattle.std.proofs.Common.{◌-◌, ◌≤◌}
use Rattle.apl_walk.specs.Columns.{HasColumns}
use Rattle.apl_walk.proofs.lined.ByLinesKernel.write_run.Given as goal

abbrev pub invariant-loop-first : goal.invariant-loop-first
invariant-loop-first g l = record {
  within : l.first ≤ l.extent;
  columns : HasColumns (g.L.Lined.value l.self.lines) (g.L.Lined.extent l.self.lines) l.from l.to l.first l.room;
}

abbrev pub decreases-loop-first : goal.decreases-loop-first
decreases-loop-first g l = l.extent - l.first

use Rattle.std.proofs.Common.{◌≡◌, ◌+◌, ◌-◌, ◌*◌, ◌<◌, ◌≤◌}
use Rattle.std.specs.Prelude.{min, max}
use Rattle.apl_walk.specs.Columns.{HasColumns}
use Rattle.apl_walk.proofs.lined.ByLines.write_columns.Given as goal

abbrev pub invariant-loop-place : goal.invariant-loop-place
invariant-loop-place g l = let extent = g.L.Lined.extent l.self.lines in record {
  there : l.place ≡ l.line * extent + l.index;
  few : l.line ≤ l.place + 1;
  low : l.from ≤ l.place;
  index : l.place ≤ max l.from (l.line * extent + l.first);
  inside : l.index < l.end;
  start : g.L.Lined.is_start l.self.lines l.line l.start;
  all : HasColumns (g.L.Lined.value l.self.lines) extent l.from l.to l.first l.room;
  several : HasColumns (g.L.Lined.value l.self.lines) extent l.from (min (l.line * extent) l.to) l.end l.room;
}

abbrev pub decreases-loop-place : goal.decreases-loop-place
decreases-loop-place g l = l.to - l.place

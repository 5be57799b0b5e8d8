use Rattle.std.proofs.Common.{◌*◌, ◌≤◌, length, map, vec_capacity}
use Rattle.apl_pool.specs.Pool.{AreValues}
use Rattle.apl_scan.specs.Lines.{scan_at}
use Rattle.apl_scan.proofs.summarized.put_lines.Given as goal

abbrev pub invariant-loop-line : goal.invariant-loop-line
invariant-loop-line g l = record {
  are : AreValues (scan_at g.S.Summary.step (map g.T.Numeric.number_in l.numbers) l.items 1) (l.line * l.items) l.values.items;
  room : length l.numbers ≤ vec_capacity l.values;
}

use Rattle.std.proofs.Common.{◌≡◌, length}
use Rattle.apl_scan.specs.TruthLines.{AreEnded}
use Rattle.apl_scan.proofs.truth_lines.join_lines.Given as goal

abbrev pub invariant-loop-line : goal.invariant-loop-line
invariant-loop-line g l = record {
  len : length l.room ≡ length l.truths;
  lines : AreEnded l.end l.truths l.items l.line l.room;
}

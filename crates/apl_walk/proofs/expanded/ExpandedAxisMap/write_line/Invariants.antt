use Rattle.std.proofs.Common.{◌≡◌, ◌+◌, ◌*◌}
use Rattle.apl_walk.specs.Ones.{expanded_value, ones_before}
use Rattle.apl_walk.specs.Steps.{BeginsWith}
use Rattle.apl_walk.proofs.expanded.ExpandedAxisMap.write_line.Given as goal

abbrev pub invariant-loop-group : goal.invariant-loop-group
invariant-loop-group g l = record {
  written : BeginsWith (λ k. expanded_value l.axis.counted.bits.now l.line l.axis.stride l.fill (l.from + k)) (l.group * 8) l.room;
  ones : l.ones ≡ ones_before l.axis.counted.bits.now (l.from + l.group * 8);
}

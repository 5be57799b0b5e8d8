use Rattle.std.proofs.Common.{◌≡◌, ◌+◌}
use Rattle.apl_walk.specs.Ones.{ones_before, HasNext}
use Rattle.apl_walk.proofs.expanded.Expanded.read_next.Given as goal

abbrev pub invariant-loop-k : goal.invariant-loop-k
invariant-loop-k g l = record {
  read : HasNext l.self.counted.bits.now l.line l.self.stride l.first l.k l.group;
  ones : l.ones ≡ ones_before l.self.counted.bits.now (l.first + l.k);
}

use Rattle.std.proofs.Common.{◌≡◌, ◌*◌}
use Rattle.apl_reduce.specs.Ones.{ones}
use Rattle.apl_reduce.proofs.ones.ones.Given as goal

abbrev pub invariant-loop-run : goal.invariant-loop-run
invariant-loop-run l = l.total ≡ ones l.truths l.first (l.run * 192)

use Rattle.std.proofs.Common.{◌≡◌, ◌<◌, ◌^◌}
use Rattle.apl_scalar.proofs.Counting.{choose}
use Rattle.apl_scalar.proofs.arithmetic.choices.Given as goal

abbrev pub invariant-loop-i : goal.invariant-loop-i
invariant-loop-i l = (l.count ≡ choose l.n l.i) × (l.count < 2 ^ 63)

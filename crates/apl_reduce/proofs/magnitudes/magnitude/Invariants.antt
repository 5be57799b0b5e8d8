use Rattle.std.proofs.Common.{◌≡◌, drop}
use Rattle.std.specs.Prelude.{max}
use Rattle.apl_reduce.specs.Magnitudes.{magnitude}
use Rattle.apl_reduce.proofs.magnitudes.magnitude.Given as goal

abbrev pub invariant-loop-number : goal.invariant-loop-number
invariant-loop-number l = max l.greatest (magnitude (drop l.number-index l.numbers)) ≡ magnitude l.numbers

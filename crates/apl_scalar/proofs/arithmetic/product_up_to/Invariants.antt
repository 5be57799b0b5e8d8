use Rattle.std.proofs.Common.{◌≡◌}
use Rattle.apl_scalar.specs.Arithmetic.{factorial}
use Rattle.apl_scalar.proofs.arithmetic.product_up_to.Given as goal

abbrev pub invariant-loop-k : goal.invariant-loop-k
invariant-loop-k l = l.product ≡ factorial l.k

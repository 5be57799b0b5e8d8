use Rattle.std.proofs.Common.{◌≡◌, ◌+◌, ◌*◌, arith, ap, ◌∙◌}
use Rattle.apl_scalar.specs.Arithmetic.{factorial}
use Rattle.apl_scalar.proofs.Counting.{factorial_next, factorial_within}
use Rattle.apl_scalar.proofs.arithmetic.product_up_to.Goals as goal

pub overflow_mul-product : goal.overflow_mul-product
overflow_mul-product c =
    let small = factorial_within (c.loop-k.k + 1) (omega arith) in
    let is : c.loop-k.product * (c.loop-k.k + 1) ≡ factorial (c.loop-k.k + 1) = ap (λ p. p * (c.loop-k.k + 1)) c.loop-k.invariant ∙ factorial_next c.loop-k.k in
    omega (arith, is, small)

pub loop-k-preserved : goal.loop-k-preserved
loop-k-preserved c = ap (λ p. p * (c.loop-k.k + 1)) c.loop-k.invariant ∙ factorial_next c.loop-k.k

pub returns-clause-small : goal.returns-clause-small
returns-clause-small c = omega (arith, c.loop-k.invariant, factorial_within c.loop-k.k (omega arith))

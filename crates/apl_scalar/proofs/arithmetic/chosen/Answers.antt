use Rattle.std.proofs.Common.{pos, ap, ◌∙◌, arith}
use Rattle.apl_scalar.specs.Scalar.{exact}
use Rattle.apl_scalar.proofs.Counting.{binomial-turned}
use Rattle.apl_scalar.proofs.arithmetic.chosen.Goals as goal

pub returns-else-x-rest : goal.returns-else-x-rest
returns-else-x-rest c = c.choices-else-x-rest.ensures ∙ ap (λ ways. exact (pos ways)) (binomial-turned c.args.y c.args.x (omega arith))

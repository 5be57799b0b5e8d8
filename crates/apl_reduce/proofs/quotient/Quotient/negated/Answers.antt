use Rattle.std.proofs.Common.{◌≡◌, not, pos, ◌+ℤ◌, ◌-ℤ◌, ◌<ℤ◌, FitsSigned, to_z, of_z, ap, ◌∙◌, arith}
use Rattle.std.specs.Int.{w128}
use Rattle.std.proofs.lemmas.Int.{ints, to_z-of_z}
use Rattle.apl_scalar.specs.Arithmetic.{floor_quotient}
use Rattle.apl_reduce.specs.Carrying.{signed}
use Rattle.apl_reduce.proofs.Dividing.{negated_quotient}
use Rattle.apl_reduce.proofs.quotient.Quotient.negated.Goals as goal

pub returns : goal.returns
returns c = λ b.
    let own = c.args.self in
    let a = own.added in
    let d = own.divisor in
    let fa : FitsSigned w128 a = search (arith, ints) in
    let fd : FitsSigned w128 d = search (arith, ints) in
    let above : pos 0 <ℤ d = omega (arith, ints) in
    let added : to_z w128 (of_z w128 (to_z w128 (of_z w128 (to_z w128 (of_z w128 d) -ℤ pos 1)) -ℤ to_z w128 (of_z w128 a))) ≡ d -ℤ pos 1 -ℤ a = omega (arith, ints) in
    ap (λ x. floor_quotient (signed (not own.is_negated) b +ℤ x) (to_z w128 (of_z w128 d))) added ∙ ap (floor_quotient (signed (not own.is_negated) b +ℤ (d -ℤ pos 1 -ℤ a))) (to_z-of_z w128 d fd) ∙ negated_quotient own.is_negated b a d above

use Rattle.std.proofs.Common.{◌≡◌, pos, neg_ℤ, ◌<ℤ◌, ◌≤ℤ◌, FitsSigned, to_z, w64, sym, ap, ◌∙◌, arith}
use Rattle.std.specs.Prelude.{unsigned_abs}
use Rattle.std.specs.Int.{w128}
use Rattle.std.proofs.lemmas.Int.{ints}
use Rattle.apl_scalar.specs.Arithmetic.{floor_quotient}
use Rattle.apl_reduce.specs.Carrying.{quotient_of}
use Rattle.apl_reduce.proofs.Dividing.{carried_negative, carried_natural}
use Rattle.apl_reduce.proofs.quotient.Quotient.with.Goals as goal

pub returns-then-radix-lt0 : goal.returns-then-radix-lt0
returns-then-radix-lt0 c = λ b inside.
    let radix = c.args.radix in
    let fits : FitsSigned w64 radix = c.ranges.radix in
    let below : radix <ℤ pos 0 = omega (arith, ints) in
    let size : to_z w128 c.unsigned_abs-size.result ≡ pos (unsigned_abs radix) = omega (arith, ints) in
    c.divided.ensures b inside ∙ ap (λ x. floor_quotient x (to_z w128 c.unsigned_abs-size.result)) (c.negated.ensures b)
    ∙ ap (floor_quotient (neg_ℤ (quotient_of c.args.self b))) size ∙ sym (carried_negative radix (quotient_of c.args.self b) below)

pub returns-else-radix-lt0 : goal.returns-else-radix-lt0
returns-else-radix-lt0 c = λ b inside.
    let radix = c.args.radix in
    let fits : FitsSigned w64 radix = c.ranges.radix in
    let natural : pos 0 ≤ℤ radix = omega (arith, ints) in
    let size : to_z w128 c.unsigned_abs-size.result ≡ pos (unsigned_abs radix) = omega (arith, ints) in
    c.divided-else-radix-lt0.ensures b inside ∙ ap (floor_quotient (quotient_of c.args.self b)) size
    ∙ sym (carried_natural radix (quotient_of c.args.self b) c.requires natural)

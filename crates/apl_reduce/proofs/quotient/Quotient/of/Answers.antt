use Rattle.std.proofs.Common.{◌≡◌, pos, ◌+ℤ◌, ◌<ℤ◌, FitsSigned, to_z, of_z, w64, sym, ap, ◌∙◌, arith}
use Rattle.std.specs.Int.{w128, int_div_euclid}
use Rattle.std.proofs.lemmas.Int.{ints, to_z-of_z}
use Rattle.apl_scalar.specs.Arithmetic.{floor_quotient}
use Rattle.apl_reduce.specs.Carrying.{signed}
use Rattle.apl_reduce.proofs.Casts.{within_128}
use Rattle.apl_reduce.proofs.Quotients.{floor_above}
use Rattle.apl_reduce.proofs.quotient.Quotient.of.Goals as goal

pub returns : goal.returns
returns c =
    let own = c.args.self in
    let a = own.added in
    let d = own.divisor in
    let s = c.signed.result in
    let result = c.div_euclid.result in
    let fs : FitsSigned w128 s = within_128 s c.signed.ensures.near in
    let fa : FitsSigned w128 a = search (arith, ints) in
    let fd : FitsSigned w128 d = search (arith, ints) in
    let above : pos 0 <ℤ d = omega (arith, ints) in
    let sum : to_z w128 (of_z w128 (to_z w128 (of_z w128 s) +ℤ to_z w128 (of_z w128 a))) ≡ s +ℤ a = omega (arith, ints) in
    let number : to_z w64 (of_z w64 c.args.number) ≡ c.args.number = to_z-of_z w64 c.args.number c.ranges.number in
    let is : result ≡ int_div_euclid (s +ℤ a) d = rw (sum, to_z-of_z w128 d fd) at c.div_euclid.ensures in
    let read : to_z w128 (of_z w128 result) ≡ result = omega (arith, ints) in
    read ∙ is ∙ sym (floor_above (s +ℤ a) d above) ∙ ap (λ x. floor_quotient (x +ℤ a) d) (c.signed.ensures.value ∙ ap (signed own.is_negated) number)

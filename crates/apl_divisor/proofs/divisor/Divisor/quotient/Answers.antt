use Rattle.std.proofs.Common.{◌≡◌, ◌*◌, ◌/◌, ◌^◌, ◌<◌, ◌∙◌, ap, mul-le-mul, arith}
use Rattle.std.proofs.Math.Nat.{div-le_self}
use Rattle.apl_divisor.proofs.Reciprocals.{quotient_by_reciprocal}
use Rattle.apl_divisor.proofs.divisor.Divisor.quotient.Goals as goal

pub returns : goal.returns
returns c =
    let by = c.self.inside.by in
    let same : by ≡ c.args.self.now = c.self.view_is in
    let few : c.args.place * by < 2 ^ 62 = omega (arith, mul-le-mul c.requires c.self.invariant.most) in
    let value =
    ap (λ m. c.args.place * m / 2 ^ 62) c.self.invariant.is
    ∙ quotient_by_reciprocal (2 ^ 62) c.args.place by c.self.invariant.some few
    ∙ ap (λ m. c.args.place / m) same in
    record { value = value; most = omega (arith, value, div-le_self c.args.place c.args.self.now); some = omega (arith, same, c.self.invariant.some) }

use Rattle.std.proofs.Common.{◌≡◌, pos, ◌∷◌, ◌*ℤ◌, ◌<ℤ◌, w64, FitsSigned, sym, subst, ◌∙◌, rules, arith}
use Rattle.std.proofs.lemmas.Int.{ints, to_z-of_z}
use Rattle.apl_reduce.specs.declared.carry_divisor.CarryDivisor.TheVariants.{Product}
use Rattle.apl_reduce.specs.Carrying.{StandsFor}
use Rattle.apl_reduce.proofs.Carries.{product_step}
use Rattle.apl_reduce.proofs.carry_divisor.CarryDivisor.with.Goals as goal

pub returns-in-Some : goal.returns-in-Some
returns-in-Some c = λ radices stands.
    let radix = c.args.radix in
    let product = c.in-Product.product in
    let longer = c.in-Some.longer in
    let fa : FitsSigned w64 radix = c.ranges.radix in
    let fp : FitsSigned w64 product = search rules in
    let above : pos 0 <ℤ radix = omega (arith, ints) in
    let before : StandsFor (Product product) radices = subst (λ x. StandsFor x radices) c.in-Product.is stands in
    let fits : FitsSigned w64 longer = search rules in
    let is : longer ≡ product *ℤ radix = rw (to_z-of_z w64 product fp, to_z-of_z w64 radix fa) at c.in-Some.ensures.1 in
    subst (λ z. StandsFor (Product z) (radix ∷ radices)) (sym (to_z-of_z w64 longer fits ∙ is)) (product_step product radix radices before above)

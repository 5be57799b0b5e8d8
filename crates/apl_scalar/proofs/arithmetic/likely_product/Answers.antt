use Rattle.std.proofs.Common.{◌≡◌, ◌*ℤ◌, Ok, to_z, of_z, w64, sym, ap, ◌∙◌, arith, rules}
use Rattle.std.proofs.lemmas.Int.{to_z-of_z}
use Rattle.std.proofs.lemmas.Nat.{le_or_l, le_or_r}
use Rattle.apl_scalar.specs.Scalar.{exact}
use Rattle.apl_scalar.proofs.arithmetic.likely_product.Goals as goal

pub returns : goal.returns
returns c = λ none.
    let left = c.above_least_half.result in
    let right = c.above_least_half-2.result in
    let x_is = to_z-of_z w64 c.args.x c.ranges.x in
    let y_is = to_z-of_z w64 c.args.y c.ranges.y in
    let product = c.half_product.result in
    let stored : to_z w64 (of_z w64 product) ≡ product = search rules in
    let exactly =
    c.half_product.ensures (c.above_least_half.ensures (omega (arith, none, le_or_l left right))) (c.above_least_half-2.ensures (omega (arith, none, le_or_r left right))) in
    ap (λ z. exact (z *ℤ c.args.y)) (sym x_is) ∙ ap (λ z. exact (to_z w64 (of_z w64 c.args.x) *ℤ z)) (sym y_is) ∙ exactly ∙ ap Ok (sym stored)

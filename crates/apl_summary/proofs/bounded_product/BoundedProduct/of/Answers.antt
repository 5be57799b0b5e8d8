use Rattle.std.proofs.Common.{◌≡◌, ℤ, ◌*ℤ◌, Ok, to_z, of_z, w64, sym, ap, ◌∙◌, rules, arith}
use Rattle.std.proofs.lemmas.Int.{ints}
use Rattle.std.specs.Int.{w128}
use Rattle.std.specs.Prelude.{unsigned_abs}
use Rattle.apl_summary.proofs.ScaledProducts.{total_held}
use Rattle.apl_summary.proofs.Fronts.{product_is_bounded}
use Rattle.apl_summary.proofs.bounded_product.BoundedProduct.of.Goals as goal

pub returns : goal.returns
returns c = λ right small.
    let all = c.args.coefficients.now in
    let said = c.in_ok-most.ensures in
    let state = c.in_ok-state.ensures in
    let held = total_held all c.requires in
    let kept : to_z w128 (of_z w128 all.total) ≡ all.total = omega (arith, ints, held.0, held.1) in
    let stored : to_z w64 (of_z w64 c.narrow-total.result) ≡ c.narrow-total.result = search rules in
    let total = state.all ∙ stored ∙ c.narrow-total.ensures ∙ kept in
    product_is_bounded all (unsigned_abs c.in_ok-state.state.after_zero) (omega (arith, said.least, state.most)) (omega (arith, said.greatest, state.most)) right small ∙ ap (λ (z : ℤ). Ok (z *ℤ right)) (sym total)

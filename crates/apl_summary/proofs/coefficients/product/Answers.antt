use Rattle.std.proofs.lemmas.Int.{to_z-of_z}
use Rattle.apl_summary.proofs.ScaledProducts.{product_fits}
use Rattle.apl_summary.proofs.coefficients.product.Goals as goal

pub returns : goal.returns
returns c =
    let a_fits = c.ranges.a in
    let b_fits = c.ranges.b in
    let fits = product_fits c.args.a c.args.b c.requires.0 c.requires.1 in
    simp to_z-of_z

use Rattle.std.proofs.lemmas.Int.{to_z-of_z}
use Rattle.apl_summary.proofs.SmallProducts.{factors_fit}
use Rattle.apl_summary.proofs.small_coefficients.product.Goals as goal

pub returns : goal.returns
returns c =
    let a_fits = c.ranges.a in
    let b_fits = c.ranges.b in
    let fits = factors_fit c.args.a c.args.b c.requires.0 c.requires.1 in
    simp to_z-of_z

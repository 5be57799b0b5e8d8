use Rattle.std.proofs.Common.{◌≡◌, ℤ, ◌*ℤ◌, sym, ap, ◌∙◌, subst, arith}
use Rattle.std.proofs.lemmas.Int.{ints}
use mir.Syntax.{w128}
use mir.Val.{to_z, of_z}
use Rattle.apl_pool.specs.Summaries.{IsI64}
use Rattle.apl_summary.proofs.ScaledProducts.{total_in, total_held}
use Rattle.apl_summary.proofs.coefficients.Coefficients.apply.Goals as goal

pub narrow-requires : goal.narrow-requires
narrow-requires c =
    let h = total_held c.args.self.now c.requires in
    let r : ℤ = to_z w128 (of_z w128 c.from-right.result) in
    let n : to_z w128 (of_z w128 c.product.result) ≡ c.product.result = omega (arith, ints) in
    let t : to_z w128 (of_z w128 c.args.self.now.total) ≡ c.args.self.now.total = omega (arith, ints, h.0, h.1) in
    subst IsI64 (sym (n ∙ c.product.ensures ∙ ap (λ (k : ℤ). k *ℤ r) t)) (total_in c.args.self.now r c.requires (sym c.keep_range.ensures ∙ c.if-keep_range.true))

use Rattle.std.proofs.Common.{◌≡◌, sym, ap, ◌∙◌, subst, arith}
use Rattle.std.proofs.lemmas.Int.{ints}
use mir.Syntax.{w64}
use mir.Val.{to_z, of_z}
use Rattle.apl_summary.specs.declared.coefficients.Coefficients.{Coefficients}
use Rattle.apl_summary.specs.Coefficients.{AreCoefficients, scaled_outcome, coefficients_of_one}
use Rattle.apl_summary.proofs.ScaledProducts.{one_is, one_are, scaled_in_range}
use Rattle.apl_summary.proofs.scaled.ScaledSummary.one.Goals as goal

pub invariant_of-result : goal.invariant_of-result
invariant_of-result c =
    let fits = c.ranges.item in
    let e : to_z w64 (of_z w64 c.args.item) ≡ c.args.item = omega (arith, ints) in
    record { lawful = subst AreCoefficients (sym (c.one.ensures ∙ ap coefficients_of_one e)) (one_are c.args.item (omega (arith, ints), omega (arith, ints))) }

pub returns-clause-outcome : goal.returns-clause-outcome
returns-clause-outcome c = λ right h.
    let e : to_z w64 (of_z w64 c.args.item) ≡ c.args.item = omega (arith, ints) in
    ap (λ (p : Coefficients). scaled_outcome p right) (c.one.ensures ∙ ap coefficients_of_one e) ∙ one_is c.args.item right

pub returns-clause-range : goal.returns-clause-range
returns-clause-range c = λ right z h o.
    let fits = c.ranges.item in
    let e : to_z w64 (of_z w64 c.args.item) ≡ c.args.item = omega (arith, ints) in
    scaled_in_range c.one.result right z (subst AreCoefficients (sym (c.one.ensures ∙ ap coefficients_of_one e)) (one_are c.args.item (omega (arith, ints), omega (arith, ints)))) h o

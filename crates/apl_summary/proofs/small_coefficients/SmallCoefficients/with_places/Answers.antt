use Rattle.std.proofs.Common.{◌≡◌, ◌+◌, ◌-◌, ◌≤◌, ℕ, to_z, of_z, w64, sym, ap, ◌∙◌, subst, rules, arith}
use Rattle.apl_array.specs.declared.function.ScalarFunction.TheVariants.{Times}
use Rattle.apl_pool.specs.Summaries.{IsSummaryFrom}
use Rattle.apl_scalar.specs.Scalar.{dyadic_numbers}
use Rattle.apl_summary.specs.declared.coefficients.Coefficients.{Coefficients}
use Rattle.apl_summary.specs.Coefficients.{coefficients_of_one, coefficients_of_both, scaled_outcome, AreCoefficients}
use Rattle.apl_summary.specs.SmallCoefficients.{widened}
use Rattle.apl_summary.proofs.ScaledProducts.{one_are, joined_are}
use Rattle.apl_summary.proofs.SmallRuns.{factor_in_range, coefficients_behind}
use Rattle.apl_summary.proofs.small_coefficients.SmallCoefficients.with_places.Goals as goal

pub loop-offset-preserved : goal.loop-offset-preserved
loop-offset-preserved g c =
    let x = c.in_ok-item.item in
    let outcome = g.K.Kernel.outcome c.args.kernel.now in
    let range = factor_in_range x c.in_ok-item.ensures.factor in
    let stored : to_z w64 (of_z w64 x) ≡ x = search rules in
    let before = widened c.loop-offset.coefficients in
    let value : widened c.behind-coefficients.result ≡ coefficients_of_both (coefficients_of_one x) before =
    c.behind-coefficients.ensures ∙ ap (λ z. coefficients_of_both (coefficients_of_one z) before) stored in
    let kept = c.loop-offset.invariant in
    let place = c.args.place - 1 - c.loop-offset.offset in
    let inside = c.loop-offset-test.true in
    let here : c.args.place - c.loop-offset.offset ≡ place + 1 = omega (arith, inside, c.requires.before) in
    let next : place ≡ c.args.place - (c.loop-offset.offset + 1) = omega arith in
    let most : 1 + before.count ≤ 1073741824 = omega (arith, inside, kept.count, c.requires.few) in
    let Products : ℕ → ℕ → Coefficients → Type 0 = λ from to s. IsSummaryFrom (dyadic_numbers Times) (λ (c : Coefficients). c.count) scaled_outcome outcome from to s in
    record {
      count = omega (arith, kept.count, ap (λ (s : Coefficients). s.count) value);
      lawful = subst AreCoefficients (sym value) (joined_are (coefficients_of_one x) before (one_are x range) kept.lawful most);
      summary = λ to order of.
          subst (λ n. Products n to (widened c.behind-coefficients.result)) next (subst (Products place to) (sym value)
          (coefficients_behind outcome place to x before (omega (arith, inside, order, c.requires.before)) c.in_ok-item.ensures.item range kept.lawful most (subst (λ n. Products n to before) here (kept.summary to order of))));
    }

pub returns-clause-summary : goal.returns-clause-summary
returns-clause-summary g c = λ to order of.
    let end : c.args.place - c.loop-offset.offset ≡ c.args.place - c.args.count = omega (arith, c.loop-offset-test.false, c.loop-offset.auto.offset-end) in
    subst (λ n. IsSummaryFrom (dyadic_numbers Times) (λ (c : Coefficients). c.count) scaled_outcome (g.K.Kernel.outcome c.args.kernel.now) n to (widened c.loop-offset.coefficients)) end (c.loop-offset.invariant.summary to order of)

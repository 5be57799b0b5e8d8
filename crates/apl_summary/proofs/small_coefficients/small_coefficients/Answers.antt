use Rattle.std.proofs.Common.{◌≡◌, ◌+◌, ◌-◌, ◌*◌, ◌%◌, ◌≤◌, ℕ, to_z, of_z, w64, sym, ap, ◌∙◌, subst, rules, arith}
use Rattle.std.proofs.lemmas.Option.{IfSome_then}
use Rattle.apl_array.specs.declared.function.ScalarFunction.TheVariants.{Times}
use Rattle.apl_pool.specs.Summaries.{IsSummaryFrom}
use Rattle.apl_scalar.specs.Scalar.{dyadic_numbers}
use Rattle.apl_summary.specs.declared.coefficients.Coefficients.{Coefficients}
use Rattle.apl_summary.specs.Coefficients.{coefficients_of_one, scaled_outcome, AreCoefficients}
use Rattle.apl_summary.specs.SmallCoefficients.{widened}
use Rattle.apl_summary.proofs.ScaledProducts.{one_are}
use Rattle.apl_summary.proofs.SmallRuns.{factor_in_range, last_coefficients}
use Rattle.apl_summary.proofs.small_coefficients.small_coefficients.Goals as goal

pub loop-turn-init : goal.loop-turn-init
loop-turn-init g c =
    let x = c.in_ok-factor_at.field-0 in
    let outcome = g.K.Kernel.outcome c.args.kernel.now in
    let range = factor_in_range x c.in_ok-factor_at.ensures.factor in
    let kept : to_z w64 (of_z w64 x) ≡ x = search rules in
    let value : widened c.one-coefficients.result ≡ coefficients_of_one x = c.one-coefficients.ensures ∙ ap coefficients_of_one kept in
    let place = c.args.to - 1 in
    let end : place + 1 ≡ c.args.to = omega arith in
    let none : place ≡ place - 0 * 4 = omega arith in
    let Products : ℕ → ℕ → Coefficients → Type 0 = λ from to s. IsSummaryFrom (dyadic_numbers Times) (λ (c : Coefficients). c.count) scaled_outcome outcome from to s in
    record {
      count = omega (arith, ap (λ (s : Coefficients). s.count) value);
      lawful = subst AreCoefficients (sym value) (one_are x range);
      summary = subst (λ n. Products n c.args.to (widened c.one-coefficients.result)) none
          (subst (λ s. Products place c.args.to s) (sym value) (subst (λ n. Products place n (coefficients_of_one x)) end (last_coefficients outcome place x c.in_ok-factor_at.ensures.item range)));
    }

pub loop-turn-preserved : goal.loop-turn-preserved
loop-turn-preserved g c =
    let kept = c.loop-turn.invariant in
    let said = c.in_ok-next.ensures in
    let place = c.args.to - 1 - c.loop-turn.turn * 4 in
    let next : place - 4 ≡ c.args.to - 1 - (c.loop-turn.turn + 1) * 4 = omega arith in
    record {
      count = omega (arith, said.count, kept.count);
      lawful = said.lawful;
      summary = subst (λ n. IsSummaryFrom (dyadic_numbers Times) (λ (c : Coefficients). c.count) scaled_outcome (g.K.Kernel.outcome c.args.kernel.now) n c.args.to (widened c.in_ok-next.next)) next
          (said.summary c.args.to (omega arith) kept.summary);
    }

pub returns-clause-summary : goal.returns-clause-summary
returns-clause-summary g c =
    let Products : ℕ → Coefficients → Type 0 = λ from s. IsSummaryFrom (dyadic_numbers Times) (λ (c : Coefficients). c.count) scaled_outcome (g.K.Kernel.outcome c.args.kernel.now) from c.args.to s in
    let rest = (c.args.to - 1 - c.args.from) % 4 in
    let start : c.args.to - 1 - c.loop-turn.turn * 4 ≡ c.args.from + rest = omega arith in
    let end : c.args.from + rest - rest ≡ c.args.from = omega arith in
    IfSome_then c.with_places-2.result c.with_places-2.ensures.summary
    (λ s p. subst (λ n. Products n (widened s)) end (p c.args.to (omega arith) (subst (λ n. Products n (widened c.loop-turn.coefficients)) start c.loop-turn.invariant.summary)))

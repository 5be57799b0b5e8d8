use Rattle.std.proofs.Common.{sym, subst}
use Rattle.apl_array.specs.declared.function.ScalarFunction.TheVariants.{Times}
use Rattle.apl_pool.specs.Summaries.{IsSummaryFrom}
use Rattle.apl_scalar.specs.Scalar.{dyadic_numbers}
use Rattle.apl_summary.specs.declared.coefficients.Coefficients.{Coefficients}
use Rattle.apl_summary.specs.Coefficients.{scaled_outcome}
use Rattle.apl_summary.proofs.scaled.ScaledSummary.of_run.Goals as goal

pub returns : goal.returns
returns g c =
    let P : Coefficients → Type 0 = λ s.
    IsSummaryFrom (dyadic_numbers Times) (λ (c : Coefficients). c.count) scaled_outcome (g.K.Kernel.outcome c.args.kernel.now) c.args.from c.args.to s in
    let p = subst P (sym c.widened.ensures) c.in_ok-small.ensures.summary in
    record { items = p.items; values = p.values; summary = record { number_of_items = p.summary.number_of_items; does = p.summary.does }; range = p.range }

use Rattle.std.proofs.Common.{nat_eq, sym, subst}
use Rattle.apl_pool.specs.Summaries.{IsSummaryFrom}
use Rattle.apl_scalar.specs.Scalar.{dyadic_numbers}
use Rattle.apl_summary.specs.declared.constants.Constants.{Constants}
use Rattle.apl_summary.specs.Constants.{signed_function, signed_outcome}
use Rattle.apl_summary.proofs.signed_sum.SignedSumSummary.of_run.Goals as goal

pub returns : goal.returns
returns g c =
    let P : Constants → Type 0 = λ s.
    IsSummaryFrom (dyadic_numbers (signed_function (nat_eq g.row.MINUS 0))) (λ (c : Constants). c.count) signed_outcome (g.K.Kernel.outcome c.args.kernel.now) c.args.from c.args.to s in
    let p = subst P (sym c.widened.ensures) c.in_ok-small.ensures.summary in
    record { items = p.items; values = p.values; summary = record { number_of_items = p.summary.number_of_items; does = p.summary.does }; range = p.range }

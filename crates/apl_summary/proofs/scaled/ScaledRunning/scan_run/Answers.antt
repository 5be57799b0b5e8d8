use Rattle.std.proofs.Common.{sym, ◌∙◌}
use Rattle.std.specs.Prelude.{unsigned_abs}
use Rattle.apl_summary.proofs.Fronts.{factor_in_range}
use Rattle.apl_summary.proofs.scaled.ScaledRunning.scan_run.Goals as goal

pub returns-in-Some-of-clause-folds : goal.returns-in-Some-of-clause-folds
returns-in-Some-of-clause-folds c = λ before is.
    let front = c.in-Some-of.front in
    let summary = rw c.in-Some.is at is in
    c.scan_run_after-in-Some-of.ensures.folds before (record {
      multiplies = λ right small. sym (summary.does right (factor_in_range right (unsigned_abs front.after_zero) front.some small)) ∙ c.in-Some-of.ensures right small;
    })

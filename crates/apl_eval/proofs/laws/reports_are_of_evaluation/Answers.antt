use Rattle.apl_eval.proofs.ReportLemmas.{report_of_evaluation}
use Rattle.apl_eval.proofs.laws.reports_are_of_evaluation.Goals as goal

pub returns : goal.returns
returns c = report_of_evaluation

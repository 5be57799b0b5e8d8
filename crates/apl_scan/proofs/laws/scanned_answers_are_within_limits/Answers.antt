use Rattle.apl_scan.proofs.ScanLimits.{scan_within}
use Rattle.apl_scan.proofs.laws.scanned_answers_are_within_limits.Goals as goal

pub returns : goal.returns
returns c = scan_within c.answer_is_within_limits.ensures.row c.range_is_decided.ensures.decided c.answers_are_in_range.ensures.elements

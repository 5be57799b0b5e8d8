use Rattle.std.proofs.Common.{◌≡◌, length, rules}
use Rattle.apl_scan.proofs.TruthLines.{joined_are}
use Rattle.apl_scan.proofs.truth_scans.scan_lines.Goals as goal

pub returns-in-Some : goal.returns-in-Some
returns-in-Some g c =
    let truths = c.args.truths.now in
    let values = c.in_ok-join_lines.field-0 in
    let long : length values.items ≡ length truths = search rules in
    joined_are c.args.f c.in-Some.end c.in-Some.ensures truths c.args.items values.items c.requires.items c.requires.lines c.in_ok-join_lines.ensures.lines long

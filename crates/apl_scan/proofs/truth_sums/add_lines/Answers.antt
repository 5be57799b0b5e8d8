use Rattle.std.proofs.Common.{◌≡◌, nat_eq, vec_len, length, rules, arith}
use Rattle.apl_summary.specs.Constants.{signed_function}
use Rattle.apl_scan.proofs.TruthScans.{line_of_folds}
use Rattle.apl_scan.proofs.truth_sums.add_lines.Goals as goal

pub loop-line-preserved : goal.loop-line-preserved
loop-line-preserved g c =
    let kept = c.loop-line.invariant in
    let put = c.append_line-values.ensures in
    let values = c.append_line-values.result in
    let own : vec_len values ≡ length values.items = search rules in
    let old : vec_len c.loop-line.values ≡ length c.loop-line.values.items = search rules in
    record {
      are = line_of_folds (signed_function (nat_eq g.row.MINUS 0)) c.args.truths.now c.args.items c.loop-line.line c.requires.items c.loop-line-test.true
          c.loop-line.values.items values.items (put.folds, omega (arith, put.len, own, old)) kept.are;
      room = omega (arith, put.capacity, kept.room);
    }

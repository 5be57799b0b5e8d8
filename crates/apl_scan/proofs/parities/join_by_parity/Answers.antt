use Rattle.std.proofs.Common.{◌≡◌, ◌+◌, ◌-◌, ◌*◌, Bool, List, vec_len, map, length, take, drop, rules, arith}
use Rattle.std.proofs.lemmas.List.{length-map}
use Rattle.apl_array.specs.declared.function.ScalarFunction.TheVariants.{NotEqual}
use Rattle.apl_array.specs.Array.{bit}
use Rattle.apl_scan.proofs.RunningParities.{folds_appended}
use Rattle.apl_scan.proofs.TruthScans.{line_of_folds}
use Rattle.apl_scan.proofs.parities.join_by_parity.Goals as goal

pub loop-line-preserved : goal.loop-line-preserved
loop-line-preserved g c =
    let truths = c.args.truths.now in
    let items = c.args.items in
    let first = c.loop-line.line * items in
    let kept = c.loop-line.invariant in
    let put = c.append_line-values.ensures in
    let old = c.loop-line.values.items in
    let new = c.append_line-values.result.items in
    let part : List Bool = take (first + items - first) (drop first truths) in
    let after : vec_len c.append_line-values.result ≡ length new = search rules in
    let before : vec_len c.loop-line.values ≡ length old = search rules in
    let long : length new ≡ length old + length part = omega (arith, put.len, after, before) in
    record {
      are = line_of_folds NotEqual truths items c.loop-line.line c.requires.items c.loop-line-test.true (map bit old) (map bit new)
          (folds_appended part old new put.items, omega (arith, long, length-map new bit, length-map old bit)) kept.are;
      room = omega (arith, put.capacity, kept.room);
    }

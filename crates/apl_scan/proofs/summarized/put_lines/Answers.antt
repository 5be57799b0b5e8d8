use Rattle.std.proofs.Common.{◌≡◌, ◌+◌, ◌-◌, ◌*◌, map, length, vec_len, refl, subst, ap, ◌∙◌, take, drop, rules, arith}
use Rattle.std.proofs.lemmas.List.{length-map, drop-map, take-map}
use Rattle.apl_pool.specs.Pool.{AreValues}
use Rattle.apl_scan.specs.Lines.{scan_at}
use Rattle.apl_scan.proofs.ScannedPlaces.{line_appended, line_within}
use Rattle.apl_scan.proofs.summarized.put_lines.Goals as goal

pub loop-line-preserved : goal.loop-line-preserved
loop-line-preserved g c =
    let step = g.S.Summary.step in
    let numbers = map g.T.Numeric.number_in c.args.numbers.now in
    let items = c.args.items in
    let line = c.loop-line.line in
    let first = line * items in
    let kept = c.loop-line.invariant in
    let put = c.append_scan-values.ensures in
    let values = c.append_scan-values.result in
    let same : length numbers ≡ length c.args.numbers.now = length-map c.args.numbers.now g.T.Numeric.number_in in
    let within = line_within (length numbers) items line (rw same c.loop-line-test.true) in
    let own : vec_len values ≡ length values.items = search rules in
    let all : first + items - first ≡ items = omega arith in
    let cut : take items (drop first numbers) ≡ map g.T.Numeric.number_in (take items (drop first c.args.numbers.now)) =
    ap (take items) (drop-map g.T.Numeric.number_in first c.args.numbers.now) ∙ take-map g.T.Numeric.number_in items (drop first c.args.numbers.now) in
    let next : first + items ≡ (line + 1) * items = omega arith in
    record {
      are = subst (λ n. AreValues (scan_at step numbers items 1) n values.items) next
          (line_appended step numbers c.loop-line.values.items values.items items line first c.requires.items refl within
          (rw cut (rw all at put.folds)) (omega (arith, own, put.most, c.if-len-first.false, kept.are.len)) kept.are);
      room = omega (arith, put.capacity, kept.room);
    }

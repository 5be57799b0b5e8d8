use Rattle.std.proofs.Common.{◌≡◌, ◌+◌, ◌-◌, ◌*◌, ◌<◌, ◌≤◌, length, refl, ap, arith, ◌∙◌}
use Rattle.apl_walk.proofs.Lines.{columns_all, columns_written}
use Rattle.apl_walk.proofs.lined.ByLines.write_columns.Goals as goal
use Rattle.apl_walk.proofs.lined.ByLines.write_columns.Goals.{then-first-eq0, else-first-eq0}

pub loop-place-preserved : goal.loop-place-preserved
loop-place-preserved g c =
    let l = c.loop-place in
    let e = g.L.Lined.extent c.args.self.now.lines in
    let extent : c.number-extent.result ≡ e = c.number-extent.ensures.value ∙ c.args.self.now.line in
    let next : (l.line + 1) * c.number-extent.result ≡ l.line * e + e = ap (λ n. (l.line + 1) * n) extent ∙ omega arith in
    let there = l.invariant.there in
    let value = g.L.Lined.value c.args.self.now.lines in
    let done = l.place - c.args.from in
    let count = c.min-count.result in
    let n = c.if-first-eq0.end_of_room - done in
    let spare : (count ≤ n) × (done + n ≤ length l.room) × (0 < c.args.first → n ≡ count) =
    elim c.if-first-eq0.branch [
      | then-first-eq0 w ↦ (omega (arith, w.end_of_room-is, there), omega (arith, w.end_of_room-is, there), λ later. absurd (omega (arith, later, w.if-first-eq0.true)))
      | else-first-eq0 w ↦ (omega (arith, w.end_of_room-is, there), omega (arith, w.end_of_room-is, there), λ later. omega (arith, w.end_of_room-is))
    ] in
    let written =
    columns_written value e c.args.from c.args.to c.args.first c.args.end l.line (l.line * e) l.index l.room refl (omega (arith, l.invariant.index, there)) l.invariant.all l.invariant.several
    done n count c.write.new.room (omega (arith, there)) spare.0 spare.1 spare.2 (omega (arith, there)) (omega arith) (omega arith) c.requires.within (omega arith) c.write.ensures.values
    ((l.line + 1) * e) (omega arith) in
    record {
      there = omega (arith, next);
      few = omega (arith, next, there);
      low = omega (arith, next, there);
      index = omega (arith, next, there);
      inside = omega arith;
      start = c.next_start-start.ensures;
      all = written.0;
      several = written.1;
    }

pub returns-clause-values : goal.returns-clause-values
returns-clause-values g c =
    let l = c.loop-place in
    let e = g.L.Lined.extent c.args.self.now.lines in
    columns_all (g.L.Lined.value c.args.self.now.lines) e c.args.from c.args.to c.args.first c.args.end l.line (l.line * e) l.index l.room refl (omega (arith, l.invariant.index, l.invariant.there)) l.invariant.all l.invariant.several
    (omega (arith, l.invariant.there, c.loop-place-test.false)) (omega (arith, l.invariant.inside, c.requires.within))

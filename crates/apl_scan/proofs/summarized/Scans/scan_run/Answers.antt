use Rattle.std.proofs.Common.{◌≡◌, ℤ, pos, ◌+◌, ◌-◌, ◌%◌, ◌<◌, Ok, [], ◌∷◌, ◌++◌, length, slice_index_or, to_z, of_z, w64, sym, ap, subst, ◌∙◌, rules, arith, length-set}
use Rattle.std.proofs.Math.Nat.{div-add-mod'}
use Rattle.apl_pool.specs.Summaries.{fold_onto, IsSummaryOf}
use Rattle.apl_scan.specs.Lines.{scan_at}
use Rattle.apl_scan.specs.Running.{stretch}
use Rattle.apl_scan.proofs.ScannedPlaces.{in_line, scan_is, stretch_next, written_next}
use Rattle.apl_scan.proofs.summarized.Scans.scan_run.Goals as goal

pub loop-k-preserved : goal.loop-k-preserved
loop-k-preserved g c =
    let self = c.args.self.now in
    let numbers = self.numbers.now in
    let step = g.S.Summary.step in
    let items = self.items in
    let from = c.args.from in
    let k = c.loop-k.k in
    let kept = c.loop-k.invariant in
    let first = from - from % items in
    let count = from % items + k in
    let here : k < length c.args.room.now = omega (arith, c.loop-k-test.true, c.scan_by_summary-done.ensures.len) in
    let inside : count < items = omega (arith, c.requires.line, here) in
    let line = in_line items from k (from + k) (omega (arith, inside)) (omega arith) inside in
    let place : from + k ≡ first + count = omega (arith, div-add-mod' from items) in
    let within : from + k < length numbers = omega (arith, c.requires.within, here) in
    let x : ℤ = slice_index_or numbers (from + k) (pos 0) in
    let read : to_z w64 (of_z w64 x) ≡ x = search rules in
    let more : count + 1 ≡ from % items + (k + 1) = omega arith in
    let list = ap (λ y. stretch numbers first count ++ y ∷ []) read ∙ stretch_next numbers first count (from + k) place within ∙ ap (stretch numbers first) more in
    let stored : to_z w64 (of_z w64 c.in-Ok.value) ≡ c.in-Ok.value = search rules in
    let value = scan_is step numbers items (from + k) within
    ∙ ap (λ f. fold_onto step (stretch numbers f ((from + k) % items)) x) line.1.first
    ∙ ap (λ n. fold_onto step (stretch numbers first n) x) line.0
    ∙ ap (fold_onto step (stretch numbers first count)) (sym read)
    ∙ sym (c.in-Ok.ensures (stretch numbers first count) kept.before)
    ∙ ap (λ (z : ℤ). Ok z) (sym stored) in
    record {
      before = subst (IsSummaryOf step (λ k. g.S.Summary.item_count k.summary) (λ k. g.S.Summary.outcome k.summary) c.with_next.result) list (c.with_next.ensures (stretch numbers first count) kept.before);
      written = written_next (scan_at step numbers items 1) from k c.loop-k.room (to_z w64 (of_z w64 c.in-Ok.value)) (omega (arith, here, kept.len)) value kept.written;
      len = length-set c.loop-k.room k (to_z w64 (of_z w64 c.in-Ok.value)) ∙ kept.len;
    }

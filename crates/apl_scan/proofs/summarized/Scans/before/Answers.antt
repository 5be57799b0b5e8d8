use Rattle.std.proofs.Common.{◌≡◌, ℤ, pos, ◌+◌, ◌-◌, ◌*◌, ◌/◌, ◌%◌, ◌<◌, [], ◌∷◌, ◌++◌, length, slice_index_or, to_z, of_z, w64, ap, subst, ◌∙◌, rules, arith}
use Rattle.std.proofs.Math.Nat.{div-add-mod'}
use Rattle.apl_pool.specs.Summaries.{IsSummaryOf}
use Rattle.apl_scan.specs.declared.chunks.TheConstants.{CHUNK}
use Rattle.apl_scan.specs.Running.{stretch}
use Rattle.apl_scan.proofs.ScannedPlaces.{stretch_next}
use Rattle.apl_scan.proofs.summarized.Scans.before.Goals as goal

pub loop-done-preserved : goal.loop-done-preserved
loop-done-preserved g c =
    let self = c.args.self.now in
    let numbers = self.numbers.now in
    let place = c.args.place in
    let before = place % self.items in
    let first = place - before in
    let done = c.loop-done.done in
    let rest = c.remainder-rest.result % CHUNK in
    let count = before / CHUNK * CHUNK + done in
    let next = place - rest + done in
    let rest_is : rest ≡ before % CHUNK = ap (λ r. r % CHUNK) c.remainder-rest.ensures.value in
    let chunks = div-add-mod' before CHUNK in
    let line = div-add-mod' place self.items in
    let at : next ≡ first + count = omega (arith, rest_is, chunks, line) in
    let within : next < length numbers = omega (arith, c.loop-done-test.true, c.requires, rest_is, chunks, line) in
    let x : ℤ = slice_index_or numbers next (pos 0) in
    let read : to_z w64 (of_z w64 x) ≡ x = search rules in
    let more : count + 1 ≡ before / CHUNK * CHUNK + (done + 1) = omega arith in
    let list = ap (λ y. stretch numbers first count ++ y ∷ []) read ∙ stretch_next numbers first count next at within ∙ ap (stretch numbers first) more in
    subst (IsSummaryOf g.S.Summary.step (λ k. g.S.Summary.item_count k.summary) (λ k. g.S.Summary.outcome k.summary) c.with_next.result) list (c.with_next.ensures (stretch numbers first count) c.loop-done.invariant)

use Rattle.std.proofs.Common.{◌+◌, ◌++◌, [], ◌∷◌, false, get_or, length, take, sym, ap, ◌∙◌, arith}
use Rattle.std.proofs.lemmas.List.{length_push}
use Rattle.apl_scan.specs.Parities.{unequal, parity}
use Rattle.apl_scan.proofs.RunningParities.{unequal_is, one_more_of, parity_of_both, more_appended}
use Rattle.apl_scan.proofs.parities.append_each.Goals as goal

pub loop-truth-preserved : goal.loop-truth-preserved
loop-truth-preserved c =
    let truths = c.args.truths.now in
    let before = c.args.before in
    let k = c.loop-truth.truth-index in
    let kept = c.loop-truth.invariant in
    let truth = get_or truths k false in
    let more = one_more_of truths k false c.loop-truth-test.true in
    let turned = unequal_is c.loop-truth.parity truth in
    record {
      parity = turned ∙ ap (λ b. unequal b truth) kept.parity ∙ sym (parity_of_both before (take k truths) (truth ∷ [])) ∙ ap (parity before) (sym more);
      items = more_appended before c.loop-truth.parity (take k truths) (truth ∷ []) (take (k + 1) truths) c.args.values.now.items c.loop-truth.values.items c.push_reserved.new.self.items
          more kept.parity kept.items (c.push_reserved.ensures.items ∙ ap (λ b. c.loop-truth.values.items ++ b ∷ []) turned);
      len = ap length c.push_reserved.ensures.items ∙ length_push c.loop-truth.values.items _ ∙ omega (arith, kept.len);
      capacity = c.push_reserved.ensures.capacity ∙ kept.capacity;
    }

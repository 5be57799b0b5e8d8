use Rattle.std.proofs.Common.{◌≡◌, ℤ, pos, ◌+◌, ◌<◌, [], ◌∷◌, ◌++◌, Ok, length, map, take, slice_index_or, to_z, of_z, w64, sym, ap, subst, ◌∙◌, rules, arith}
use Rattle.std.proofs.lemmas.List.{length_push, length-map}
use Rattle.apl_pool.specs.Summaries.{fold_onto}
use Rattle.apl_summary.specs.Fronts.{HasMoreAppended}
use Rattle.apl_summary.proofs.FrontNumbers.{one_more_behind, one_more_appended}
use Rattle.apl_summary.proofs.running.append_some.Goals as goal

pub loop-offset-preserved : goal.loop-offset-preserved
loop-offset-preserved g c =
    let step = g.F.PrefixState.step in
    let numbers = map g.T.Numeric.number_in c.args.numbers.now in
    let from = c.args.from in
    let old = c.args.values.now.items in
    let k = from + c.loop-offset.offset in
    let kept = c.loop-offset.invariant in
    let values = c.loop-offset.values.items in
    let value : ℤ = to_z w64 (of_z w64 c.in_ok-value.value) in
    let x : ℤ = slice_index_or numbers k (pos 0) in
    let held : to_z w64 (of_z w64 c.number_at.result) ≡ c.number_at.result = search rules in
    let read : to_z w64 (of_z w64 c.number_at.result) ≡ x = held ∙ c.number_at.ensures in
    let stored : value ≡ c.in_ok-value.value = search rules in
    let inside : k < length numbers = omega (arith, c.loop-offset-test.true, c.requires.places, length-map c.args.numbers.now g.T.Numeric.number_in) in
    let pushed : c.push_reserved.new.self.items ≡ values ++ value ∷ [] = c.push_reserved.ensures.items in
    let next : k + 1 ≡ from + (c.loop-offset.offset + 1) = omega arith in
    record {
      state = subst (λ n. g.F.PrefixState.is_of c.in_ok-value.next (take n numbers)) next
          (subst (g.F.PrefixState.is_of c.in_ok-value.next) (ap (λ y. take k numbers ++ y ∷ []) read ∙ one_more_behind [] numbers k inside) (c.in_ok-value.ensures.front (take k numbers) kept.state));
      folds = subst (HasMoreAppended step numbers from old) (sym pushed)
          (one_more_appended step numbers old values from c.loop-offset.offset value kept.len
          (ap (λ y. fold_onto step (take k numbers) y) (sym read) ∙ c.in_ok-value.ensures.value (take k numbers) kept.state ∙ ap (λ (z : ℤ). Ok z) (sym stored))
          kept.folds);
      len = ap length pushed ∙ length_push values value ∙ omega (arith, kept.len);
      capacity = c.push_reserved.ensures.capacity ∙ kept.capacity;
    }

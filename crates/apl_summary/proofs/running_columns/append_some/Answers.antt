use Rattle.std.proofs.Common.{◌≡◌, ℤ, pos, ◌+◌, ◌<◌, [], ◌∷◌, ◌++◌, Ok, length, slice_index_or, slice_set, to_z, of_z, w64, sym, ap, subst, ◌∙◌, rules, arith, length-set, map}
use Rattle.std.proofs.lemmas.List.{length_push}
use Rattle.apl_pool.specs.Summaries.{fold_onto}
use Rattle.apl_summary.specs.Columns.{ArePlaceFolds, AreFrontsInRow}
use Rattle.apl_summary.proofs.ColumnFolds.{one_more_fold, one_more_front, front_there}
use Rattle.apl_summary.proofs.running_columns.append_some.Goals as goal

pub loop-offset-preserved : goal.loop-offset-preserved
loop-offset-preserved g c =
    let step = g.F.PrefixState.step in
    let is_of = g.F.PrefixState.is_of in
    let numbers = map g.T.Numeric.number_in c.args.numbers.now in
    let k = c.len-place.result + c.loop-offset.offset in
    let at = c.args.from + c.loop-offset.offset in
    let kept = c.loop-offset.invariant in
    let fronts = c.loop-offset.fronts in
    let values = c.loop-offset.values.items in
    let value : ℤ = to_z w64 (of_z w64 c.in-Some.value) in
    let x : ℤ = slice_index_or numbers k (pos 0) in
    let held : to_z w64 (of_z w64 c.number_at.result) ≡ c.number_at.result = search rules in
    let read : to_z w64 (of_z w64 c.number_at.result) ≡ x = held ∙ c.number_at.ensures in
    let stored : value ≡ c.in-Some.value = search rules in
    let here : at < length fronts = omega (arith, c.loop-offset-test.true, c.requires.columns, kept.len) in
    let pushed : c.push_reserved.new.self.items ≡ values ++ value ∷ [] = c.push_reserved.ensures.items in
    let next : k + 1 ≡ c.len-place.result + (c.loop-offset.offset + 1) = omega arith in
    let past : at + 1 ≡ c.args.from + (c.loop-offset.offset + 1) = omega arith in
    record {
      len = length-set fronts at _ ∙ kept.len;
      count = ap length pushed ∙ length_push values value ∙ omega (arith, kept.count);
      capacity = c.push_reserved.ensures.capacity ∙ kept.capacity;
      folds = λ before start is are folds.
          let there : start + at ≡ k = omega (arith, is, c.len-place.ensures) in
          let state = front_there is_of before numbers start at k fronts c.index-fronts-from.result c.index-fronts-from.is here there (kept.fronts before start is are) in
          subst (λ n. ArePlaceFolds step before numbers n c.push_reserved.new.self.items) next
          (subst (ArePlaceFolds step before numbers (k + 1)) (sym pushed)
          (one_more_fold step before numbers values k value kept.count
          (ap (λ y. fold_onto step (before k) y) (sym read) ∙ c.in-Some.ensures.value (before k) state ∙ ap (λ (z : ℤ). Ok z) (sym stored))
          (kept.folds before start is are folds)));
      fronts = λ before start is are.
          let same : c.in-Some.next ≡ c.in-Some.next-in-Some-1-own.given.0.0.1 = search rules in
          let there : start + at ≡ k = omega (arith, is, c.len-place.ensures) in
          let state = front_there is_of before numbers start at k fronts c.index-fronts-from.result c.index-fronts-from.is here there (kept.fronts before start is are) in
          subst (λ s. AreFrontsInRow is_of before numbers start (c.args.from + (c.loop-offset.offset + 1)) (slice_set fronts at s)) same
          (subst (λ n. AreFrontsInRow is_of before numbers start n (slice_set fronts at c.in-Some.next)) past
          (one_more_front is_of before numbers start at fronts c.in-Some.next here
          (subst (λ p. is_of c.in-Some.next (before p ++ slice_index_or numbers p (pos 0) ∷ [])) (sym there)
          (subst (is_of c.in-Some.next) (ap (λ y. before k ++ y ∷ []) read) (c.in-Some.ensures.front (before k) state)))
          (kept.fronts before start is are)));
    }

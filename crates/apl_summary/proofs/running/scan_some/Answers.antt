use Rattle.std.proofs.Common.{◌≡◌, ℤ, pos, ◌+◌, ◌<◌, [], ◌∷◌, ◌++◌, Ok, length, take, slice_index_or, slice_set, to_z, of_z, w64, sym, ap, subst, ◌∙◌, rules, arith, length-set}
use Rattle.apl_pool.specs.Summaries.{fold_onto}
use Rattle.apl_summary.specs.Running.{AreFoldsBehind}
use Rattle.apl_summary.proofs.FrontNumbers.{one_more_behind, one_more_put}
use Rattle.apl_summary.proofs.running.scan_some.Goals as goal

pub loop-offset-init : goal.loop-offset-init
loop-offset-init g c =
    let step = g.F.PrefixState.step in
    let numbers = c.args.numbers.now in
    let none : c.args.from ≡ c.args.from + 0 = omega arith in
    record {
      front = λ before is. subst (λ n. g.F.PrefixState.is_of c.args.front (before ++ take n numbers)) none is;
      folds = λ before is folds. subst (λ n. AreFoldsBehind step before numbers n c.args.room.now) none folds;
      len = search rules;
    }

pub loop-offset-preserved : goal.loop-offset-preserved
loop-offset-preserved g c =
    let step = g.F.PrefixState.step in
    let is_of = g.F.PrefixState.is_of in
    let numbers = c.args.numbers.now in
    let k = c.args.from + c.loop-offset.offset in
    let kept = c.loop-offset.invariant in
    let x : ℤ = slice_index_or numbers k (pos 0) in
    let read : to_z w64 (of_z w64 x) ≡ x = search rules in
    let value : ℤ = to_z w64 (of_z w64 c.in-Some.value) in
    let stored : value ≡ c.in-Some.value = search rules in
    let inside : k < length numbers = omega (arith, c.loop-offset-test.true, c.requires.places, c.requires.numbers) in
    let room : k < length c.loop-offset.room = omega (arith, c.loop-offset-test.true, c.requires.places, kept.len) in
    let next : k + 1 ≡ c.args.from + (c.loop-offset.offset + 1) = omega arith in
    record {
      front = λ before is.
          subst (λ n. is_of c.in-Some.next (before ++ take n numbers)) next
          (subst (is_of c.in-Some.next) (ap (λ y. (before ++ take k numbers) ++ y ∷ []) read ∙ one_more_behind before numbers k inside)
          (c.in-Some.ensures.front (before ++ take k numbers) (kept.front before is)));
      folds = λ before is folds.
          subst (λ n. AreFoldsBehind step before numbers n (slice_set c.loop-offset.room k value)) next
          (one_more_put step before numbers c.loop-offset.room k value room
          (ap (λ y. fold_onto step (before ++ take k numbers) y) (sym read) ∙ c.in-Some.ensures.value (before ++ take k numbers) (kept.front before is) ∙ ap (λ (z : ℤ). Ok z) (sym stored))
          (kept.folds before is folds));
      len = length-set c.loop-offset.room k value ∙ kept.len;
    }

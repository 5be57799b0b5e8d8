use Rattle.std.proofs.Common.{◌≡◌, map, ap, sym, subst, ◌∙◌}
use Rattle.std.specs.Prelude.{IfOk, IfErr}
use Rattle.apl_array.specs.declared.array.Elem.TheVariants.{Int, Chr}
use Rattle.apl_array.specs.Array.{ArrayValue, truth_element}
use Rattle.apl_array.specs.Shape.{count_of}
use Rattle.apl_pool.specs.Pool.{AreValues, IsStopOf}
use Rattle.apl_reduce.specs.Folding.{reduction}
use Rattle.apl_reduce.specs.Folded.{fold_at}
use Rattle.apl_reduce.specs.Reducing.{items_along}
use Rattle.apl_reduce.proofs.Reductions.{outcomes_along}
use Rattle.apl_reduce.proofs.reducing.fold.Goals as goal
use Rattle.apl_reduce.proofs.reducing.fold.Goals.{in-Numbers, in-Narrow, in-Truths, in-Characters}

pub returns : goal.returns
returns g c =
    let b = c.args.b.now in
    let k = c.args.k in
    let shape = c.args.shape in
    let outcomes = outcomes_along c.places_match_index_lists.ensures.lawful c.places_match_index_lists.ensures.below c.inserted_index_has_place.ensures.lawful c.inserted_index_has_place.ensures.place
    b k c.requires.axis c.args.f shape in
    elim c.match-elements.branch [
      | in-Numbers w ↦
          let ravel : b.ravel ≡ map Int w.in-Numbers.numbers.now = ap (λ (a : ArrayValue). a.ravel) w.in-Numbers.ensures.elements in
          let axis = w.new-axis in
          let at_place = fold_at c.args.f (map Int axis.result.elements.now) axis.result.items axis.result.block axis.result.inner in
          let values = subst (λ n. IfOk w.fill_number_folds-filled.result (λ v. AreValues at_place n v.items)) axis.ensures.count w.fill_number_folds-filled.ensures.values in
          let stop = subst (λ n. IfErr w.fill_number_folds-filled.result (IsStopOf at_place n)) axis.ensures.count w.fill_number_folds-filled.ensures.stop in
          c.array_from_fill.ensures at_place (λ index. reduction c.args.f (items_along b k index))
          (outcomes (map Int axis.result.elements.now) axis.result.items axis.result.block axis.result.inner (ravel ∙ ap (map Int) (sym axis.ensures.elements)) axis.ensures.items axis.ensures.block axis.ensures.inner c.requires.two c.requires.shape)
          (subst (λ r. IfOk r (λ v. AreValues at_place (count_of shape) v.items)) (sym w.filled-is) values)
          (subst (λ r. IfErr r (IsStopOf at_place (count_of shape))) (sym w.filled-is) stop)
      | in-Narrow w ↦
          let ravel : b.ravel ≡ map Int w.in-Narrow.numbers.now = ap (λ (a : ArrayValue). a.ravel) w.in-Narrow.ensures.elements in
          let axis = w.new-axis-in-Narrow in
          let at_place = fold_at c.args.f (map Int axis.result.elements.now) axis.result.items axis.result.block axis.result.inner in
          let values = subst (λ n. IfOk w.fill_number_folds-filled-in-Narrow.result (λ v. AreValues at_place n v.items)) axis.ensures.count w.fill_number_folds-filled-in-Narrow.ensures.values in
          let stop = subst (λ n. IfErr w.fill_number_folds-filled-in-Narrow.result (IsStopOf at_place n)) axis.ensures.count w.fill_number_folds-filled-in-Narrow.ensures.stop in
          c.array_from_fill.ensures at_place (λ index. reduction c.args.f (items_along b k index))
          (outcomes (map Int axis.result.elements.now) axis.result.items axis.result.block axis.result.inner (ravel ∙ ap (map Int) (sym axis.ensures.elements)) axis.ensures.items axis.ensures.block axis.ensures.inner c.requires.two c.requires.shape)
          (subst (λ r. IfOk r (λ v. AreValues at_place (count_of shape) v.items)) (sym w.filled-is) values)
          (subst (λ r. IfErr r (IsStopOf at_place (count_of shape))) (sym w.filled-is) stop)
      | in-Truths w ↦
          let ravel : b.ravel ≡ map truth_element w.in-Truths.truths.now = ap (λ (a : ArrayValue). a.ravel) w.in-Truths.ensures.elements in
          let axis = w.new-axis-in-Truths in
          let at_place = fold_at c.args.f (map truth_element axis.result.elements.now) axis.result.items axis.result.block axis.result.inner in
          let values = subst (λ n. IfOk w.fill_truth_folds-filled.result (λ v. AreValues at_place n v.items)) axis.ensures.count w.fill_truth_folds-filled.ensures.values in
          let stop = subst (λ n. IfErr w.fill_truth_folds-filled.result (IsStopOf at_place n)) axis.ensures.count w.fill_truth_folds-filled.ensures.stop in
          c.array_from_fill.ensures at_place (λ index. reduction c.args.f (items_along b k index))
          (outcomes (map truth_element axis.result.elements.now) axis.result.items axis.result.block axis.result.inner (ravel ∙ ap (map truth_element) (sym axis.ensures.elements)) axis.ensures.items axis.ensures.block axis.ensures.inner c.requires.two c.requires.shape)
          (subst (λ r. IfOk r (λ v. AreValues at_place (count_of shape) v.items)) (sym w.filled-is) values)
          (subst (λ r. IfErr r (IsStopOf at_place (count_of shape))) (sym w.filled-is) stop)
      | in-Characters w ↦
          let ravel : b.ravel ≡ map Chr w.in-Characters.characters.now = ap (λ (a : ArrayValue). a.ravel) w.in-Characters.ensures.elements in
          let axis = w.new-axis-in-Characters in
          let at_place = fold_at c.args.f (map Chr axis.result.elements.now) axis.result.items axis.result.block axis.result.inner in
          let values = subst (λ n. IfOk w.fill_character_folds-filled.result (λ v. AreValues at_place n v.items)) axis.ensures.count w.fill_character_folds-filled.ensures.values in
          let stop = subst (λ n. IfErr w.fill_character_folds-filled.result (IsStopOf at_place n)) axis.ensures.count w.fill_character_folds-filled.ensures.stop in
          c.array_from_fill.ensures at_place (λ index. reduction c.args.f (items_along b k index))
          (outcomes (map Chr axis.result.elements.now) axis.result.items axis.result.block axis.result.inner (ravel ∙ ap (map Chr) (sym axis.ensures.elements)) axis.ensures.items axis.ensures.block axis.ensures.inner c.requires.two c.requires.shape)
          (subst (λ r. IfOk r (λ v. AreValues at_place (count_of shape) v.items)) (sym w.filled-is) values)
          (subst (λ r. IfErr r (IsStopOf at_place (count_of shape))) (sym w.filled-is) stop)
    ]

use Rattle.std.proofs.Common.{map, Ok, w64, ap, ◌∙◌}
use Rattle.std.proofs.lemmas.Int.{to_z-of_z}
use Rattle.apl_array.specs.Array.{truth_element}
use Rattle.apl_reduce.specs.Folded.{folded_onto}
use Rattle.apl_reduce.specs.Items.{item_in}
use Rattle.apl_reduce.proofs.Folds.{by_places}
use Rattle.apl_reduce.proofs.truth_folds.fold_truths.Goals as goal

pub returns-in-None : goal.returns-in-None
returns-in-None g c =
    let f = g.F.Function.FUNCTION in
    let items = map truth_element c.args.truths.now in
    c.fold_items.ensures ∙ by_places f items c.args.first c.args.count _
    ∙ ap (λ z. folded_onto f (item_in items) c.args.first c.args.count (Ok z)) (to_z-of_z w64 c.args.total c.ranges.total)

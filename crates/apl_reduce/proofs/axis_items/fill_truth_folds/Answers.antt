use Rattle.std.proofs.Common.{map}
use Rattle.apl_array.specs.Array.{truth_element}
use Rattle.apl_reduce.specs.Folded.{fold_at}
use Rattle.apl_reduce.proofs.axis_items.fill_truth_folds.Goals as goal

pub returns-then-shares_items : goal.returns-then-shares_items
returns-then-shares_items g c =
    let axis = c.args.axis.now in
    let fold = fold_at c.args.f (map truth_element axis.elements.now) axis.items axis.block axis.inner in
    record {
      values = c.fold_rows.ensures.values fold c.rows_have_folds.ensures;
      stop = c.fold_rows.ensures.stop fold c.rows_have_folds.ensures;
    }

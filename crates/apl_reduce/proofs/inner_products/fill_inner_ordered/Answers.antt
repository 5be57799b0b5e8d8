use Rattle.std.proofs.Common.{◌≤◌, length, map, sym, subst, rules}
use Rattle.std.proofs.lemmas.Result.{IfOk-weaker, IfErr-weaker}
use Rattle.apl_array.specs.declared.array.Elem.TheVariants.{Int}
use Rattle.apl_pool.specs.Pool.{AreValues, IsStopOf}
use Rattle.apl_reduce.specs.Layouts.{AreByColumns, inner_number}
use Rattle.apl_reduce.proofs.Reordered.{has_columns, number_same, values_same, stop_same}
use Rattle.apl_reduce.proofs.inner_products.fill_inner_ordered.Goals as goal

pub fill_columns-requires-clause-within : goal.fill_columns-requires-clause-within
fill_columns-requires-clause-within g c κs within =
    let layout = c.args.layout.now in
    let several : layout.columns ≤ layout.count = search rules in
    has_columns layout (length c.args.left.now) (length c.args.right.now) c.requires several

pub returns : goal.returns
returns g c =
    let layout = c.args.layout.now in
    let ordered = c.by_columns-ordered.result in
    let is = c.by_columns-ordered.ensures in
    let left = map Int c.args.left.now in
    let columns = c.as_slice.result.now in
    let are : AreByColumns layout c.args.right.now columns = subst (AreByColumns layout c.args.right.now) (sym c.as_slice.ensures.value) c.in_ok-columns.ensures.values in
    let there = inner_number ordered left (map Int columns) c.args.f c.args.g in
    let here = inner_number layout left (map Int c.args.right.now) c.args.f c.args.g in
    record {
      values = IfOk-weaker c.fill_inner_numbers-2.result (λ v. AreValues there ordered.count v.items) (λ v. AreValues here layout.count v.items)
          (λ v values. values_same there here layout.count (λ place inside. number_same layout ordered is left c.args.right.now columns are c.args.f c.args.g place) v.items (subst (λ n. AreValues there n v.items) is.count values))
          c.fill_inner_numbers-2.ensures.values;
      stop = IfErr-weaker c.fill_inner_numbers-2.result (IsStopOf there ordered.count) (IsStopOf here layout.count)
          (λ stop found. stop_same there here layout.count (λ place inside. number_same layout ordered is left c.args.right.now columns are c.args.f c.args.g place) stop (subst (λ n. IsStopOf there n stop) is.count found))
          c.fill_inner_numbers-2.ensures.stop;
    }

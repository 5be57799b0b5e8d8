use Rattle.std.proofs.Common.{◌+◌, ◌-◌, ◌*◌, length, refl, sym, ap, ◌∙◌, arith, length-drop}
use Rattle.apl_reduce.proofs.FoldedRows.{last_folds, written_folds, last_row_within}
use Rattle.apl_reduce.proofs.axis_items.AxisItems.fold_with.Goals as goal

pub fold_last_rows-requires-clause-right : goal.fold_last_rows-requires-clause-right
fold_last_rows-requires-clause-right g c =
    let axis = c.args.self.now in
    let stride = c.number-stride.result in
    let last = last_row_within (length axis.elements.now) axis.count c.args.from axis.inner axis.block axis.items (length c.args.totals.now) axis.two (omega arith) c.requires.within c.requires.row axis.within in
    rw c.from_place-right.ensures (omega (arith, last, length-drop (c.first_item-first.result + (axis.items - 2) * stride + stride) axis.elements.now, c.first_item-first.ensures, c.number-stride.ensures.value, ap (λ n. (axis.items - 2) * n) c.number-stride.ensures.value))

pub fold_rows-requires-clause-folds : goal.fold_rows-requires-clause-folds
fold_rows-requires-clause-folds g c =
    let axis = c.args.self.now in
    let first = c.first_item-first.result in
    let stride = c.number-stride.result in
    let more = axis.items - 2 in
    last_folds g.T.ElementType.elem_of g.F.Function.FUNCTION axis.elements.now first stride c.from_place-left.result.now c.from_place-right.result.now more (first + more * stride) (first + more * stride + stride) c.fold_last_rows.new.totals c.from_place-left.ensures c.from_place-right.ensures refl refl
    (rw c.fold_last_rows.ensures.len (c.if-fold_last_rows.ensures.values refl))

pub returns-then-fold_last_rows-clause-values : goal.returns-then-fold_last_rows-clause-values
returns-then-fold_last_rows-clause-values g c done =
    let axis = c.args.self.now in
    let len = c.fold_rows.ensures.len in
    rw (sym (len ∙ c.fold_last_rows.ensures.len)) (written_folds g.T.ElementType.elem_of g.F.Function.FUNCTION axis.elements.now c.first_item-first.result c.number-stride.result c.args.from axis.items axis.inner axis.block c.fold_rows.new.totals axis.two c.number-stride.ensures.value c.first_item-first.ensures (omega (arith, c.requires.row, len, c.fold_last_rows.ensures.len)) (c.fold_rows.ensures.folds done))

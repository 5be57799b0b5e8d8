use Rattle.std.proofs.Common.{slice_index, subst, List, Bool, sym}
use Rattle.apl_pool.specs.Folds.{ArePartsOf}
use Rattle.apl_pool.proofs.RowParts.{parts_of_marks}
use Rattle.apl_pool.proofs.folds.fold_into_parts.Goals as goal

pub join_rows-requires-clause-right : goal.join_rows-requires-clause-right
join_rows-requires-clause-right g c =
    let s = g.S.Summary in
    let outcome = g.K.Rows.outcome c.args.rows.now in
    let pieces = c.pieces-pieces.result.now in
    let start = slice_index pieces.starts.items in
    let made = parts_of_marks s.step s.item_count s.outcome outcome (g.K.Rows.row_count c.args.rows.now) pieces.count start c.in_ok-marks.marks.items c.fill_rooms.new.values c.in_ok-marks.ensures.marks in
    let P : List Bool → Type 0 = λ marks. ArePartsOf s.step s.item_count s.outcome outcome (g.K.Rows.row_count c.args.rows.now) pieces.count start marks c.fill_rooms.new.values in
    subst P (sym c.as_slice.ensures.value) made

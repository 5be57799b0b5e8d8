use Rattle.std.proofs.Common.{ℕ, ◌+◌, ◌<◌, Option, Err, slice_index, refl, sym, subst, ◌∙◌, arith}
use Rattle.std.proofs.lemmas.List.{length_push}
use Rattle.apl_pool.specs.Folds.{IsFolded}
use Rattle.apl_pool.specs.Summaries.{IsEnd}
use Rattle.apl_pool.proofs.FoldedParts.{fold_is}
use Rattle.apl_pool.proofs.RowParts.{rows_more, end_at}
use Rattle.apl_pool.proofs.folds.join_rows.Goals as goal

pub join_parts-requires-clause-right : goal.join_parts-requires-clause-right
join_parts-requires-clause-right g c =
    let s = g.S.Summary in
    let row = c.loop-row.row in
    let start = slice_index c.args.pieces.now.starts.items in
    let rows = g.K.Rows.row_count c.args.rows.now in
    let inside : row < rows = (let t = c.loop-row-test.true in omega (arith, c.rows-count.ensures)) in
    let kept = rw c.rows-count.ensures at c.loop-row.invariant.4 in
    rw c.rows-count.ensures
    (λ n low mark.
    let F : Option g.row.S.Denot → Type 0 = λ part. IsFolded s.step s.item_count s.outcome (g.K.Rows.outcome c.args.rows.now row) (start n) (start (n + 1)) part in
    subst F (sym (kept n row (omega arith) inside)) (c.requires.right row n inside low mark))

pub returns-in-Err : goal.returns-in-Err
returns-in-Err g c =
    let s = g.S.Summary in
    let outcome = g.K.Rows.outcome c.args.rows.now in
    let below : c.loop-row.row < g.K.Rows.row_count c.args.rows.now = (let t = c.loop-row-test.true in omega (arith, c.rows-count.ensures)) in
    record {
      within = omega (arith, c.loop-row.invariant.0);
      each = λ row d low. c.loop-row.invariant.2 row d (omega (arith, c.loop-row.invariant.0));
      ends = (let P : ℕ → Type 0 = λ n. IsEnd s.step s.item_count s.outcome outcome (g.K.Rows.row_count c.args.rows.now) (g.K.Rows.place_count c.args.rows.now) n (Err c.in-Err.stop) in
          subst P (sym c.loop-row.invariant.0) (end_at s.step s.item_count s.outcome outcome _ _ c.loop-row.row c.in-Err.stop below c.in-Err.ensures.folded));
    }

pub loop-row-preserved : goal.loop-row-preserved
loop-row-preserved g c =
    let s = g.S.Summary in
    let so_far = c.loop-row.invariant in
    let row = c.loop-row.row in
    let told = c.join_parts.ensures in
    let fold = fold_is s.step s.item_count s.outcome (g.K.Rows.outcome c.args.rows.now row) 0 (g.K.Rows.place_count c.args.rows.now) c.in-Ok-Some.field-0 c.in-Ok-Some.summary c.in-Ok-Some.field-0-is c.in-Ok-Some.ensures.folded in (
      rw (c.push_reserved.ensures.items, length_push c.loop-row.summaries.items c.in-Ok-Some.summary) (omega (arith, so_far.0)),
      c.push_reserved.ensures.capacity ∙ so_far.1,
      rw c.push_reserved.ensures.items (rows_more s.step s.item_count s.outcome (g.K.Rows.outcome c.args.rows.now) (g.K.Rows.place_count c.args.rows.now) row (row + 1) c.loop-row.summaries.items c.in-Ok-Some.summary so_far.0 so_far.2 fold refl),
      told.len ∙ so_far.3,
      λ n other high low. told.kept n other (omega arith) low ∙ so_far.4 n other (omega arith) low,
    )

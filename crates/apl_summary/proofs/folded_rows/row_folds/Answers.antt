use Rattle.std.proofs.Common.{rules, ◌≡◌, ℕ, ◌<◌, Result, length, slice_index_or, to_z, of_z, w64, sym, subst, arith}
use Rattle.std.proofs.lemmas.List.{length_push}
use Rattle.apl_pool.specs.declared.kernel.Stop.{Stop}
use Rattle.apl_pool.specs.Pool.{IsStopOf}
use Rattle.apl_pool.specs.Summaries.{IsRowSummary, IsEnd}
use Rattle.apl_summary.proofs.RowNumbers.{IsFoldOf, numbers_more, fold_of_row, fault_of_fold, stop_of_row}
use Rattle.apl_summary.proofs.folded_rows.row_folds.Goals as goal

pub returns-in-Err-clause-stop : goal.returns-in-Err-clause-stop
returns-in-Err-clause-stop g c = λ outcome are.
    let s = g.S.Summary in
    let item = g.K.Rows.outcome c.args.rows.now in
    let count = g.K.Rows.place_count c.args.rows.now in
    let incoming = g.K.FoldedRows.incoming c.args.rows.now in
    let row = c.loop-row.row in
    let it = c.index-summaries-row.result in
    let all = c.requires.folds in
    let inside : row < length c.args.folds.summaries.items = omega arith in
    let Q : g.row.S.Denot → Type 0 = λ x. IsRowSummary s.step s.item_count s.outcome item count row x in
    let here : slice_index_or c.args.folds.summaries.items row it ≡ it = rw c.as_slice-summaries.ensures.value at (sym c.index-summaries-row.is) in
    let last = fold_of_row s.step item count incoming s.item_count s.outcome it row c.row_fold.result c.row_fold.ensures (subst Q here (all.each row it inside)) in
    fault_of_fold s.step item count incoming (g.K.Rows.row_count c.args.rows.now) outcome are c.loop-row.numbers.items row c.row_fold.result c.in-Err.fault (omega (arith, inside, all.within)) c.loop-row.invariant.0 c.loop-row.invariant.2 last c.in-Err.is

pub loop-row-preserved : goal.loop-row-preserved
loop-row-preserved g c =
    let s = g.S.Summary in
    let item = g.K.Rows.outcome c.args.rows.now in
    let count = g.K.Rows.place_count c.args.rows.now in
    let incoming = g.K.FoldedRows.incoming c.args.rows.now in
    let row = c.loop-row.row in
    let numbers = c.loop-row.numbers.items in
    let it = c.index-summaries-row.result in
    let inside : row < length c.args.folds.summaries.items = omega arith in
    let Q : g.row.S.Denot → Type 0 = λ x. IsRowSummary s.step s.item_count s.outcome item count row x in
    let here : slice_index_or c.args.folds.summaries.items row it ≡ it = rw c.as_slice-summaries.ensures.value at (sym c.index-summaries-row.is) in
    let last = fold_of_row s.step item count incoming s.item_count s.outcome it row c.row_fold.result c.row_fold.ensures (subst Q here (c.requires.folds.each row it inside)) in
    let kept : to_z w64 (of_z w64 c.in-Ok.number) ≡ c.in-Ok.number = search rules in
    let P : ℕ → Type 0 = λ k. IsFoldOf s.step item count incoming k c.row_fold.result in
    let more = numbers_more s.step item count incoming numbers c.in-Ok.number c.row_fold.result c.in-Ok.is c.loop-row.invariant.2 (subst P (sym c.loop-row.invariant.0) last) in (
      rw (c.push_reserved.ensures.items, length_push numbers (to_z w64 (of_z w64 c.in-Ok.number))) (omega (arith, c.loop-row.invariant.0)),
      rw c.push_reserved.ensures.capacity c.loop-row.invariant.1,
      rw (c.push_reserved.ensures.items, kept) more,
    )

pub returns-clause-stop : goal.returns-clause-stop
returns-clause-stop g c = λ outcome are.
    let s = g.S.Summary in
    let item = g.K.Rows.outcome c.args.rows.now in
    let rows = g.K.Rows.row_count c.args.rows.now in
    let count = g.K.Rows.place_count c.args.rows.now in
    let incoming = g.K.FoldedRows.incoming c.args.rows.now in
    let n = length c.args.folds.summaries.items in
    let stop = c.in-Err-end.stop in
    let E : Result Unit Stop → Type 0 = λ e. IsEnd s.step s.item_count s.outcome item rows count n e in
    let end = subst E c.in-Err-end.is c.requires.folds.ends in
    let long : length c.loop-row.numbers.items ≡ n = (let t = c.loop-row-test.false in omega (arith, c.loop-row.invariant.0)) in
    let told = rw c.as_slice-summaries.ensures.value at c.stop_at_row.ensures in
    let P : Stop → Type 0 = λ x. IsStopOf outcome rows x in
    subst P (sym told) (stop_of_row s.step item count incoming rows outcome are s.item_count s.outcome c.loop-row.numbers.items n stop long c.loop-row.invariant.2 end)

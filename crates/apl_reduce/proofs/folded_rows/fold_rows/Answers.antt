use Rattle.std.proofs.Common.{◌≡◌, ℕ, ◌+◌, ◌-◌, ◌*◌, refl, sym, ap, ◌∙◌, arith}
use Rattle.apl_reduce.proofs.FoldedRows.{more_folds}
use Rattle.apl_reduce.proofs.folded_rows.fold_rows.Goals.{then-row-rows, else-row-rows+then-row-ge-FEW, else-row-rows+else-row-ge-FEW}
use Rattle.apl_reduce.proofs.folded_rows.fold_rows.Goals as goal

pub fold_pass-folded-requires-clause-within : goal.fold_pass-folded-requires-clause-within
fold_pass-folded-requires-clause-within g c =
    let above = c.args.more - c.loop-row.row in
    let rows : c.args.more * c.args.stride ≡ (c.loop-row.row - c.rows-rows.result + c.rows-rows.result + above) * c.args.stride = ap (λ m. m * c.args.stride) (omega arith) in
    omega (arith, rows)

pub fold_pass-requires-clause-within : goal.fold_pass-requires-clause-within
fold_pass-requires-clause-within g c =
    let above = c.args.more - c.loop-row.row in
    let rows : c.args.more * c.args.stride ≡ (c.loop-row.row - 4 + 4 + above) * c.args.stride = ap (λ m. m * c.args.stride) (omega arith) in
    omega (arith, rows)

pub loop-row-preserved : goal.loop-row-preserved
loop-row-preserved g c =
    let row = c.loop-row.row in
    let more = c.args.more in
    let all = c.if-not-folded.false in
    let turn = λ (count : ℕ). more_folds g.T.ElementType.elem_of g.F.Function.FUNCTION c.args.elements.now c.args.first c.args.stride (row - count) row count (more - row) (more - (row - count)) (c.args.first + (row - count) * c.args.stride) c.loop-row.totals in
    elim c.if-row-rows.branch [
      | then-row-rows w ↦ (
        omega (arith, w.row-is),
        rw (w.row-is, w.totals-is) (turn c.rows-rows.result _ (omega arith) (omega arith) refl w.fold_pass-folded.ensures.len c.loop-row.invariant.1 (w.fold_pass-folded.ensures.values (sym w.folded-is ∙ all))),
        omega arith,
      )
      | else-row-rows+then-row-ge-FEW w ↦ (
        omega (arith, w.row-is),
        rw (w.row-is, w.totals-is) (turn 4 _ (omega arith) (omega arith) refl w.fold_pass.ensures.len c.loop-row.invariant.1 (w.fold_pass.ensures.values (sym w.folded-is ∙ all))),
        omega arith,
      )
      | else-row-rows+else-row-ge-FEW w ↦ (
        omega (arith, w.row-is),
        rw (w.row-is, w.totals-is) (turn 1 _ (omega arith) (omega arith) refl w.fold_pass-else-row-ge-FEW.ensures.len c.loop-row.invariant.1 (w.fold_pass-else-row-ge-FEW.ensures.values (sym w.folded-is ∙ all))),
        omega arith,
      )
    ]

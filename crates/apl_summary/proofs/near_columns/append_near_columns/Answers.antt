use Rattle.std.proofs.Common.{◌%◌, nat_eq, vec_len, sym, subst, ◌∙◌, arith, map}
use Rattle.apl_summary.specs.Columns.{column_before}
use Rattle.apl_summary.specs.NearTotals.{IsRow}
use Rattle.apl_summary.proofs.NearTotals.{row_there, column_folds}
use Rattle.apl_summary.proofs.near_columns.append_near_columns.Goals as goal

pub loop-row-preserved : goal.loop-row-preserved
loop-row-preserved g c =
    let numbers = (map g.T.Numeric.number_in c.args.numbers.now) in
    let items = c.args.items in
    let inner = c.args.inner in
    let row = c.loop-row.row in
    let before = column_before numbers items inner in
    let kept = c.loop-row.invariant in
    let said = c.append_next_row.ensures in
    let there : IsRow before numbers (vec_len c.loop-row.values) inner (row % items) = subst (λ n. IsRow before numbers n inner (row % items)) (sym kept.count) (row_there numbers items inner row c.requires.items) in
    record {
      count = omega (arith, said.len, kept.count);
      capacity = said.capacity ∙ kept.capacity;
      folds = said.folds c.if-not-append_next_row.false before there kept.folds;
    }

pub returns-clause-folds : goal.returns-clause-folds
returns-clause-folds g c = λ near.
    column_folds (nat_eq g.row.MINUS 0) (map g.T.Numeric.number_in c.args.numbers.now) c.loop-row.values.items c.args.items c.args.inner (vec_len c.loop-row.values) c.loop-row.invariant.folds

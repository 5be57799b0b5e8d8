use Rattle.std.proofs.Common.{◌≡◌, ◌<◌, nat_eq, vec_len, sym, subst, ◌∙◌, rules, arith, map}
use Rattle.apl_summary.specs.NearTotals.{IsRow}
use Rattle.apl_summary.proofs.near_columns.append_next_row.Goals as goal

pub returns-then-row-eq0-clause-folds : goal.returns-then-row-eq0-clause-folds
returns-then-row-eq0-clause-folds g c = λ near before row had.
    let first : c.args.row ≡ 0 = search rules in
    c.append_first_row.ensures.folds near (nat_eq g.row.MINUS 0) before (subst (IsRow before (map g.T.Numeric.number_in c.args.numbers.now) (vec_len c.args.values.now) c.args.inner) first row) had

pub returns-then-is_minus-clause-folds : goal.returns-then-is_minus-clause-folds
returns-then-is_minus-clause-folds g c = λ near before row had.
    let later : 0 < c.args.row = omega (arith, c.if-row-eq0.false) in
    c.append_row.ensures.folds near (nat_eq g.row.MINUS 0) before c.args.row later c.requires.few (sym c.if-is_minus.true ∙ c.is_minus.ensures) row had

pub returns-else-is_minus-clause-folds : goal.returns-else-is_minus-clause-folds
returns-else-is_minus-clause-folds g c = λ near before row had.
    let later : 0 < c.args.row = omega (arith, c.if-row-eq0.false) in
    c.append_row-else-is_minus.ensures.folds near (nat_eq g.row.MINUS 0) before c.args.row later c.requires.few (sym c.if-is_minus.false ∙ c.is_minus.ensures) row had

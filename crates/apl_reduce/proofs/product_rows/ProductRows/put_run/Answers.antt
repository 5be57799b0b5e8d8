use Rattle.std.proofs.Common.{◌≡◌, ℕ, ℤ, ◌-◌, ◌*◌, ◌%◌, ◌<◌, List, length, map, ap, subst, ◌∙◌, arith}
use Rattle.apl_reduce.specs.ProductRows.{AreRowSums, AreRowFolds}
use Rattle.apl_reduce.proofs.ProductRows.{rows_within, written_sums, written_folds}
use Rattle.apl_reduce.proofs.product_rows.ProductRows.put_run.Goals as goal

pub put_sums-requires-clause-within : goal.put_sums-requires-clause-within
put_sums-requires-clause-within g c = λ k inside.
    let x = c.args.self.now.items in
    let rows = c.line_rows-rows.ensures in
    let column : c.remainder-column.result ≡ c.args.from % x.layout.now.columns = c.remainder-column.ensures.value ∙ ap (λ n. c.args.from % n) x.columns_are in
    let item : k < x.layout.now.items = omega (arith, inside, rows.len) in
    rw (column, rows.stride, rows.right) (rows_within x.layout.now (length x.left.now) (length x.right.now) c.args.from (length c.args.totals.now) x.within c.args.self.now.by_rows c.requires.some c.requires.within c.requires.line k item)

pub put_folds-requires : goal.put_folds-requires
put_folds-requires g c = record {
  within = λ k inside.
      let x = c.args.self.now.items in
      let rows = c.line_rows-rows.ensures in
      let column : c.remainder-column.result ≡ c.args.from % x.layout.now.columns = c.remainder-column.ensures.value ∙ ap (λ n. c.args.from % n) x.columns_are in
      let item : k < x.layout.now.items = omega (arith, inside, rows.len) in
      rw (column, rows.stride, rows.right, c.put_sums.ensures.len) (rows_within x.layout.now (length x.left.now) (length x.right.now) c.args.from (length c.args.totals.now) x.within c.args.self.now.by_rows c.requires.some c.requires.within c.requires.line k item);
}

pub returns-then-put_sums-clause-values : goal.returns-then-put_sums-clause-values
returns-then-put_sums-clause-values g c = λ sure.
    let x = c.args.self.now.items in
    let layout = x.layout.now in
    let numbers = map g.U.Numeric.number_in in
    let rows = c.line_rows-rows.ensures in
    let line = c.line_rows-rows.result.line.now in
    let totals = c.put_sums.new.totals in
    let column : c.remainder-column.result ≡ c.args.from % layout.columns = c.remainder-column.ensures.value ∙ ap (λ n. c.args.from % n) x.columns_are in
    let Sums : List ℤ → ℕ → ℕ → Type 0 = λ right stride first. AreRowSums line right stride (c.args.self.now.near.left * c.args.self.now.near.right) first (length line) totals in
    let sums = subst (λ r. Sums (numbers r) layout.columns (c.args.from % layout.columns)) rows.right (subst (λ s. Sums (numbers c.line_rows-rows.result.right.now) s (c.args.from % layout.columns)) rows.stride
    (subst (Sums (numbers c.line_rows-rows.result.right.now) c.line_rows-rows.result.stride) column (c.put_sums.ensures.sums sure))) in
    rw c.elements_are_numbers.ensures (written_sums layout x.left.now (numbers x.right.now) line c.args.from (length c.args.totals.now) c.args.self.now.by_rows rows.line c.requires.line c.range_is_decided.ensures.decided c.range_is_decided.ensures.bits (c.args.self.now.near.left * c.args.self.now.near.right)
    c.args.self.now.small totals c.put_sums.ensures.len rows.len sums)

pub returns-else-put_sums-clause-values : goal.returns-else-put_sums-clause-values
returns-else-put_sums-clause-values g c = λ sure.
    let x = c.args.self.now.items in
    let layout = x.layout.now in
    let numbers = map g.U.Numeric.number_in in
    let rows = c.line_rows-rows.ensures in
    let line = c.line_rows-rows.result.line.now in
    let totals = c.put_folds.new.totals in
    let column : c.remainder-column.result ≡ c.args.from % layout.columns = c.remainder-column.ensures.value ∙ ap (λ n. c.args.from % n) x.columns_are in
    let Folds : List ℤ → ℕ → ℕ → Type 0 = λ right stride first. AreRowFolds line right stride first 0 (length line - 1) totals in
    let folds = subst (λ r. Folds (numbers r) layout.columns (c.args.from % layout.columns)) rows.right (subst (λ s. Folds (numbers c.line_rows-rows.result.right.now) s (c.args.from % layout.columns)) rows.stride
    (subst (Folds (numbers c.line_rows-rows.result.right.now) c.line_rows-rows.result.stride) column (c.put_folds.ensures.folds sure))) in
    rw c.elements_are_numbers.ensures (written_folds layout x.left.now (numbers x.right.now) line c.args.from (length c.args.totals.now) c.args.self.now.by_rows rows.line c.requires.line totals (c.put_folds.ensures.len ∙ c.put_sums.ensures.len) rows.len folds)

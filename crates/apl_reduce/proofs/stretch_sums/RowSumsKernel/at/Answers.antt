use Rattle.std.proofs.Common.{◌≡◌, Ok, map, to_z, of_z, w64, sym, ap, ◌∙◌, rules}
use Rattle.apl_reduce.proofs.StretchSums.{row_outcome}
use Rattle.apl_reduce.proofs.stretch_sums.RowSumsKernel.at.Goals as goal

pub returns : goal.returns
returns g c =
    let law = c.range_is_decided.ensures in
    let rows = c.args.self.now.rows.now in
    let read : to_z w64 (of_z w64 c.row_sum.result) ≡ c.row_sum.result = search rules in
    ap Ok read ∙ sym (row_outcome law.decided law.bits (map g.T.Numeric.number_in rows.numbers.now) rows.near rows.items rows.two rows.small rows.block c.args.row c.row_sum.result c.row_sum.ensures)

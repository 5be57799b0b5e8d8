use Rattle.std.proofs.Common.{◌≡◌, ◌+◌, length, map}
use Rattle.apl_pool.specs.Runs.{AreWritten}
use Rattle.apl_reduce.specs.ProductRows.{row_item}
use Rattle.apl_reduce.proofs.line_rows.LineRows.put_products.Given as goal

abbrev pub invariant-loop-j : goal.invariant-loop-j
invariant-loop-j g l = let s = l.self in
    AreWritten (λ j. row_item s.line.now (map g.U.Numeric.number_in s.right.now) s.stride (l.column + j) l.row) 0 l.j l.totals
    × (length l.totals ≡ length l.initial.totals)

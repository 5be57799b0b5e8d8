use Rattle.std.proofs.Common.{◌+◌, ◌*◌, ◌<◌, map}
use Rattle.apl_reduce.specs.ProductRows.{IsRowSum}
use Rattle.apl_reduce.proofs.near_products.NearProducts.with_rows.Given as goal

abbrev pub invariant-loop-k : goal.invariant-loop-k
invariant-loop-k g l = let s = l.self in
    l.bits < 2 * s.near.right → IsRowSum s.line.now (map g.U.Numeric.number_in s.right.now) s.stride (s.near.left * s.near.right) l.column l.row l.fn.sum → IsRowSum s.line.now (map g.U.Numeric.number_in s.right.now) s.stride (s.near.left * s.near.right) l.column (l.row + l.k) l.sum

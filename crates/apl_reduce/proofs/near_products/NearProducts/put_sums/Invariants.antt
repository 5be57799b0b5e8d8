use Rattle.std.proofs.Common.{◌≡◌, ◌-◌, ◌*◌, ◌≤◌, length, map}
use Rattle.apl_reduce.specs.ProductRows.{AreRowSums}
use Rattle.apl_reduce.proofs.near_products.NearProducts.put_sums.Given as goal

abbrev pub invariant-loop-row : goal.invariant-loop-row
invariant-loop-row g l = let s = l.self in record {
  within : l.row ≤ l.rows;
  sums : AreRowSums s.line.now (map g.U.Numeric.number_in s.right.now) s.stride (s.near.left * s.near.right) l.column l.row l.totals;
  len : length l.totals ≡ length l.initial.totals;
}

abbrev pub decreases-loop-row : goal.decreases-loop-row
decreases-loop-row g l = l.rows - l.row

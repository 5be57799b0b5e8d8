use Rattle.std.proofs.Common.{◌≡◌, ℕ, pos, ◌+◌, ◌*◌, ◌<◌, ◌≤◌, length, slice_index_or, map}
use Rattle.apl_reduce.specs.ProductRows.{IsRowSum}
use Rattle.apl_reduce.proofs.near_products.NearProducts.add_rows.Given as goal

abbrev pub invariant-loop-j : goal.invariant-loop-j
invariant-loop-j g l = let s = l.self in record {
  sums : l.bits < 2 * s.near.right → (i : ℕ) → i < l.j → IsRowSum s.line.now (map g.U.Numeric.number_in s.right.now) s.stride (s.near.left * s.near.right) (l.column + i) (l.row + l.count) (slice_index_or l.totals i (pos 0));
  rest : (i : ℕ) → l.j ≤ i → slice_index_or l.totals i (pos 0) ≡ slice_index_or l.initial.totals i (pos 0);
  len : length l.totals ≡ length l.initial.totals;
}

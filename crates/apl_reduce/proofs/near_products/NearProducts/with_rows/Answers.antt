use Rattle.std.proofs.Common.{◌≡◌, ◌+◌, ◌*◌, to_z, of_z, w64, subst, arith, rules, map}
use Rattle.apl_reduce.specs.ProductRows.{IsRowSum}
use Rattle.apl_reduce.proofs.NearSums.{both_low}
use Rattle.apl_reduce.proofs.near_products.NearProducts.with_rows.Goals as goal

pub loop-k-preserved : goal.loop-k-preserved
loop-k-preserved g c = λ low before.
    let s = c.args.self.now in
    let most = s.near.left * s.near.right in
    let row = c.args.row in
    let k = c.loop-k.k in
    let next = c.with_row-next.result in
    let kept : to_z w64 (of_z w64 next.0) ≡ next.0 = search rules in
    let both = both_low (2 * s.near.right) c.loop-k.bits next.1 low in
    let more : row + k + 1 ≡ row + (k + 1) = omega arith in
    rw kept (subst (λ n. IsRowSum s.line.now (map g.U.Numeric.number_in s.right.now) s.stride most c.args.column n next.0) more (c.with_row-next.ensures both.1 (c.loop-k.invariant both.0 before)))

use Rattle.std.proofs.Common.{◌≡◌, ◌+◌, ◌*◌, ◌/◌, length, map, refl, subst, arith}
use Rattle.apl_reduce.specs.Magnitudes.{IsProductSum}
use Rattle.apl_reduce.proofs.ProductSums.{halves_sum}
use Rattle.apl_reduce.proofs.product_sums.product_sum.Goals as goal

pub loop-k-init : goal.loop-k-init
loop-k-init g c = record {
  low = c.none-low.ensures _ _ c.args.near 0;
  high = c.none-high.ensures _ _ c.args.near _;
}

pub loop-k-preserved : goal.loop-k-preserved
loop-k-preserved g c =
    let here : 0 + c.loop-k.k ≡ c.loop-k.k = omega arith in
    record {
      low = c.with_next-low.ensures 0 c.loop-k.k here c.loop-k.invariant.low;
      high = c.with_next-high.ensures _ c.loop-k.k refl c.loop-k.invariant.high;
    }

pub returns-then-half-left : goal.returns-then-half-left
returns-then-half-left g c =
    let left = map g.T.Numeric.number_in c.args.left.now in
    let right = map g.U.Numeric.number_in c.args.right.now in
    let n = length c.args.left.now in
    let half = n / 2 in
    let both = halves_sum left right c.args.near n c.loop-k.k c.loop-k.low c.loop-k.high c.joined-both.result c.loop-k-test.false c.loop-k.auto.k-end c.loop-k.invariant.low c.loop-k.invariant.high
    (c.joined-both.ensures left right c.args.near 0 half half) in
    let here : 0 + (half + half) ≡ 2 * half = omega arith in
    let all : half + half + 1 ≡ n = omega (arith, c.if-half-left.true) in
    subst (λ m. IsProductSum left right c.args.near 0 m c.with_next.result) all (c.with_next.ensures 0 (half + half) here both)

pub returns-else-half-left : goal.returns-else-half-left
returns-else-half-left g c =
    let left = map g.T.Numeric.number_in c.args.left.now in
    let right = map g.U.Numeric.number_in c.args.right.now in
    let n = length c.args.left.now in
    let half = n / 2 in
    let both = halves_sum left right c.args.near n c.loop-k.k c.loop-k.low c.loop-k.high c.joined-both.result c.loop-k-test.false c.loop-k.auto.k-end c.loop-k.invariant.low c.loop-k.invariant.high
    (c.joined-both.ensures left right c.args.near 0 half half) in
    let all : half + half ≡ n = omega (arith, c.if-half-left.false) in
    subst (λ m. IsProductSum left right c.args.near 0 m c.joined-both.result) all both

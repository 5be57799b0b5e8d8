use Rattle.std.proofs.Common.{◌≡◌, ◌+◌, to_z, of_z, w64, refl, ap, ◌∙◌, rules}
use Rattle.std.proofs.lemmas.Int.{to_z-of_z}
use Rattle.apl_reduce.proofs.FourSums.{next_to, product_more}
use Rattle.apl_reduce.proofs.sums.Sums.narrow_sum_at.Goals as goal

pub loop-k-preserved : goal.loop-k-preserved
loop-k-preserved c =
    let sums = c.args.self.now in
    let layout = sums.layout.now in
    let k = c.loop-k.k in
    let starts = c.starts-left.ensures in
    let left = ap (λ n. n + k) starts.left ∙ next_to _ k _ (sums.left_near c.requires.narrow) in
    let right = ap (λ n. n + k) starts.right ∙ next_to _ k _ (sums.right_near c.requires.narrow) in
    let kept : to_z w64 (of_z w64 c.with_product-sum.result) ≡ c.with_product-sum.result = to_z-of_z w64 c.with_product-sum.result (search rules) in
    product_more layout sums.left.now sums.right.now c.args.line c.args.column k _ _ _ _ _ _ sums.small c.loop-k-test.true left right refl c.loop-k.invariant kept c.with_product-sum.ensures

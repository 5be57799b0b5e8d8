use Rattle.std.proofs.Common.{◌≡◌, ◌+◌, to_z, of_z, w64, ap, ◌∙◌, rules}
use Rattle.std.proofs.lemmas.Int.{to_z-of_z}
use Rattle.apl_reduce.proofs.FourSums.{next_to, product_more}
use Rattle.apl_reduce.proofs.sums.Sums.narrow_sums_at.Goals as goal

pub loop-k-preserved : goal.loop-k-preserved
loop-k-preserved c =
    let sums = c.args.self.now in
    let layout = sums.layout.now in
    let k = c.loop-k.k in
    let now = c.loop-k.sums in
    let line = c.args.line in
    let column = c.args.column in
    let left_near = sums.left_near c.requires.narrow in
    let right_near = sums.right_near c.requires.narrow in
    let left = ap (λ n. n + k) c.starts-left.ensures.left ∙ next_to _ k _ left_near in
    let first = ap (λ n. n + k) c.starts-left.ensures.right ∙ next_to _ k _ right_near in
    let second = ap (λ n. n + k) c.starts-second.ensures.right ∙ next_to _ k _ right_near in
    let third = ap (λ n. n + k) c.starts-third.ensures.right ∙ next_to _ k _ right_near in
    let fourth = ap (λ n. n + k) c.starts-fourth.ensures.right ∙ next_to _ k _ right_near in
    let inside = c.loop-k-test.true in
    let read_first : to_z w64 (of_z w64 now.first) ≡ now.first = to_z-of_z w64 now.first (search rules) in
    let kept_first : to_z w64 (of_z w64 c.with_product.result) ≡ c.with_product.result = to_z-of_z w64 c.with_product.result (search rules) in
    let read_second : to_z w64 (of_z w64 now.second) ≡ now.second = to_z-of_z w64 now.second (search rules) in
    let kept_second : to_z w64 (of_z w64 c.with_product-in-loop-k.result) ≡ c.with_product-in-loop-k.result = to_z-of_z w64 c.with_product-in-loop-k.result (search rules) in
    let read_third : to_z w64 (of_z w64 now.third) ≡ now.third = to_z-of_z w64 now.third (search rules) in
    let kept_third : to_z w64 (of_z w64 c.with_product-in-loop-k-2.result) ≡ c.with_product-in-loop-k-2.result = to_z-of_z w64 c.with_product-in-loop-k-2.result (search rules) in
    let read_fourth : to_z w64 (of_z w64 now.fourth) ≡ now.fourth = to_z-of_z w64 now.fourth (search rules) in
    let kept_fourth : to_z w64 (of_z w64 c.with_product-in-loop-k-3.result) ≡ c.with_product-in-loop-k-3.result = to_z-of_z w64 c.with_product-in-loop-k-3.result (search rules) in
    record {
      first = product_more layout sums.left.now sums.right.now line column k _ _ now.first _ _ _ sums.small inside left first read_first c.loop-k.invariant.first kept_first c.with_product.ensures;
      second = product_more layout sums.left.now sums.right.now line (column + 1) k _ _ now.second _ _ _ sums.small inside left second read_second c.loop-k.invariant.second kept_second c.with_product-in-loop-k.ensures;
      third = product_more layout sums.left.now sums.right.now line (column + 2) k _ _ now.third _ _ _ sums.small inside left third read_third c.loop-k.invariant.third kept_third c.with_product-in-loop-k-2.ensures;
      fourth = product_more layout sums.left.now sums.right.now line (column + 3) k _ _ now.fourth _ _ _ sums.small inside left fourth read_fourth c.loop-k.invariant.fourth kept_fourth c.with_product-in-loop-k-3.ensures;
    }

use Rattle.std.proofs.Common.{◌≡◌, ◌+◌, ◌*◌, ◌≤◌, subst, ◌∙◌, arith, map}
use Rattle.apl_reduce.specs.FourFolds.{ArePairSums}
use Rattle.apl_reduce.proofs.near_sums.quarters_turned.Goals as goal

pub returns : goal.returns
returns g c =
    let numbers = map g.T.Numeric.number_in c.args.numbers.now in
    let first = c.args.first in
    let n = c.args.quarter in
    let sums = c.pair_sums-sums in
    let starts = c.quarters.ensures in
    let few : n ≤ 8192 = omega (arith, c.requires.few) in
    let fourth : first + 2 * (2 * n) + 2 * n ≡ first + 2 * (2 * n) + 2 * n = omega arith in
    let one = subst (λ i. ArePairSums numbers i n sums.result.first) starts.first sums.ensures.first in
    let two = subst (λ i. ArePairSums numbers i n sums.result.second) starts.second sums.ensures.second in
    let three = subst (λ i. ArePairSums numbers i n sums.result.third) starts.third sums.ensures.third in
    let four = subst (λ i. ArePairSums numbers i n sums.result.fourth) (starts.fourth ∙ fourth) sums.ensures.fourth in
    let low = c.both-low.ensures numbers first n (omega (arith, few)) one two in
    let high = c.both-high.ensures numbers _ n (omega (arith, few)) three four in
    let all = c.both.ensures numbers first (2 * n) (omega (arith, few)) low high in
    c.turned.ensures numbers first (2 * (2 * n)) (omega (arith, few)) all

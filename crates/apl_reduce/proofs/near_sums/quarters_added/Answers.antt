use Rattle.std.proofs.Common.{◌≡◌, ◌+◌, ◌*◌, ◌≤◌, subst, ◌∙◌, arith, map}
use Rattle.apl_reduce.specs.Magnitudes.{IsSum}
use Rattle.apl_reduce.proofs.NearFolds.{near_plus}
use Rattle.apl_reduce.proofs.near_sums.quarters_added.Goals as goal

pub returns : goal.returns
returns g c = λ low total small.
    let numbers = map g.T.Numeric.number_in c.args.numbers.now in
    let first = c.args.first in
    let n = c.args.quarter in
    let sums = c.four_sums-sums in
    let starts = c.quarters.ensures in
    let few : n ≤ 16384 = omega (arith, c.requires.few) in
    let second : first + n ≡ first + n * 1 = omega arith in
    let third : first + 2 * n ≡ first + 2 * n * 1 = omega arith in
    let fourth : first + 2 * n + n ≡ first + 2 * n * 1 + n * 1 = omega arith in
    let one = subst (λ i. IsSum numbers i 1 n sums.result.first) starts.first sums.ensures.first in
    let two = subst (λ i. IsSum numbers i 1 n sums.result.second) (starts.second ∙ second) sums.ensures.second in
    let three = subst (λ i. IsSum numbers i 1 n sums.result.third) (starts.third ∙ third) sums.ensures.third in
    let four = subst (λ i. IsSum numbers i 1 n sums.result.fourth) (starts.fourth ∙ fourth) sums.ensures.fourth in
    let front = c.joined-low.ensures numbers first 1 n (omega (arith, few)) one two in
    let back = c.joined-high.ensures numbers _ 1 n (omega (arith, few)) three four in
    let all = c.joined.ensures numbers first 1 (2 * n) (omega (arith, few)) front back in
    near_plus c.range_is_decided.ensures.decided c.range_is_decided.ensures.bits numbers first (2 * (2 * n)) _ total (omega (arith, few)) (all low) small

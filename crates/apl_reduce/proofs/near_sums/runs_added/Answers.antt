use Rattle.std.proofs.Common.{◌≤◌, arith, map}
use Rattle.apl_reduce.proofs.NearFolds.{near_plus}
use Rattle.apl_reduce.proofs.near_sums.runs_added.Goals as goal

pub returns : goal.returns
returns g c =
    let few : c.args.count ≤ 65536 = omega (arith, c.requires.few) in
    let of = near_plus c.range_is_decided.ensures.decided c.range_is_decided.ensures.bits (map g.T.Numeric.number_in c.args.numbers.now) in
    let sums = c.four_sums.ensures in
    record {
      first = λ low total small. of _ c.args.count _ total few (sums.first low) small;
      second = λ low total small. of _ c.args.count _ total few (sums.second low) small;
      third = λ low total small. of _ c.args.count _ total few (sums.third low) small;
      fourth = λ low total small. of _ c.args.count _ total few (sums.fourth low) small;
    }

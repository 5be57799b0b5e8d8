use Rattle.std.proofs.Common.{rules, map}
use Rattle.apl_reduce.proofs.ExtremeFolds.{one_more}
use Rattle.apl_reduce.proofs.extreme_folds.each_extreme.Goals as goal

pub loop-k-preserved : goal.loop-k-preserved
loop-k-preserved g c =
    let starts = c.args.starts in
    let k = c.loop-k.k in
    let next = one_more g.E.Extreme.function g.E.Extreme.of_two c.of_two-one.ensures.laws (map g.T.Numeric.number_in c.args.numbers.now) in
    let first = next starts.first k _ _ c.loop-k.invariant.first in
    let second = next starts.second k _ _ c.loop-k.invariant.second in
    let third = next starts.third k _ _ c.loop-k.invariant.third in
    let fourth = next starts.fourth k _ _ c.loop-k.invariant.fourth in
    search rules

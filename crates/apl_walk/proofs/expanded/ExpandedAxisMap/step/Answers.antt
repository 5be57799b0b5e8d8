use Rattle.std.proofs.Common.{◌*◌, ◌≤◌, arith, mul-le-mul_right}
use Rattle.apl_walk.specs.declared.map.TheConstants.{MOST_STEP}
use Rattle.apl_walk.proofs.Bits.{ones_below}
use Rattle.apl_walk.proofs.expanded.ExpandedAxisMap.step.Goals as goal
use Rattle.apl_walk.proofs.expanded.ExpandedAxisMap.step.Goals.{After-count_before}

near : (c : After-count_before) → c.count_before.result * c.args.self.now.stride ≤ MOST_STEP
near c =
    let axis = c.args.self.now in
    let below = ones_below axis.counted.bits.now c.args.i c.requires c.if-self-i.true in
    omega (arith, mul-le-mul_right {m = c.count_before.result} {n = axis.counted.count} axis.stride (omega (arith, below, axis.counted.all, c.count_before.ensures)), axis.near)

pub overflow_mul-result : goal.overflow_mul-result
overflow_mul-result c = omega (arith, near c)

pub returns-then-self-i-clause-most : goal.returns-then-self-i-clause-most
returns-then-self-i-clause-most c = near c

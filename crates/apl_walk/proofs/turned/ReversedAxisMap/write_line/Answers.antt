use Rattle.std.proofs.Common.{◌-◌, arith, mul-le-mul_right}
use Rattle.apl_walk.proofs.Stepped.{values_back}
use Rattle.apl_walk.proofs.turned.ReversedAxisMap.write_line.Goals as goal

pub write_back-requires-else-self-eq1-clause-low : goal.write_back-requires-else-self-eq1-clause-low
write_back-requires-else-self-eq1-clause-low g c =
    let r = c.args.self.now in
    omega (arith, mul-le-mul_right {m = c.args.count - 1} {n = r.extent - 1 - c.args.from} r.stride (omega (arith, c.requires.within)))

pub returns-else-self-eq1-clause-values : goal.returns-else-self-eq1-clause-values
returns-else-self-eq1-clause-values g c =
    let r = c.args.self.now in
    values_back c.args.line.now _ c.args._fill r.extent r.stride c.args.from c.args.count c.requires.within c.requires.near c.write_back-else-self-eq1.ensures.each

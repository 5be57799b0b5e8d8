use Rattle.std.proofs.Common.{◌+◌, ◌-◌, arith}
use Rattle.apl_walk.proofs.Stepped.{step_most}
use Rattle.apl_walk.proofs.window.WindowAxisMap.step.Goals as goal

pub returns-then-i-self-clause-most : goal.returns-then-i-self-clause-most
returns-then-i-self-clause-most c = let w = c.args.self.now in step_most w (c.args.i + w.start - w.from) (omega (arith, c.if-self-i.true, c.if-i-self.true))

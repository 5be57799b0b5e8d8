use Rattle.std.proofs.Common.{◌+◌, ◌-◌, arith}
use Rattle.apl_walk.proofs.Stepped.{step_reach, values_within, window_further}
use Rattle.apl_walk.proofs.window.Window.write_within.Goals as goal

pub write_stretch-requires-clause-near : goal.write_stretch-requires-clause-near
write_stretch-requires-clause-near g c =
    let w = c.args.self.now in
    let last = c.args.from + (c.args.count - 1) in
    let reach = step_reach w.from w.to w.start w.stride last (omega arith) (omega arith) in
    omega (arith, reach, window_further w.from w.start w.stride c.args.from (c.args.count - 1) c.requires.from)

pub returns-clause-values : goal.returns-clause-values
returns-clause-values g c =
    let w = c.args.self.now in
    values_within c.args.line.now _ c.args.fill w.from w.to w.start w.stride c.args.from c.args.count c.requires.from c.requires.to c.requires.near c.write_stretch.ensures.each

use Rattle.std.proofs.Common.{arith}
use Rattle.apl_walk.proofs.Started.{start_next}
use Rattle.apl_walk.proofs.starts.Start.next.Goals as goal

pub returns-then-self-extent : goal.returns-then-self-extent
returns-then-self-extent c = start_next c.args.maps.now c.args.line c.args.self c.requires.start (omega (arith, c.requires.extent, c.if-self-extent.true))

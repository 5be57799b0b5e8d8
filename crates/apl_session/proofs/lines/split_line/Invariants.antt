use Rattle.std.proofs.Common.{take}
use Rattle.apl_session.specs.Lines.{IsUnbroken}
use Rattle.apl_session.proofs.lines.split_line.Given as goal

abbrev pub invariant-loop-at : goal.invariant-loop-at
invariant-loop-at l = IsUnbroken (take l.at l.bytes)

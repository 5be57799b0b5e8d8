use Rattle.std.proofs.Common.{length, drop, ◌-◌}
use Rattle.apl_tokens.specs.Scans.{IsNumeralRow, GoesOn}
use Rattle.apl_tokens.proofs.lexer.row_at.Given as goal

abbrev pub invariant-loop-next : goal.invariant-loop-next
invariant-loop-next l = IsNumeralRow l.text l.length l.count l.beyond l.values.items × GoesOn l.count (drop l.length l.text) l.next

abbrev pub decreases-loop-next : goal.decreases-loop-next
decreases-loop-next l = length l.text - l.length

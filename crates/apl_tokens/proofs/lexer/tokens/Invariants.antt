use Rattle.std.proofs.Common.{length, ◌-◌, ◌≤◌, drop}
use Rattle.apl_tokens.specs.Lexis.{LexesUpTo}
use Rattle.apl_tokens.proofs.lexer.tokens.Given as goal

abbrev pub invariant-loop-column : goal.invariant-loop-column
invariant-loop-column l = record {
  within : l.column ≤ length l.characters;
  before : LexesUpTo 0 l.characters l.tokens.items l.column (drop l.column l.characters);
}

abbrev pub decreases-loop-column : goal.decreases-loop-column
decreases-loop-column l = length l.characters - l.column

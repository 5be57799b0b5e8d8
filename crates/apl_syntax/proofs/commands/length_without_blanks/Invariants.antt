use Rattle.std.proofs.Common.{◌≤◌, length, drop}
use Rattle.apl_tokens.specs.Symbols.{is_blank}
use Rattle.apl_tokens.specs.Fronts.{AllPass}
use Rattle.apl_syntax.proofs.commands.length_without_blanks.Given as goal

abbrev pub invariant-loop-length : goal.invariant-loop-length
invariant-loop-length l = record {
  within : l.length ≤ length l.text;
  blank : AllPass is_blank (drop l.length l.text);
}

abbrev pub decreases-loop-length : goal.decreases-loop-length
decreases-loop-length l = l.length

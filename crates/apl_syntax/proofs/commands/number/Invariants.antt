use Rattle.std.proofs.Common.{◌≡◌, ◌≤◌, take, drop}
use Rattle.apl_tokens.specs.Symbols.{is_digit}
use Rattle.apl_tokens.specs.Fronts.{AllPass}
use Rattle.apl_tokens.specs.Lexis.{number_of_digits, number_after}
use Rattle.apl_syntax.proofs.commands.number.Given as goal

abbrev pub invariant-loop-c : goal.invariant-loop-c
invariant-loop-c l = record {
  so_far : number_of_digits l.argument ≡ number_after l.number (drop l.c-index l.argument);
  digits : AllPass is_digit (take l.c-index l.argument);
  small : l.number ≤ 255;
}

use Rattle.std.specs.Prelude.{◌≡◌, ◌≤◌, ◌^◌, drop}
use Rattle.apl_tokens.specs.Symbols.{is_digit}
use Rattle.apl_tokens.specs.Fronts.{AllPass}
use Rattle.apl_tokens.specs.Lexis.{number_of_digits, number_after}
use Rattle.apl_tokens.proofs.lexer.magnitude.Given as goal

abbrev pub invariant-loop-c : goal.invariant-loop-c
invariant-loop-c l = record {
  so_far : number_of_digits l.digits ≡ number_after l.n (drop l.c-index l.digits);
  digits : AllPass is_digit (drop l.c-index l.digits);
  small : l.n ≤ 2 ^ 63;
}

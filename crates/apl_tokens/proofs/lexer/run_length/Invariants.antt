use Rattle.std.specs.Prelude.{take}
use Rattle.apl_tokens.specs.Fronts.{AllPass}
use Rattle.apl_tokens.specs.Scans.{is_of_class}
use Rattle.apl_tokens.proofs.lexer.run_length.Given as goal

abbrev pub invariant-loop-i : goal.invariant-loop-i
invariant-loop-i l = AllPass (is_of_class l.class) (take l.i l.text)

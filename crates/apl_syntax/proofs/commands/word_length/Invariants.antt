use Rattle.std.proofs.Common.{take}
use Rattle.apl_tokens.specs.Fronts.{AllPass}
use Rattle.apl_syntax.specs.Commands.{is_no_blank}
use Rattle.apl_syntax.proofs.commands.word_length.Given as goal

abbrev pub invariant-loop-i : goal.invariant-loop-i
invariant-loop-i l = AllPass is_no_blank (take l.i l.text)

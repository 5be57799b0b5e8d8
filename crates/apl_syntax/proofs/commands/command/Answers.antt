use Rattle.apl_syntax.proofs.Words.{all_blank, other_mark}
use Rattle.apl_syntax.proofs.commands.command.Goals.{then-is_empty-via-then-is_empty, then-is_empty-via-else-is_empty+then-text-ne41}
use Rattle.apl_syntax.proofs.commands.command.Goals as goal

pub returns-then-is_empty-clause-none : goal.returns-then-is_empty-clause-none
returns-then-is_empty-clause-none c = elim c.then-is_empty.branch [
  | then-is_empty-via-then-is_empty w ↦ all_blank c.args.characters.now c.blanks_before.result c.blanks_before.ensures.blank c.blanks_before.ensures.longest c.is_empty.result c.is_empty.ensures w.if-is_empty.true
  | then-is_empty-via-else-is_empty+then-text-ne41 w ↦ other_mark c.args.characters.now c.blanks_before.result c.blanks_before.ensures.blank c.blanks_before.ensures.longest w.index-text-0.result w.index-text-0.is w.if-text-ne41.true
]

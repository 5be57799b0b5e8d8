use Rattle.apl_syntax.proofs.Words.{ends_at, not_blank}
use Rattle.apl_syntax.proofs.commands.length_without_blanks.Goals as goal

pub returns-else-text-length-eq32-clause-ends : goal.returns-else-text-length-eq32-clause-ends
returns-else-text-length-eq32-clause-ends c = ends_at c.args.text.now c.loop-length.length c.index-text-length.result c.loop-length-test.true c.loop-length.invariant.within c.index-text-length.is (not_blank c.index-text-length.result c.if-text-length-eq32.false)

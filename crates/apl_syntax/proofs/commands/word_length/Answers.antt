use Rattle.std.proofs.Common.{ap}
use Rattle.std.specs.Prelude.{not}
use Rattle.apl_syntax.specs.Commands.{is_no_blank}
use Rattle.apl_syntax.proofs.Words.{AllPass-more, not_blank}
use Rattle.apl_syntax.proofs.commands.word_length.Goals as goal

pub loop-i-preserved : goal.loop-i-preserved
loop-i-preserved c = AllPass-more is_no_blank c.args.text.now c.loop-i.i c.index-text-i.result c.loop-i-test.true c.loop-i.invariant c.index-text-i.is (ap not (not_blank c.index-text-i.result c.if-c-eq32.false))

use Rattle.std.proofs.Common.{sym, ◌∙◌}
use Rattle.apl_tokens.specs.Scans.{is_of_class}
use Rattle.apl_tokens.proofs.Runs.{AllPass-more}
use Rattle.apl_tokens.proofs.lexer.run_length.Goals as goal

pub loop-i-preserved : goal.loop-i-preserved
loop-i-preserved c = AllPass-more (is_of_class c.args.class) c.args.text.now c.loop-i.i c.index-text-i.result c.loop-i-test.true c.loop-i.invariant c.index-text-i.is (sym c.is_in.ensures ∙ c.if-not-is_in.false)

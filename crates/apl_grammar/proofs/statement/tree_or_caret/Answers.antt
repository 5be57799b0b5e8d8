use Rattle.apl_grammar.proofs.Total.{tree-or-caret}
use Rattle.apl_grammar.proofs.statement.tree_or_caret.Goals as goal

pub returns : goal.returns
returns c = tree-or-caret

use Rattle.apl_grammar.proofs.Viable.{spells-injective}
use Rattle.apl_grammar.proofs.statement.one_tree.Goals as goal

pub returns : goal.returns
returns c = spells-injective

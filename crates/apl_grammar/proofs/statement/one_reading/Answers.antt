use Rattle.apl_grammar.proofs.Operations.{operations-injective}
use Rattle.apl_grammar.proofs.statement.one_reading.Goals as goal

pub returns : goal.returns
returns c = operations-injective

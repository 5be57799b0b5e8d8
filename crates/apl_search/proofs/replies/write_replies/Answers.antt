use Rattle.std.proofs.Common.{rules}
use Rattle.apl_search.proofs.replies.write_replies.Goals as goal

pub returns-clause-values : goal.returns-clause-values
returns-clause-values g c = λ numbers table k d inside. let written = c.write_each.ensures.each k d inside in search rules

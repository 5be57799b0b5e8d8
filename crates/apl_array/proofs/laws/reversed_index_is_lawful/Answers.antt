use Rattle.apl_array.proofs.Joins.{count_of-reverse, IsIndexOf-reverse}
use Rattle.apl_array.proofs.laws.reversed_index_is_lawful.Goals as goal

pub returns-clause-count : goal.returns-clause-count
returns-clause-count c = count_of-reverse

pub returns-clause-lawful : goal.returns-clause-lawful
returns-clause-lawful c = IsIndexOf-reverse

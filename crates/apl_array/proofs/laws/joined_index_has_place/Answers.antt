use Rattle.apl_array.proofs.Joins.{count_of-append, IsIndexOf-append, IsIndexOf-front, IsIndexOf-back, place_of-append, index_at-append}
use Rattle.apl_array.proofs.laws.joined_index_has_place.Goals as goal

pub returns-clause-count : goal.returns-clause-count
returns-clause-count c = count_of-append

pub returns-clause-lawful : goal.returns-clause-lawful
returns-clause-lawful c = IsIndexOf-append

pub returns-clause-front : goal.returns-clause-front
returns-clause-front c = IsIndexOf-front

pub returns-clause-back : goal.returns-clause-back
returns-clause-back c = IsIndexOf-back

pub returns-clause-place : goal.returns-clause-place
returns-clause-place c = place_of-append

pub returns-clause-index : goal.returns-clause-index
returns-clause-index c = index_at-append

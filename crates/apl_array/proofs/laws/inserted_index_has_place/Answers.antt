use Rattle.std.proofs.Common.{add-one}
use Rattle.apl_array.proofs.Axes.{count_of-remove, IsIndexOf-insert, IsIndexOf-remove, place_of-insert}
use Rattle.apl_array.proofs.laws.inserted_index_has_place.Goals as goal

pub returns-clause-count : goal.returns-clause-count
returns-clause-count c = λ shape k inside. rw add-one (count_of-remove shape k inside)

pub returns-clause-lawful : goal.returns-clause-lawful
returns-clause-lawful c = IsIndexOf-insert

pub returns-clause-without : goal.returns-clause-without
returns-clause-without c = IsIndexOf-remove

pub returns-clause-place : goal.returns-clause-place
returns-clause-place c = λ shape k place i inside below. rw add-one (place_of-insert shape k place i inside below)

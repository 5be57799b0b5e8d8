use Rattle.std.proofs.Common.{add-one}
use Rattle.apl_array.proofs.Axes.{count_of-split, IsIndexOf-slice_set, place_of-slice_set}
use Rattle.apl_array.proofs.laws.replaced_index_has_place.Goals as goal

pub returns-clause-count : goal.returns-clause-count
returns-clause-count c = λ shape k inside. rw add-one (count_of-split shape k inside)

pub returns-clause-lawful : goal.returns-clause-lawful
returns-clause-lawful c = IsIndexOf-slice_set

pub returns-clause-place : goal.returns-clause-place
returns-clause-place c = λ shape k place i inside below. rw add-one (place_of-slice_set shape k place i inside below)

use Rattle.std.proofs.Common.{add-one}
use Rattle.apl_array.proofs.Joins.{count_of-slice_set, slice_index-changed, IsIndexOf-changed, place_of-changed}
use Rattle.apl_array.proofs.laws.changed_axis_has_place.Goals as goal

pub returns-clause-count : goal.returns-clause-count
returns-clause-count c = λ shape k m inside. rw add-one (count_of-slice_set shape k m inside)

pub returns-clause-index : goal.returns-clause-index
returns-clause-index c = λ shape k m place inside. rw add-one (slice_index-changed shape k m place inside)

pub returns-clause-lawful : goal.returns-clause-lawful
returns-clause-lawful c = IsIndexOf-changed

pub returns-clause-place : goal.returns-clause-place
returns-clause-place c = λ shape k m place i inside below. rw add-one (place_of-changed shape k m place i inside below)

use Rattle.std.proofs.Common.{add-one}
use Rattle.apl_array.proofs.Shapes.{slice_index-index_at}
use Rattle.apl_array.proofs.Joins.{place_of-split, outer-index_at, inner-index_at}
use Rattle.apl_array.proofs.laws.split_index_has_place.Goals as goal

pub returns-clause-place : goal.returns-clause-place
returns-clause-place c = λ shape index k inside len. rw add-one (place_of-split shape index k inside len)

pub returns-clause-outer : goal.returns-clause-outer
returns-clause-outer c = λ shape k place inside. rw add-one (outer-index_at shape k place inside)

pub returns-clause-index : goal.returns-clause-index
returns-clause-index c = λ shape k place inside. rw add-one (slice_index-index_at shape place k inside)

pub returns-clause-inner : goal.returns-clause-inner
returns-clause-inner c = λ shape k place below. rw add-one (inner-index_at shape k place below)

use Rattle.std.proofs.Common.{arith}
use Rattle.apl_array.proofs.Shapes.{place_of-bound, index_at-place_of, IsIndexOf-index_at, place_of-index_at}
use Rattle.apl_array.proofs.laws.places_match_index_lists.Goals as goal

pub returns-clause-below : goal.returns-clause-below
returns-clause-below c = place_of-bound

pub returns-clause-same_index : goal.returns-clause-same_index
returns-clause-same_index c = index_at-place_of

pub returns-clause-lawful : goal.returns-clause-lawful
returns-clause-lawful c = λ shape place below. IsIndexOf-index_at shape place (omega (arith, below))

pub returns-clause-same_place : goal.returns-clause-same_place
returns-clause-same_place c = place_of-index_at

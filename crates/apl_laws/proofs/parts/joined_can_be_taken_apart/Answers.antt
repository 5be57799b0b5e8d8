use Rattle.apl_laws.proofs.TakenApart.{first_of_joined, second_of_joined}
use Rattle.apl_laws.proofs.parts.joined_can_be_taken_apart.Goals as goal

pub returns-clause-first : goal.returns-clause-first
returns-clause-first c a b d s m n left right =
    let e = c.places_match_index_lists.ensures in
    first_of_joined record { below = e.below; same_index = e.same_index; lawful = e.lawful; same_place = e.same_place } c.shape_is_decided.ensures a b d s m n left.array right.array left.shape right.shape

pub returns-clause-second : goal.returns-clause-second
returns-clause-second c a b d s m n left right =
    let e = c.places_match_index_lists.ensures in
    second_of_joined record { below = e.below; same_index = e.same_index; lawful = e.lawful; same_place = e.same_place } c.shape_is_decided.ensures a b d s m n left.array right.array left.shape right.shape

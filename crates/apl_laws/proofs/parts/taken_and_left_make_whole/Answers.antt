use Rattle.apl_laws.proofs.TakenApart.{take_drop_join}
use Rattle.apl_laws.proofs.parts.taken_and_left_make_whole.Goals as goal

pub returns : goal.returns
returns c k b t d n m vector =
    let e = c.places_match_index_lists.ensures in
    take_drop_join record { below = e.below; same_index = e.same_index; lawful = e.lawful; same_place = e.same_place } c.shape_is_decided.ensures k b t d n m vector.array vector.shape

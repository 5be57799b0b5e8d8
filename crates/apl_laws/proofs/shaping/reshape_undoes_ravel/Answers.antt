use Rattle.apl_laws.proofs.Ravelled.{reshape_back}
use Rattle.apl_laws.proofs.shaping.reshape_undoes_ravel.Goals as goal

pub returns : goal.returns
returns c =
    let e = c.places_match_index_lists.ensures in
    reshape_back record { below = e.below; same_index = e.same_index; lawful = e.lawful; same_place = e.same_place } c.shape_is_decided.ensures

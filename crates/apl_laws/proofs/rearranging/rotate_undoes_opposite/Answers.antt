use Rattle.apl_laws.proofs.Rotated.{rotate_back}
use Rattle.apl_laws.proofs.rearranging.rotate_undoes_opposite.Goals as goal

pub returns : goal.returns
returns c =
    let e = c.places_match_index_lists.ensures in
    rotate_back record { below = e.below; same_index = e.same_index; lawful = e.lawful; same_place = e.same_place } c.replaced_index_has_place.ensures.lawful

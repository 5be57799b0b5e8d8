use Rattle.apl_laws.proofs.Expanded.{expand_back}
use Rattle.apl_laws.proofs.choosing.compress_undoes_expand.Goals as goal

pub returns : goal.returns
returns c =
    let e = c.places_match_index_lists.ensures in
    expand_back record { below = e.below; same_index = e.same_index; lawful = e.lawful; same_place = e.same_place } c.shape_is_decided.ensures
    c.changed_axis_has_place.ensures.lawful

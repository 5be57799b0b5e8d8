use Rattle.apl_laws.proofs.Reversed.{reverse_back}
use Rattle.apl_laws.proofs.rearranging.reverse_undoes_itself.Goals as goal

pub returns : goal.returns
returns c =
    let e = c.places_match_index_lists.ensures in
    reverse_back record { below = e.below; same_index = e.same_index; lawful = e.lawful; same_place = e.same_place } c.replaced_index_has_place.ensures.lawful

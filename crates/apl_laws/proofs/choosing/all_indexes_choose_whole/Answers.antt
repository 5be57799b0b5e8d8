use Rattle.apl_laws.proofs.Chosen.{all_chosen}
use Rattle.apl_laws.proofs.choosing.all_indexes_choose_whole.Goals as goal

pub returns : goal.returns
returns c =
    let e = c.places_match_index_lists.ensures in
    all_chosen record { below = e.below; same_index = e.same_index; lawful = e.lawful; same_place = e.same_place } c.shape_is_decided.ensures

use Rattle.apl_laws.proofs.Transposed.{transpose_back}
use Rattle.apl_laws.proofs.rearranging.transpose_undoes_itself.Goals as goal

pub returns : goal.returns
returns c =
    let e = c.places_match_index_lists.ensures in
    transpose_back record { below = e.below; same_index = e.same_index; lawful = e.lawful; same_place = e.same_place } c.reversed_index_is_lawful.ensures.lawful

use Rattle.apl_laws.proofs.TransposedBy.{transposed_alike}
use Rattle.apl_laws.proofs.rearranging.transpose_names_axes_in_reverse.Goals as goal

pub returns : goal.returns
returns c a b d origin axes =
    let e = c.places_match_index_lists.ensures in
    transposed_alike record { below = e.below; same_index = e.same_index; lawful = e.lawful; same_place = e.same_place } c.transposed_index_has_place.ensures.reversed
    b axes.shape axes.rank axes.indexes a d origin axes.is_shape axes.is_rank axes.is_indexes axes.is_axes

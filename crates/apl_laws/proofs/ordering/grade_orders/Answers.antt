use Rattle.apl_laws.proofs.Graded.{ascending, descending}
use Rattle.apl_laws.proofs.ordering.grade_orders.Goals as goal

pub returns-clause-up : goal.returns-clause-up
returns-clause-up c v g w n origin vector =
    let e = c.places_match_index_lists.ensures in
    ascending record { below = e.below; same_index = e.same_index; lawful = e.lawful; same_place = e.same_place } c.one_grade.ensures.up v g w n origin vector.array vector.shape

pub returns-clause-down : goal.returns-clause-down
returns-clause-down c v g w n origin vector =
    let e = c.places_match_index_lists.ensures in
    descending record { below = e.below; same_index = e.same_index; lawful = e.lawful; same_place = e.same_place } c.one_grade.ensures.down v g w n origin vector.array vector.shape

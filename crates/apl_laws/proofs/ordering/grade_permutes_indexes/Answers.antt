use Rattle.apl_search.specs.Ordering.{upwards, downwards}
use Rattle.apl_laws.proofs.Graded.{grade_permutes}
use Rattle.apl_laws.proofs.ordering.grade_permutes_indexes.Goals as goal

pub returns-clause-up : goal.returns-clause-up
returns-clause-up c v g s i n origin vector is =
    let e = c.places_match_index_lists.ensures in
    grade_permutes record { below = e.below; same_index = e.same_index; lawful = e.lawful; same_place = e.same_place } upwards c.one_grade.ensures.up v g origin n vector.array vector.shape is s i

pub returns-clause-down : goal.returns-clause-down
returns-clause-down c v g s i n origin vector is =
    let e = c.places_match_index_lists.ensures in
    grade_permutes record { below = e.below; same_index = e.same_index; lawful = e.lawful; same_place = e.same_place } downwards c.one_grade.ensures.down v g origin n vector.array vector.shape is s i

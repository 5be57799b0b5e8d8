use Rattle.apl_answer.proofs.Answers.{PlacesLaw, within_limits_from_answer}
use Rattle.apl_answer.proofs.Passed.{within_limits_from_row}
use Rattle.apl_answer.proofs.laws.answer_is_within_limits.Goals as goal

pub returns-clause-answer : goal.returns-clause-answer
returns-clause-answer c =
    let law = c.places_match_index_lists.ensures in
    let places : PlacesLaw = record { below = law.below; same_index = law.same_index; lawful = law.lawful; same_place = law.same_place } in
    within_limits_from_answer places

pub returns-clause-row : goal.returns-clause-row
returns-clause-row c =
    let law = c.places_match_index_lists.ensures in
    let places : PlacesLaw = record { below = law.below; same_index = law.same_index; lawful = law.lawful; same_place = law.same_place } in
    within_limits_from_row places

use Rattle.apl_answer.proofs.Answers.{PlacesLaw, array_iff, fault_iff}
use Rattle.apl_answer.proofs.laws.answer_is_each_outcome.Goals as goal

pub returns-clause-array : goal.returns-clause-array
returns-clause-array c =
    let law = c.places_match_index_lists.ensures in
    let places : PlacesLaw = record { below = law.below; same_index = law.same_index; lawful = law.lawful; same_place = law.same_place } in
    array_iff places

pub returns-clause-fault : goal.returns-clause-fault
returns-clause-fault c =
    let law = c.places_match_index_lists.ensures in
    let places : PlacesLaw = record { below = law.below; same_index = law.same_index; lawful = law.lawful; same_place = law.same_place } in
    fault_iff places

use Rattle.apl_answer.proofs.Answers.{PlacesLaw, in_range_from_answer}
use Rattle.apl_answer.proofs.laws.answer_is_in_range.Goals as goal

pub returns : goal.returns
returns c =
    let law = c.places_match_index_lists.ensures in
    let places : PlacesLaw = record { below = law.below; same_index = law.same_index; lawful = law.lawful; same_place = law.same_place } in
    in_range_from_answer places

use Rattle.apl_reduce.proofs.Refusals.{limits_are_answered}
use Rattle.apl_reduce.proofs.exact_folds.limits_are_answered.Goals as goal

pub returns : goal.returns
returns c = limits_are_answered c.places_match_index_lists.ensures.below c.places_match_index_lists.ensures.same_index c.places_match_index_lists.ensures.lawful

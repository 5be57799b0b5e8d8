use Rattle.apl_reduce.proofs.Refusals.{answers_told}
use Rattle.apl_reduce.proofs.ExactFolds.{exactly, reduction_told}
use Rattle.apl_reduce.proofs.ExactRows.{reduce_told, inner_told}
use Rattle.apl_reduce.proofs.exact_folds.exact_folds_decide.Goals as goal

pub returns-clause-list : goal.returns-clause-list
returns-clause-list c = λ f e identity numbers is inside. reduction_told c.range_is_decided.ensures.decided f e identity (exactly f e identity is) numbers inside

pub returns-clause-reduce : goal.returns-clause-reduce
returns-clause-reduce c = λ f e identity is shape numbers axis.
    let answers = answers_told c.places_match_index_lists.ensures.below c.places_match_index_lists.ensures.same_index c.places_match_index_lists.ensures.lawful in
    reduce_told c.range_is_decided.ensures.decided answers f e identity is shape numbers axis

pub returns-clause-inner : goal.returns-clause-inner
returns-clause-inner c = λ f g e h identity is has left right ns ms.
    let answers = answers_told c.places_match_index_lists.ensures.below c.places_match_index_lists.ensures.same_index c.places_match_index_lists.ensures.lawful in
    inner_told c.range_is_decided.ensures.decided answers f e identity is g h has left right ns ms

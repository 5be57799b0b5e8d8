use Rattle.apl_search.proofs.SearchLimits.{index_of_within, member_within, grade_up_within, grade_down_within}
use Rattle.apl_search.proofs.laws.search_answers_are_within_limits.Goals as goal

pub returns-clause-index_of : goal.returns-clause-index_of
returns-clause-index_of c = index_of_within c.answer_is_within_limits.ensures.row

pub returns-clause-member : goal.returns-clause-member
returns-clause-member c = member_within c.answer_is_within_limits.ensures.row

pub returns-clause-grade_up : goal.returns-clause-grade_up
returns-clause-grade_up c = grade_up_within c.answer_is_within_limits.ensures.row

pub returns-clause-grade_down : goal.returns-clause-grade_down
returns-clause-grade_down c = grade_down_within c.answer_is_within_limits.ensures.row

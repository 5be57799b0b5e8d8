use Rattle.apl_reduce.proofs.RowLimits.{reduce_within, outer_within, inner_within, decode_within, encode_within}
use Rattle.apl_reduce.proofs.laws.reduced_answers_are_within_limits.Goals as goal

pub returns-clause-reduce : goal.returns-clause-reduce
returns-clause-reduce c = reduce_within c.answer_is_within_limits.ensures.row c.shape_is_decided.ensures c.range_is_decided.ensures.decided c.answers_are_in_range.ensures.elements

pub returns-clause-outer : goal.returns-clause-outer
returns-clause-outer c = outer_within c.answer_is_within_limits.ensures.row c.shape_is_decided.ensures c.range_is_decided.ensures.decided c.answers_are_in_range.ensures.elements

pub returns-clause-inner : goal.returns-clause-inner
returns-clause-inner c = inner_within c.answer_is_within_limits.ensures.row c.shape_is_decided.ensures c.range_is_decided.ensures.decided c.answers_are_in_range.ensures.elements

pub returns-clause-decode : goal.returns-clause-decode
returns-clause-decode c = decode_within c.answer_is_within_limits.ensures.row c.shape_is_decided.ensures c.range_is_decided.ensures.decided c.answers_are_in_range.ensures.elements

pub returns-clause-encode : goal.returns-clause-encode
returns-clause-encode c = encode_within c.answer_is_within_limits.ensures.row c.shape_is_decided.ensures c.range_is_decided.ensures.decided c.answers_are_in_range.ensures.elements

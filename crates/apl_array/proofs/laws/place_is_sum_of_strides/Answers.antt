use Rattle.apl_array.proofs.Transpositions.{place_of-strides, place_of-reverse}
use Rattle.apl_array.proofs.laws.place_is_sum_of_strides.Goals as goal

pub returns-clause-place : goal.returns-clause-place
returns-clause-place c = place_of-strides

pub returns-clause-reversed : goal.returns-clause-reversed
returns-clause-reversed c = place_of-reverse

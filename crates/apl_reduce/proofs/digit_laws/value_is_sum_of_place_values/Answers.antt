use Rattle.apl_reduce.proofs.PlaceValues.{value_is, decoded_told, number_is}
use Rattle.apl_reduce.proofs.digit_laws.value_is_sum_of_place_values.Goals as goal

pub returns-clause-value : goal.returns-clause-value
returns-clause-value c = value_is

pub returns-clause-limit : goal.returns-clause-limit
returns-clause-limit c = decoded_told

pub returns-clause-number : goal.returns-clause-number
returns-clause-number c = number_is

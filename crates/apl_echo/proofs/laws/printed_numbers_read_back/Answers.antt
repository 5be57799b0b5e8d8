use Rattle.apl_echo.proofs.Numbers.{number_value_read, number_vector_read, no_number_read, numbers_fit}
use Rattle.apl_echo.proofs.laws.printed_numbers_read_back.Goals as goal

pub returns : goal.returns
returns c = record { value = number_value_read; vector_of_one = number_vector_read; no_number = no_number_read; fits = numbers_fit }

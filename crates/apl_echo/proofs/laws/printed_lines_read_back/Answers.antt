use Rattle.apl_echo.proofs.Numbers.{lines_read, no_lines_read}
use Rattle.apl_echo.proofs.laws.printed_lines_read_back.Goals as goal

pub returns : goal.returns
returns c = record { value = lines_read; no_number = no_lines_read }

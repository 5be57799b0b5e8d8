use Rattle.apl_echo.proofs.Texts.{text_value_read, text_vector_read, texts_fit, quoted_without}
use Rattle.apl_echo.proofs.laws.printed_text_reads_back.Goals as goal

pub returns : goal.returns
returns c = record { value = text_value_read; vector_of_one = text_vector_read; without_quotes = quoted_without; fits = texts_fit }

use Rattle.std.proofs.lemmas.Fmt.{decimal_is_IsNumeral, first_decimal}
use Rattle.apl_print.proofs.values.numerals.Goals as goal

pub returns-clause-digits : goal.returns-clause-digits
returns-clause-digits c = decimal_is_IsNumeral

pub returns-clause-first : goal.returns-clause-first
returns-clause-first c = first_decimal

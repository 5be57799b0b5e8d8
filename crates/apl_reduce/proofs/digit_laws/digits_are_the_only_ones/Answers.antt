use Rattle.std.proofs.Common.{refl}
use Rattle.apl_reduce.proofs.OnlyDigits.{digits_hold, digits_are, carries_are}
use Rattle.apl_reduce.proofs.digit_laws.digits_are_the_only_ones.Goals as goal

pub returns-clause-tested : goal.returns-clause-tested
returns-clause-tested c = λ radices b k. refl

pub returns-clause-holds : goal.returns-clause-holds
returns-clause-holds c = digits_hold

pub returns-clause-digits : goal.returns-clause-digits
returns-clause-digits c = digits_are

pub returns-clause-carries : goal.returns-clause-carries
returns-clause-carries c = carries_are

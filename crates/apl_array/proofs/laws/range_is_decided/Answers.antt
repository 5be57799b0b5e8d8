use Rattle.apl_array.proofs.Ranges.{in_range-from_IsInRange, IsInRange-from_in_range, FitsSigned-from_IsInRange, IsInRange-from_FitsSigned}
use Rattle.apl_array.proofs.laws.range_is_decided.Goals as goal

pub returns-clause-decided : goal.returns-clause-decided
returns-clause-decided c = λ z. (IsInRange-from_in_range z, in_range-from_IsInRange z)

pub returns-clause-bits : goal.returns-clause-bits
returns-clause-bits c = λ z. (FitsSigned-from_IsInRange z, IsInRange-from_FitsSigned z)

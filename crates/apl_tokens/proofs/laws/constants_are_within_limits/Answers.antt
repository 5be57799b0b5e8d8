use Rattle.apl_tokens.proofs.WithinLimits.{lexed_in}
use Rattle.apl_tokens.proofs.laws.constants_are_within_limits.Goals as goal

pub returns : goal.returns
returns c = lexed_in

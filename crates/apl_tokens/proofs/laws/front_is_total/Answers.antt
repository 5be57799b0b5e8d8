use Rattle.apl_tokens.proofs.FrontTotal.{IsFront-total}
use Rattle.apl_tokens.proofs.laws.front_is_total.Goals as goal

pub returns : goal.returns
returns c = IsFront-total

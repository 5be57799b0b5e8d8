use Rattle.apl_tokens.proofs.Texts.{IsFront-unique}
use Rattle.apl_tokens.proofs.laws.front_is_unique.Goals as goal

pub returns : goal.returns
returns c = IsFront-unique

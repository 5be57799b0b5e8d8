use Rattle.apl_tokens.proofs.Total.{Lexes-total}
use Rattle.apl_tokens.proofs.laws.lexing_is_total.Goals as goal

pub returns : goal.returns
returns c = Lexes-total

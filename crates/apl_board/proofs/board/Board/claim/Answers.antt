use Rattle.std.proofs.Common.{rules}
use Rattle.apl_board.proofs.Claims.{claims}
use Rattle.apl_board.proofs.board.Board.claim.Goals as goal

pub fetch_add-number-requires : goal.fetch_add-number-requires
fetch_add-number-requires c = (search rules, search rules, claims _ _ _ _ (search rules) (search rules) (search rules))

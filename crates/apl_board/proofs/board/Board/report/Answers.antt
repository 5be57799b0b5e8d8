use Rattle.std.proofs.Common.{rules}
use Rattle.apl_board.proofs.LeastPlaces.{reports}
use Rattle.apl_board.proofs.board.Board.report.Goals as goal

pub fetch_min-requires : goal.fetch_min-requires
fetch_min-requires c = (search rules, search rules, reports _ _ _ _ _ (search rules) (search rules))

use Rattle.std.proofs.Common.{rules}
use Rattle.apl_board.proofs.Splits.{joins, bounds}
use Rattle.apl_board.proofs.board.Board.join.Goals as goal

pub join_seat-requires : goal.join_seat-requires
join_seat-requires c = (search rules, search rules, search rules, search rules, joins _ _ _ _ _ (search rules))

pub load-requires : goal.load-requires
load-requires c = (search rules, search rules, bounds _ _ _ _)

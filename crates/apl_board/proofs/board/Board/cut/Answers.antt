use Rattle.std.proofs.Common.{rules}
use Rattle.apl_board.proofs.Splits.{splits}
use Rattle.apl_board.proofs.board.Board.cut.Goals as goal

pub split_seat-part-requires : goal.split_seat-part-requires
split_seat-part-requires g c = (search rules, search rules, splits _ _ _ _ (search rules) (search rules))

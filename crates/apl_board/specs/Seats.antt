-- What a clause says of a board and of its seats.
use Rattle.std.specs.Prelude.{◌≡◌, ℕ}
use Rattle.apl_board.specs.declared.board.Board.{Board}
use Rattle.apl_board.specs.declared.seat.BoardSeat.{BoardSeat}
use Rattle.apl_board.specs.declared.view.View.{View}

-- what the seat knows
abbrev pub view : BoardSeat → View
view s = s.seat.me.0

-- how many pieces the board was made with
abbrev pub pieces_of : Board → ℕ
pieces_of b = b.pieces

-- how many shares the board was made with
abbrev pub seats_of : Board → ℕ
seats_of b = b.seats

-- the seat is one of this board
abbrev pub IsSeatOf : Board → BoardSeat → Type 0
IsSeatOf b s = (s.seat.table_id ≡ b.table.shared.table_id) × ((view s).pieces ≡ b.pieces) × ((view s).seats ≡ b.seats)

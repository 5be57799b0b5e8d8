-- What a clause says of a table of rooms and of its seats.
use Rattle.std.specs.Prelude.{◌≡◌, ℕ, List, Option}
use Rattle.core.specs.declared.slots.Slots.{Slots}
use Rattle.apl_rooms.specs.declared.room.Room.{Room}
use Rattle.apl_rooms.specs.declared.rooms.Rooms.{Rooms}
use Rattle.apl_rooms.specs.declared.rooms.RoomSeat.{RoomSeat}
use Rattle.apl_rooms.specs.declared.view.View.{View}

-- what the seat knows
abbrev pub view : {X : Type 0} → RoomSeat X → View X
view s = s.seat.me.0

-- how many shares of the right to all rooms the seat has
abbrev pub share_of : {X : Type 0} → RoomSeat X → ℕ
share_of s = (view s).share

module _ {X F : Type 0} where
  -- how many shares there are
  abbrev pub seats_of : Rooms X F → ℕ
  seats_of rooms = rooms.table.shared.key.seats

  -- what is written into the rooms
  abbrev pub task_of : Rooms X F → F
  task_of rooms = rooms.table.shared.key.task.value

  -- the row that was cut into the rooms
  abbrev pub row_of : Rooms X F → Slots X
  row_of rooms = rooms.table.shared.key.row.value

  -- the rooms as they were laid out
  abbrev pub laid_out : Rooms X F → List (Option (Room X))
  laid_out rooms = rooms.table.shared.key.rooms.value.items

  -- the seat is one of these rooms'
  abbrev pub IsSeatOf : Rooms X F → RoomSeat X → Type 0
  IsSeatOf rooms s = (s.seat.table_id ≡ rooms.table.shared.table_id) × ((view s).rooms ≡ laid_out rooms)

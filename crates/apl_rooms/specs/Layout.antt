-- How a row is cut into the rooms of its pieces.
use Rattle.std.specs.Prelude.{◌≡◌, ℕ, ◌+◌, ◌*◌, ◌^◌, ◌<◌, ◌≤◌, List, Bool, false, true, length, slice_index_or, slice_range, Option, Some}
use mathlib.Core.Option.{some}
use lib.ListN.{get_elem?}
use denote.RattleType.{RattleType}
use denote.RawPtr.{Ptr}
use Rattle.core.specs.Ptr.{ptr_add}
use Rattle.core.specs.Mem.Slots.{slots_ptr, slots_len}
use Rattle.core.specs.Mem.Slots.Ownership.{bytes_of}
use Rattle.core.specs.declared.slots.Slots.{Slots}
use Rattle.apl_rooms.specs.declared.room.Room.{Room}

module _ (R : RattleType) (start : ℕ → ℕ) where
  -- the room is from where the piece with this number begins up to where it ends, in the places from `base` on
  abbrev pub IsRoomOf : Ptr → ℕ → Room R.Denot → Type 0
  IsRoomOf base n r = (r.ptr ≡ ptr_add R (start n) base) × (start n + r.len ≡ start (n + 1))

  -- the first `count` rooms
  abbrev pub AreFirstRooms : Ptr → ℕ → List (Option (Room R.Denot)) → Type 0
  AreFirstRooms base count rooms = (n : ℕ) → n < count → (r : Room R.Denot) × (get_elem? rooms n ≡ some (Some r)) × IsRoomOf base n r

  -- the places from `base` on, as many as `total`, are cut into the rooms of all pieces
  pub record AreRoomsFrom (base : Ptr) (total count : ℕ) (rooms : List (Option (Room R.Denot))) : Type 0 where
    pub number : length rooms ≡ count
    pub some_rooms : 0 < count
    pub first : start 0 ≡ 0
    pub last : start count ≡ total
    pub within : (n : ℕ) → n < count → start (n + 1) ≤ total
    pub each : AreFirstRooms base count rooms
    pub fits : total * bytes_of R < 2 ^ 63
    pub small : total < 2 ^ 64

  -- a row is cut into the rooms of all pieces
  abbrev pub AreRoomsOf : Slots R.Denot → ℕ → List (Option (Room R.Denot)) → Type 0
  AreRoomsOf row count rooms = AreRoomsFrom (slots_ptr row) (slots_len row) count rooms

-- the values in the places of a piece
abbrev pub piece_of : {X : Type 0} → (ℕ → ℕ) → ℕ → List X → List X
piece_of start n items = slice_range items (start n) (start (n + 1))

-- the values of each marked piece are right
abbrev pub AreMarkedRight : {X : Type 0} → (ℕ → List X → Type 0) → (ℕ → ℕ) → (count : ℕ) → List X → List Bool → Type 0
AreMarkedRight is_right start count items marks = (n : ℕ) → n < count → slice_index_or marks n false ≡ true → is_right n (piece_of start n items)

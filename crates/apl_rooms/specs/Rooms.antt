-- What becomes of a room that is cut, glued, or written through a borrow of its values.
use Rattle.std.specs.Prelude.{◌≡◌, ℕ, ◌+◌, ◌*◌, ◌^◌, ◌<◌, List, ◌++◌, length, take, drop}
use base.Fml.{Fml}
use denote.RattleType.{RattleType}
use denote.Array.{Array}
use denote.Ref.{MutBor}
use denote.Follow.{follows}
use Rattle.core.specs.List.{length_refill}
use Rattle.core.specs.Ptr.{ptr_add}
use Rattle.core.specs.Mem.Slots.Ownership.{bytes_of}
use Rattle.apl_rooms.specs.declared.room.Room.{Room}
use Rattle.apl_rooms.specs.contracts.room.Room.{the_row}

-- the room with other values. They are cut, or filled up from the room's, so that the length stays
abbrev pub with_items : {X : Type 0} → Room X → List X → Room X
with_items r ws = record { ptr = r.ptr; len = r.len; items = take r.len (ws ++ drop (length ws) r.items); ok = length_refill r.len r.items ws r.ok; small = r.small }

-- `slice` is all of the room. When the borrow ends, the room has what was written through it
abbrev pub room_follows_slice : (R : RattleType) → MutBor (Room R.Denot) → MutBor (List R.Denot) → Fml
room_follows_slice R room slice = follows (the_row R) (Array R 0) room.ghost_name slice.ghost_name (with_items room.now)

-- `front` has the first `mid` places of the room, and `rest` those after them
abbrev pub IsCut : (R : RattleType) → Room R.Denot → ℕ → Room R.Denot → Room R.Denot → Type 0
IsCut R room mid front rest =
    (front.items ≡ take mid room.items) × (rest.items ≡ drop mid room.items) × (front.ptr ≡ room.ptr) × (front.len ≡ mid)
    × (rest.ptr ≡ ptr_add R mid room.ptr) × (rest.len + mid ≡ room.len) × (room.len * bytes_of R < 2 ^ 63)

-- the second room begins where the first one ends, and both together are no more than a room may have
abbrev pub AreNeighbours : (R : RattleType) → Room R.Denot → Room R.Denot → Type 0
AreNeighbours R first second =
    (second.ptr ≡ ptr_add R first.len first.ptr) × ((first.len + second.len) * bytes_of R < 2 ^ 63) × (first.len + second.len < 2 ^ 64)

-- the places of both, in order
abbrev pub IsGlued : {X : Type 0} → Room X → Room X → Room X → Type 0
IsGlued first second both = (both.items ≡ first.items ++ second.items) × (both.ptr ≡ first.ptr) × (both.len ≡ first.len + second.len)

-- The rule of a table of rooms: what holds between any two steps. It is of the words, the rooms at home and the views of all seats.
use Rattle.std.specs.Prelude.{◌≡◌, ◌≢◌, ℕ, ◌+◌, ◌<◌, ◌==◌, cond, List, [], ◌∷◌, length, slice_index, Option, Some, None}
use mathlib.Core.Option.{some}
use lib.ListN.{get_elem?}
use Rattle.atomic_table.specs.Table.{State}
use Rattle.apl_rooms.specs.declared.room.Room.{Room}
use Rattle.apl_rooms.specs.declared.view.View.{View}
use Rattle.apl_rooms.specs.Views.{times, viewing}

module _ {X : Type 0} where
  -- f of each view, added up
  abbrev pub total : (View X → ℕ) → List (View X) → ℕ
  total f [] = 0
  total f (v ∷ vs) = f v + total f vs

  -- both rooms have the same places
  abbrev pub IsSameRoom : Option (Room X) → Option (Room X) → Type 0
  IsSameRoom (Some a) (Some b) = (b.ptr ≡ a.ptr) × (b.len ≡ a.len)
  IsSameRoom (Some a) None = ⊥
  IsSameRoom None b = ⊥

  -- the room has the places that were laid out for this number
  abbrev pub IsRoomAt : List (Option (Room X)) → ℕ → Room X → Type 0
  IsRoomAt rooms n r = (y : Option (Room X)) × (get_elem? rooms n ≡ some y) × IsSameRoom y (Some r)

  -- it has the values of its piece
  abbrev pub IsRightRoom : (List X → Type 0) → Option (Room X) → Type 0
  IsRightRoom right (Some r) = right r.items
  IsRightRoom right None = ⊥

  -- A seat's view. One with no share is the spent one that a join leaves
  pub record IsLawfulSeat (rooms : List (Option (Room X))) (v : View X) : Type 0 where
    pub rooms_are : 0 < v.share → v.rooms ≡ rooms
    pub idle : v.share ≡ 0 → v.out ≡ []

  -- the rule of a table for these rooms and this many shares
  pub record IsLawful (is_right : ℕ → List X → Type 0) (seats : ℕ) (rooms : List (Option (Room X))) (s : State (Option (Room X)) (View X)) : Type 0 where
    -- a word for each room: 1 if it is out, 2 if it is right
    pub words : length s.words ≡ length rooms
    -- the shares add up to the seats
    pub shares : total (λ v. v.share) s.views ≡ seats
    pub each : (id : ℕ) (v : View X) → get_elem? s.views id ≡ some v → IsLawfulSeat rooms v
    -- a room is out with one seat, and only if its word says so
    pub out : (n : ℕ) → n < length rooms → total (λ v. times n v.out) s.views ≡ cond (slice_index s.words n == 1) 1 0
    -- any other is at home, in its places
    pub home : (n : ℕ) (y : Option (Room X)) → get_elem? rooms n ≡ some y → slice_index s.words n ≢ 1
        → (x : Option (Room X)) × (get_elem? s.homes n ≡ some (some x)) × IsSameRoom y x × (slice_index s.words n ≡ 2 → IsRightRoom (is_right n) x)

  -- the view of the first seat
  abbrev pub opening_view : ℕ → List (Option (Room X)) → View X
  opening_view seats rooms = viewing rooms seats []

-- What a seat learns by each step on a room's word: of the step, the seat before, the number found and the seat after.
use Rattle.std.specs.Prelude.{◌≡◌, ℕ, ◌==◌, ◌∷◌, MatchBool, Option}
use mathlib.Core.Option.{some}
use lib.ListN.{get_elem?}
use Rattle.atomic_table.specs.Table.{Me, Step, rest}
use Rattle.apl_rooms.specs.declared.room.Room.{Room}
use Rattle.apl_rooms.specs.declared.view.View.{View}
use Rattle.apl_rooms.specs.Views.{with_out, with_none}
use Rattle.apl_rooms.specs.Rule.{IsSameRoom}

module _ {X : Type 0} where
  -- if the word was 0, the room is now with the seat
  abbrev pub taken : Step (Option (Room X)) → Me (Option (Room X)) (View X) → ℕ → Me (Option (Room X)) (View X) → Type 0
  taken st m found n = MatchBool (found == 0)
      ((y : Option (Room X)) × (x : Option (Room X)) × (get_elem? m.0.rooms st.word ≡ some y) × IsSameRoom y x × (n.1 ≡ (st.word, x) ∷ m.1) × (n.0 ≡ with_out m.0 st.word))
      (n ≡ m)

  -- the room that was taken last is at home, and none is out
  abbrev pub laid : Step (Option (Room X)) → Me (Option (Room X)) (View X) → ℕ → Me (Option (Room X)) (View X) → Type 0
  laid st m stored n = (n.1 ≡ rest m.1) × (n.0 ≡ with_none m.0)

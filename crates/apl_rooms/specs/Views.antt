-- What a seat knows, and what each call makes of it.
use Rattle.std.specs.Prelude.{ℕ, ◌+◌, ◌-◌, ◌==◌, cond, List, [], ◌∷◌, ◌++◌, Option}
use Rattle.apl_rooms.specs.declared.room.Room.{Room}
use Rattle.apl_rooms.specs.declared.view.View.{View}

-- how often n is in the list
abbrev pub times : ℕ → List ℕ → ℕ
times n [] = 0
times n (m ∷ ms) = cond (m == n) 1 0 + times n ms

module _ {X : Type 0} where
  -- what a seat with this share, and with these rooms out, knows
  abbrev pub viewing : List (Option (Room X)) → ℕ → List ℕ → View X
  viewing rooms share out = record { rooms = rooms; share = share; out = out }

  -- with one more room out
  abbrev pub with_out : View X → ℕ → View X
  with_out v n = viewing v.rooms v.share (n ∷ v.out)

  -- with none out
  abbrev pub with_none : View X → View X
  with_none v = viewing v.rooms v.share []

  -- what is left of a seat when one share is cut off
  abbrev pub rest_of : View X → View X
  rest_of v = viewing v.rooms (v.share - 1) v.out

  -- the seat that is cut off has one share and no room
  abbrev pub part_of : View X → View X
  part_of v = viewing v.rooms 1 []

  -- one seat of two
  abbrev pub joined : View X → View X → View X
  joined v w = viewing v.rooms (v.share + w.share) (v.out ++ w.out)

  -- what is left of a seat that was joined to another
  abbrev pub spent : View X
  spent = viewing [] 0 []

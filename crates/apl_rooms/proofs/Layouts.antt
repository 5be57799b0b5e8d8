-- Rooms are cut one behind the other, and glued.
use Rattle.std.proofs.Common.{◌≡◌, ℕ, ◌+◌, ◌*◌, ◌^◌, ◌<◌, ◌≤◌, List, [], ◌∷◌, ◌++◌, length, get_or, Option, Some, None, sym, ap, subst, ◌∙◌, arith}
use Rattle.std.proofs.Math.Nat.{mul-le-mul_right, lt_of_le_of_lt}
use mathlib.Core.Logic.{dite}
use native.Mathlib.Decide.{ℕ_discrete}
use mathlib.Core.Option.{some, some-injective}
use lib.ListN.{get_elem?}
use denote.RattleType.{RattleType}
use denote.RawPtr.{Ptr}
use Rattle.core.specs.Ptr.{ptr_add}
use Rattle.core.specs.Mem.Slots.Ownership.{bytes_of}
use Rattle.atomic_table.proofs.Lists.{at_longer, at_last, at_index}
use Rattle.apl_rooms.specs.declared.room.Room.{Room}
use Rattle.apl_rooms.specs.Layout.{AreFirstRooms, AreRoomsFrom, IsRoomOf}
use Rattle.apl_rooms.proofs.Lengths.{ptr_add-add}

-- what stands at a place, whatever it is told to be elsewhere
pub same_at : {A : Type 0} (l : List A) (n : ℕ) (x y : A) → x ≡ y → y ≡ get_or l n y → x ≡ get_or l n x
same_at {A} l n x y e is = subst (λ (z : A). z ≡ get_or l n z) (sym e) is

module _ (R : RattleType) (start : ℕ → ℕ) (base : Ptr) where
  -- one more room behind the first ones
  pub one_more : (n : ℕ) (rooms : List (Option (Room R.Denot))) (r : Room R.Denot) → length rooms ≡ n → AreFirstRooms R start base n rooms → IsRoomOf R start base n r → AreFirstRooms R start base (n + 1) (rooms ++ Some r ∷ [])
  one_more n rooms r len are its k lt =
      dite (ℕ_discrete k n)
      (λ e. subst (λ (j : ℕ). (x : Room R.Denot) × (get_elem? (rooms ++ Some r ∷ []) j ≡ some (Some x)) × IsRoomOf R start base j x) (sym e) (r, at_last rooms (Some r) n len, its))
      (λ ne. let old = are k (omega arith) in (old.0, at_longer rooms (Some r ∷ []) k (Some old.0) old.1, old.2))

  -- the places behind the room of a piece
  pub behind : (n mid : ℕ) (p q : Ptr) → p ≡ ptr_add R (start n) base → q ≡ ptr_add R mid p → start n + mid ≡ start (n + 1) → q ≡ ptr_add R (start (n + 1)) base
  behind n mid p q at next sum = next ∙ ap (ptr_add R mid) at ∙ ptr_add-add R (start n) mid base ∙ ap (λ (k : ℕ). ptr_add R k base) sum

  module _ (total count : ℕ) (rooms : List (Option (Room R.Denot))) (are : AreRoomsFrom R start base total count rooms) where
    -- the rooms of the first pieces, glued, reach up to the room of the next one, and both together fit
    pub glues : (n len : ℕ) (p : Ptr) (r : Room R.Denot) → n < count → p ≡ base → len ≡ start n → IsRoomOf R start base n r
        → (r.ptr ≡ ptr_add R len p) × ((len + r.len) * bytes_of R < 2 ^ 63) × (len + r.len < 2 ^ 64)
    glues n len p r lt at long its =
        let sum : len + r.len ≡ start (n + 1) = omega (arith, its.1) in
        let le : len + r.len ≤ total = omega (arith, are.within n lt) in (
          its.0 ∙ ap (λ (k : ℕ). ptr_add R k base) (sym long) ∙ ap (ptr_add R len) (sym at),
          lt_of_le_of_lt (mul-le-mul_right (bytes_of R) le) are.fits,
          omega (arith, le, are.small),
        )

    -- what is taken out at the place of a room that is still there is that room
    pub taken_is : (now : List (Option (Room R.Denot))) (n : ℕ) (x : Option (Room R.Denot)) → n < count → length now ≡ length rooms → get_elem? now n ≡ get_elem? rooms n → x ≡ get_or now n x
        → (r : Room R.Denot) × (x ≡ Some r) × IsRoomOf R start base n r
    taken_is now n x lt long same is =
        let its = are.each n lt in
        let at : get_elem? now n ≡ some x = at_index now n x (omega (arith, are.number)) is in
        (its.0, some-injective x (Some its.0) (sym at ∙ same ∙ its.1), its.2)

    pub taken_room : (now : List (Option (Room R.Denot))) (n : ℕ) (x : Option (Room R.Denot)) (r : Room R.Denot) → n < count → length now ≡ length rooms → get_elem? now n ≡ get_elem? rooms n → x ≡ get_or now n x → x ≡ Some r
        → IsRoomOf R start base n r
    taken_room now n x r lt long same is some_room =
        let its = taken_is now n x lt long same is in
        subst (λ (y : Option (Room R.Denot)). IsIn y) (sym its.1 ∙ some_room) its.2 where
          IsIn : Option (Room R.Denot) → Type 0
          IsIn (Some a) = IsRoomOf R start base n a
          IsIn None = ⊥

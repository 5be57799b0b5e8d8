-- How long the rooms are, and where they lie.
use Rattle.std.proofs.Common.{◌≡◌, ℕ, zero, suc, ◌+◌, ◌<◌, ◌≤◌, List, Option, Some, sym, ap, subst, refl, ◌∙◌, arith}
use Rattle.std.proofs.Math.Nat.{add-mul, zero-mul}
use mathlib.Core.Logic.{dite}
use native.Mathlib.Decide.{ℕ_discrete}
use mathlib.Core.Option.{some, some-injective}
use lib.ListN.{get_elem?}
use denote.RattleType.{RattleType}
use denote.RawPtr.{Ptr, block_ptr, null_ptr}
use Rattle.core.specs.Ptr.{ptr_add}
use Rattle.core.specs.Mem.Slots.Ownership.{bytes_of}
use Rattle.apl_rooms.specs.declared.room.Room.{Room}
use Rattle.apl_rooms.specs.Rule.{IsSameRoom}
use Rattle.apl_rooms.specs.Layout.{AreRoomsFrom, IsRoomOf}

-- places behind places
pub ptr_add-add : (R : RattleType) (k m : ℕ) (p : Ptr) → ptr_add R m (ptr_add R k p) ≡ ptr_add R (k + m) p
ptr_add-add R k m (block_ptr b o) = ap (λ (i : ℕ). block_ptr b i) (omega (arith, add-mul k m (bytes_of R)))
ptr_add-add R k m null_ptr = refl

pub ptr_add-zero : (R : RattleType) (p : Ptr) → ptr_add R 0 p ≡ p
ptr_add-zero R (block_ptr b o) = ap (λ (i : ℕ). block_ptr b i) (omega (arith, zero-mul (bytes_of R)))
ptr_add-zero R null_ptr = refl

module _ (R : RattleType) (start : ℕ → ℕ) (base : Ptr) (total count : ℕ) (rooms : List (Option (Room R.Denot))) (are : AreRoomsFrom R start base total count rooms) where
  -- a room of the same places as that of a piece lies where it does
  pub room_there : (n : ℕ) (y : Option (Room R.Denot)) (r : Room R.Denot) → n < count → get_elem? rooms n ≡ some y → IsSameRoom y (Some r) → IsRoomOf R start base n r
  room_there n y r lt at same =
      let its = are.each n lt in
      let same_room : IsSameRoom (Some its.0) (Some r) = subst (λ (z : Option (Room R.Denot)). IsSameRoom z (Some r)) (some-injective y (Some its.0) (sym at ∙ its.1)) same in
      (same_room.0 ∙ its.2.0, omega (arith, its.2.1, same_room.1))

  pub room_len : (n k : ℕ) (y : Option (Room R.Denot)) (r : Room R.Denot) → n < count → get_elem? rooms n ≡ some y → IsSameRoom y (Some r) → k ≡ r.len → start n + k ≡ start (n + 1)
  room_len n k y r lt at same len = omega (arith, (room_there n y r lt at same).1, len)

  -- no piece ends behind where a later one begins
  pub rising : (n k : ℕ) → k < n → n ≤ count → start (k + 1) ≤ start n
  rising zero k h l = absurd (omega arith)
  rising (suc n) k h l =
      let next : suc n ≡ n + 1 = omega arith in
      let step : start n ≤ start (suc n) = subst (λ (j : ℕ). start n ≤ start j) (sym next) (let i = (are.each n (omega arith)).2.1 in omega arith) in
      dite (ℕ_discrete k n)
      (λ e. subst (λ (j : ℕ). start (j + 1) ≤ start (suc n)) (sym e) (subst (λ (j : ℕ). start j ≤ start (suc n)) next (omega arith)))
      (λ ne. omega (arith, rising n k (omega arith) (omega arith), step))

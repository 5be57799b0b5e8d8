-- A room may cross threads as its values may.
use Rattle.std.specs.Prelude.{ℕ, List, [], ◌∷◌, Bool, true, false}
use base.Fraction.{full_share}
use base.Shift.{Keyless}
use denote.RattleType.{RattleType}
use denote.RawPtr.{Ptr, block_ptr, null_ptr, ◌+ₚ◌}
use denote.Struct.Struct.{exits_of}
use denote.Struct.Owning.{shape, fields, to}
use denote.Param.Send.{IsSend, AllSend, part_keyless, owning_send, struct_send, sendable}
use lib.ListN.{replicate}
use Rattle.std_alloc.proofs.SendSync.{quiet}
use Rattle.core.specs.Mem.Slots.Ownership.{slot, slots, owned, bytes_of}
use Rattle.apl_rooms.specs.contracts.room.Room as Room

module _ (R : RattleType) where
  slot-Keyless : IsSend R → (f : Bool) (p : Ptr) (x : R.Denot) → Keyless (slot R f p x)
  slot-Keyless s true (block_ptr b o) x = part_keyless R s full_share x b o
  slot-Keyless s true null_ptr x = tt
  slot-Keyless s false (block_ptr b o) x = tt
  slot-Keyless s false null_ptr x = tt

  slots-Keyless : IsSend R → (p : Ptr) (xs : List R.Denot) (fs : List Bool) → Keyless (slots R p xs fs)
  slots-Keyless s p [] fs = tt
  slots-Keyless s p (x ∷ xs) [] = tt
  slots-Keyless s p (x ∷ xs) (f ∷ fs) = (slot-Keyless s f p x, slots-Keyless s (p +ₚ bytes_of R) xs fs)

  owned-Keyless : IsSend R → (p : Ptr) (n : ℕ) (xs : List R.Denot) (fs : List Bool) → Keyless (owned R p n xs fs)
  owned-Keyless s (block_ptr b o) n xs fs = (tt, slots-Keyless s (block_ptr b o) xs fs)
  owned-Keyless s null_ptr n xs fs = (tt, tt)

  pub Room-send : IsSend R → IsSend (Room.the_row R)
  Room-send s =
      let O = Room.the_type R in let all : AllSend (fields O) = (search sendable, (search sendable, tt)) in
      owning_send O all (λ d. owned-Keyless s d.ptr d.len d.items (replicate d.len true)) (λ k. quiet (to O) (exits_of k (fields O)) ((struct_send (shape O) all).leaving k))

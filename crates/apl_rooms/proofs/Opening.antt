-- The rule holds of a table of rooms that were just laid out.
use Rattle.std.proofs.Common.{◌≡◌, ℕ, zero, suc, ◌<◌, List, [], ◌∷◌, Option, Some, replicate, slice_index, refl, sym, ap, subst, ◌∙◌, arith}
use Rattle.std.proofs.lemmas.List.{length-replicate, get_or-replicate}
use mathlib.Core.Option.{some, some-injective, some-ne-none}
use lib.ListN.{get_elem?}
use denote.RattleType.{RattleType}
use denote.RawPtr.{Ptr}
use Rattle.atomic_table.specs.Table.{opening}
use Rattle.atomic_table.proofs.Lists.{at_map}
use Rattle.apl_rooms.specs.declared.room.Room.{Room}
use Rattle.apl_rooms.specs.declared.view.View.{View}
use Rattle.apl_rooms.specs.Rule.{IsSameRoom, IsLawful, IsLawfulSeat, opening_view}
use Rattle.apl_rooms.specs.Layout.{AreRoomsFrom}
use Rattle.apl_rooms.proofs.Keeps.{is_out, inside_of}

module _ (R : RattleType) (start : ℕ → ℕ) (base : Ptr) (total count : ℕ) (rooms : List (Option (Room R.Denot))) (are : AreRoomsFrom R start base total count rooms) where
  pub opens_lawfully : (is_right : ℕ → List R.Denot → Type 0) (seats : ℕ) (words : List ℕ) → 0 < seats → words ≡ replicate count 0 → IsLawful is_right seats rooms (opening words rooms (opening_view seats rooms))
  opens_lawfully is_right seats words some_seats is = subst (λ (ws : List ℕ). IsLawful is_right seats rooms (opening ws rooms (opening_view seats rooms))) (sym is) record {
    words = length-replicate count 0 ∙ sym are.number;
    shares = omega arith;
    each = only;
    out = λ n lt. let zero_word : slice_index (replicate count 0) n ≡ 0 = get_or-replicate count n 0 0 (omega (arith, are.number)) in sym (ap is_out zero_word);
    home = λ n y at not_out.
        let lt : n < count = omega (arith, inside_of rooms n y at, are.number) in
        let its = are.each n lt in
        let same : IsSameRoom y y = subst (λ (z : Option (Room R.Denot)). IsSameRoom z z) (some-injective (Some its.0) y (sym its.1 ∙ at)) (refl, refl) in
        let zero_word : slice_index (replicate count 0) n ≡ 0 = get_or-replicate count n 0 0 lt in
        (y, at_map some rooms n y at, same, λ two. absurd (omega (arith, zero_word)));
  } where
    only : (id : ℕ) (v : View R.Denot) → get_elem? (opening_view seats rooms ∷ []) id ≡ some v → IsLawfulSeat rooms v
    only zero v e = subst (IsLawfulSeat rooms) (some-injective (opening_view seats rooms) v e) record { rooms_are = λ _. refl; idle = λ _. refl }
    only (suc id) v e = absurd (some-ne-none v (sym e))

-- the rooms of the same places, as many
pub rooms_same : (R : RattleType) (start : ℕ → ℕ) (base base' : Ptr) (total total' count : ℕ) (rooms rooms' : List (Option (Room R.Denot))) → base ≡ base' → total ≡ total' → rooms ≡ rooms'
    → AreRoomsFrom R start base total count rooms → AreRoomsFrom R start base' total' count rooms'
rooms_same R start base base' total total' count rooms rooms' p q r are =
    subst (λ (x : Ptr × ℕ × List (Option (Room R.Denot))). AreRoomsFrom R start x.0 x.1 count x.2) (λ i. (p i, q i, r i)) are

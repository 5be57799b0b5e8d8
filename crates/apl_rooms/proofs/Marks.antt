-- What is known of the rooms that a table gives back, and of the marks of those that are right.
use Rattle.std.proofs.Common.{◌≡◌, ℕ, zero, suc, ◌+◌, ◌-◌, ◌<◌, ◌≤◌, ◌==◌, Bool, true, false, List, [], ◌∷◌, ◌++◌, length, get_or, take, drop, Option, Some, None, slice_index, slice_range, refl, sym, ap, subst, ◌∙◌, arith}
use Rattle.std.proofs.lemmas.Bool.Decides.{nat_tests}
use Rattle.std.proofs.lemmas.List.{take-append-le, drop-append-le}
use Rattle.std.proofs.Math.Seq.{drop-append_seam}
use mathlib.Core.Logic.{dite}
use native.Mathlib.Decide.{ℕ_discrete}
use mathlib.Core.Option.{some, some-injective, some-ne-none}
use lib.ListN.{get_elem?, length-drop}
use denote.RattleType.{RattleType}
use denote.RawPtr.{Ptr}
use Rattle.atomic_table.specs.Table.{Final, Seen}
use Rattle.apl_rooms.specs.declared.room.Room.{Room}
use Rattle.apl_rooms.specs.declared.view.View.{View}
use Rattle.apl_rooms.specs.Rule.{IsSameRoom, IsRightRoom, IsLawful}
use Rattle.apl_rooms.specs.Layout.{AreRoomsFrom, IsRoomOf}
use Rattle.apl_rooms.proofs.Keeps.{all_back}

pub at_get : (xs : List ℕ) (i a : ℕ) → get_elem? xs i ≡ some a → slice_index xs i ≡ a
at_get [] i a e = absurd (some-ne-none a (sym e))
at_get (x ∷ xs) zero a e = some-injective x a e
at_get (x ∷ xs) (suc i) a e = at_get xs i a e

module _ (R : RattleType) (start : ℕ → ℕ) (base : Ptr) (total count : ℕ) (rooms : List (Option (Room R.Denot))) (are : AreRoomsFrom R start base total count rooms) where
  -- what a closed table gives at a number is the room of this piece, and where its word says so it is right
  pub closed_room : (is_right : ℕ → List R.Denot → Type 0) (seats id : ℕ) (v : View R.Denot) (ws : List ℕ) (xs : List (Option (Room R.Denot))) → v.share ≡ seats → v.out ≡ [] → Final (Seen (IsLawful is_right seats rooms) id v) ws xs
      → (n : ℕ) (x : Option (Room R.Denot)) → n < count → get_elem? xs n ≡ some x → (r : Room R.Denot) × (x ≡ Some r) × IsRoomOf R start base n r × (slice_index ws n ≡ 2 → is_right n r.items)
  closed_room is_right seats id v ws xs all none_out final n x lt at =
      let its = are.each n lt in
      let back = all_back is_right seats rooms id v ws xs all none_out final n (Some its.0) its.1 in
      let same : back.0 ≡ x = some-injective back.0 x (sym back.1 ∙ at) in
      found x its.0 its.2 (subst (λ (y : Option (Room R.Denot)). IsSameRoom (Some its.0) y) same back.2) (λ e. subst (λ (y : Option (Room R.Denot)). IsRightRoom (is_right n) y) same (back.3 e)) where
        found : (y : Option (Room R.Denot)) (r : Room R.Denot) → IsRoomOf R start base n r → IsSameRoom (Some r) y → (slice_index ws n ≡ 2 → IsRightRoom (is_right n) y)
            → (a : Room R.Denot) × (y ≡ Some a) × IsRoomOf R start base n a × (slice_index ws n ≡ 2 → is_right n a.items)
        found (Some a) r its same right = (a, refl, (same.0 ∙ its.0, omega (arith, its.1, same.1)), right)
        found None r its same right = absurd same

-- the room that was found is the one that is told of
pub room_said : (R : RattleType) (start : ℕ → ℕ) (base : Ptr) (right : List R.Denot → Type 0) (n word : ℕ) (x : Option (Room R.Denot)) (told room : Room R.Denot) → x ≡ Some told → x ≡ Some room → IsRoomOf R start base n told → (word ≡ 2 → right told.items)
    → IsRoomOf R start base n room × (word ≡ 2 → right room.items)
room_said R start base right n word x told room is found place values = subst IsIn (sym is ∙ found) (place, values) where
  IsIn : Option (Room R.Denot) → Type 0
  IsIn (Some a) = IsRoomOf R start base n a × (word ≡ 2 → right a.items)
  IsIn None = ⊥

pushed_last : (marks : List Bool) (b : Bool) (n : ℕ) → length marks ≡ n → get_or (marks ++ b ∷ []) n false ≡ b
pushed_last [] b zero e = refl
pushed_last [] b (suc n) e = absurd (omega arith)
pushed_last (m ∷ marks) b zero e = absurd (omega arith)
pushed_last (m ∷ marks) b (suc n) e = pushed_last marks b n (omega arith)

pushed_before : (marks : List Bool) (b : Bool) (k : ℕ) → k < length marks → get_or (marks ++ b ∷ []) k false ≡ get_or marks k false
pushed_before [] b k lt = absurd (omega arith)
pushed_before (m ∷ marks) b zero lt = refl
pushed_before (m ∷ marks) b (suc k) lt = pushed_before marks b k (omega arith)

pub two : (word : ℕ) → word == 2 ≡ true → word ≡ 2
two word e = grind (arith, nat_tests)

module _ {X : Type 0} where
  range_front : (xs ys : List X) (a b : ℕ) → a ≤ b → b ≤ length xs → slice_range (xs ++ ys) a b ≡ slice_range xs a b
  range_front xs ys a b low high =
      ap (take (b - a)) (drop-append-le a xs ys (omega arith)) ∙ take-append-le (b - a) (drop a xs) ys (omega (arith, length-drop a xs))

  all_of : (ys : List X) (n : ℕ) → length ys ≡ n → take n ys ≡ ys
  all_of [] zero e = refl
  all_of [] (suc n) e = refl
  all_of (y ∷ ys) zero e = absurd (omega arith)
  all_of (y ∷ ys) (suc n) e = ap (λ (l : List X). y ∷ l) (all_of ys n (omega arith))

  range_back : (xs ys : List X) (a b : ℕ) → a ≡ length xs → a + length ys ≡ b → slice_range (xs ++ ys) a b ≡ ys
  range_back xs ys a b here there =
      ap (λ (k : ℕ). take (b - a) (drop k (xs ++ ys))) here ∙ ap (take (b - a)) (drop-append_seam xs ys) ∙ all_of ys (b - a) (omega arith)

  -- one more piece is marked as right only where it is
  pub marked_next : (is_right : ℕ → List X → Type 0) (start : ℕ → ℕ) (n : ℕ) (marks : List Bool) (b : Bool) (xs ys : List X) → length marks ≡ n → start n ≡ length xs → start n + length ys ≡ start (n + 1)
      → ((k : ℕ) → k < n → (start k ≤ start (k + 1)) × (start (k + 1) ≤ start n)) → (b ≡ true → is_right n ys)
      → ((k : ℕ) → k < n → get_or marks k false ≡ true → is_right k (slice_range xs (start k) (start (k + 1))))
      → (k : ℕ) → k < n + 1 → get_or (marks ++ b ∷ []) k false ≡ true → is_right k (slice_range (xs ++ ys) (start k) (start (k + 1)))
  marked_next is_right start n marks b xs ys long here there order right before k lt mark =
      dite (ℕ_discrete k n)
      (λ e. let its : is_right n ys = right (sym (pushed_last marks b n long) ∙ subst (λ (j : ℕ). get_or (marks ++ b ∷ []) j false ≡ true) e mark) in
      subst (λ (j : ℕ). is_right j (slice_range (xs ++ ys) (start j) (start (j + 1)))) (sym e)
      (subst (λ (l : List X). is_right n l) (sym (range_back xs ys (start n) (start (n + 1)) here there)) its))
      (λ ne. let low : k < n = omega arith in
      subst (λ (l : List X). is_right k l) (sym (range_front xs ys (start k) (start (k + 1)) (order k low).0 (let h = (order k low).1 in omega (arith, here))))
      (before k low (sym (pushed_before marks b k (omega (arith, long))) ∙ mark)))

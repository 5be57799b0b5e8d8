-- Elements that are found, and those that are nowhere.
use Rattle.std.proofs.Common.{◌≡◌, ℕ, suc, pos, ◌+◌, ◌-◌, ◌<◌, Bool, true, false, List, [], ◌∷◌, Ok, length, take, drop, map, get_or, nat_lt, if◌then◌else◌, lt-ltb, refl, sym, ap, ◌∙◌, ⊎_elim, le_refl, arith}
use Rattle.std.specs.List.{list_any, position_or_len}
use Rattle.std.proofs.lemmas.Bool.{true≢false, cases_Bool}
use Rattle.std.proofs.lemmas.List.{drop-map, take-map, get_or-drop, get_or-take}
use Rattle.std.proofs.lemmas.List.Sums.{position_or_len_is}
use Rattle.apl_array.specs.declared.array.Elem.{Elem}
use Rattle.apl_array.specs.declared.array.Elem.TheVariants.{Int, Chr}
use Rattle.apl_array.specs.declared.array.Kind.TheVariants.{Number, Character}
use Rattle.apl_array.specs.declared.axis.Origin.{Origin}
use Rattle.apl_array.specs.Array.{ArrayValue, IsArray, bit, element_in, kind_of}
use Rattle.apl_array.specs.Axes.{origin_number}
use Rattle.apl_array.specs.Shape.{count_of, place_of, index_at}
use Rattle.apl_search.specs.Searching.{is_same_element}
use Rattle.apl_search.specs.Finding.{first_place, found_outcome, member_outcome}
use Rattle.apl_search.proofs.Grades.{false_of}

-- a truth value is 1 or 0
pub bit_is : (b : Bool) → bit b ≡ pos (if b then 1 else 0)
bit_is true = refl
bit_is false = refl

both_more : (m n : ℕ) → nat_lt m n ≡ nat_lt (1 + m) (suc n)
both_more m n = grind arith

pub any_is_found : {X : Type 0} (p : X → Bool) (xs : List X) → list_any p xs ≡ nat_lt (position_or_len p xs) (length xs)
any_is_found p [] = refl
any_is_found p (x ∷ xs) =
    ⊎_elim
    (λ e. rw e (sym (lt-ltb 0 (suc (length xs)) (omega arith))))
    (λ e. rw e (any_is_found p xs ∙ both_more (position_or_len p xs) (length xs)))
    (cases_Bool (p x))

same_kind : (x y : Elem) → is_same_element x y ≡ true → kind_of x ≡ kind_of y
same_kind (Int m) (Int n) h = refl
same_kind (Chr c) (Chr d) h = refl
same_kind (Int m) (Chr d) h = absurd (true≢false (sym h))
same_kind (Chr c) (Int n) h = absurd (true≢false (sym h))

-- an element of another kind is nowhere
pub nowhere : (a b : ArrayValue) → IsArray a → IsArray b → (a.kind ≡ b.kind → ⊥) → (place : ℕ) → place < count_of b.shape → first_place a.ravel (element_in b place) ≡ length a.ravel
nowhere a b lawful_a lawful_b differ place inside =
    let x = element_in b place in
    let kind : kind_of x ≡ b.kind = lawful_b.kinds place (Int (pos 0)) (omega (arith, inside, lawful_b.len)) in
    position_or_len_is (λ y. is_same_element y x) a.ravel (length a.ravel) (Int (pos 0)) (le_refl (length a.ravel))
    (λ k h. false_of _ (λ e. differ (sym (lawful_a.kinds k (Int (pos 0)) h) ∙ same_kind (get_or a.ravel k (Int (pos 0))) x e ∙ kind)))
    (λ h. absurd (omega (arith, h)))

pub number_or_character : Number ≡ Character → ⊥
number_or_character e = cc

below_itself : (n : ℕ) → nat_lt n n ≡ false
below_itself n = grind arith

-- what the search for elements of another kind gives at each place
module _ (a b : ArrayValue) (lawful_a : IsArray a) (lawful_b : IsArray b) (differ : a.kind ≡ b.kind → ⊥)
    (place : ℕ) (inside : place < count_of b.shape) (same : place_of b.shape (index_at b.shape place) ≡ place) where
  pub past_the_end : (origin : Origin) → Ok (Int (pos (origin_number origin + count_of a.shape))) ≡ found_outcome a.ravel b origin (index_at b.shape place)
  past_the_end origin = rw (same, nowhere a b lawful_a lawful_b differ place inside, lawful_a.len) refl

  pub no_member : Ok (Int (pos 0)) ≡ member_outcome b a.ravel (index_at b.shape place)
  no_member =
      let x = element_in b place in
      rw (same, any_is_found (λ y. is_same_element y x) a.ravel, nowhere a b lawful_a lawful_b differ place inside, below_itself (length a.ravel)) refl

-- what is at a place of a part of a list
pub part_at : {T U : Type 0} (f : T → U) (xs : List T) (from to k : ℕ) (d : U) → k < to - from → get_or (map f (take (to - from) (drop from xs))) k d ≡ get_or (map f xs) (from + k) d
part_at f xs from to k d inside =
    ap (λ ys. get_or ys k d) (sym (take-map f (to - from) (drop from xs)) ∙ ap (take (to - from)) (sym (drop-map f from xs)))
    ∙ get_or-take (to - from) (drop from (map f xs)) k d inside ∙ get_or-drop from (map f xs) k d

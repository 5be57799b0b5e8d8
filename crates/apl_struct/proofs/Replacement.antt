-- The number at each place is that of the last choice of its index list.
use Rattle.std.proofs.Common.{◌≡◌, ℕ, pos, zero, suc, ◌+◌, ◌-◌, ◌*◌, ◌<◌, ◌≤◌, Bool, true, false, List, [], ◌∷◌, length, take, drop, map, Option, Some, None, Ok, slice_index_or, inl, refl, ap, sym, ◌∙◌, arith}
use Rattle.std.specs.Prelude.{nat_eq, ◌||◌, ◌↔◌, if◌then◌else◌}
use Rattle.std.proofs.lemmas.Bool.{eq-eqb, eqb-true}
use Rattle.std.proofs.lemmas.Bool.Decides.{same_from_decides}
use Rattle.std.proofs.lemmas.Slice.Eq.{bytes_eq-Decides}
use Rattle.std.proofs.lemmas.Grind.{get_or-set_at}
use Rattle.std.proofs.lemmas.List.{get_or-set_other, get_or_default, take_rest}
use Rattle.std.proofs.lemmas.Nat.{mod-mul-add, div-mul-add}
use Rattle.std.proofs.Math.ListN.{set, get_or-map}
use Rattle.apl_array.specs.declared.array.Elem.TheVariants.{Int}
use Rattle.apl_array.specs.declared.array.Elem.{Elem}
use Rattle.apl_array.specs.declared.array.Kind.{Kind}
use Rattle.apl_array.specs.declared.axis.Origin.{Origin}
use Rattle.apl_array.specs.Shape.{IsIndexOf, count_of, place_of, index_at}
use Rattle.apl_array.specs.Array.{ArrayValue, IsArray, element_at}
use Rattle.apl_answer.specs.Arguments.{fill_of, has_one_element, is_same_shape}
use Rattle.apl_answer.specs.Elements.{array_with}
use Rattle.apl_answer.specs.Pointwise.{Outcomes, answer_of, IsAnswerOf, IsArrayAt, IsArrayOf}
use Rattle.apl_struct.specs.Indexing.{Slots, last_choice, replaced_element}
use Rattle.apl_walk.specs.declared.maps.Map.{Map}
use Rattle.apl_walk.specs.Steps.{and_step}
use Rattle.apl_walk.specs.Maps.{map_extent, map_step, walked}
use Rattle.apl_struct.specs.Numbering.{IsReached, last_number, value_numbered, element_numbered, value_step, IsReplacement}
use Rattle.apl_struct.specs.Selecting.{chosen_index, chosen_place}
use Rattle.apl_struct.proofs.Elements.{own_element}

pub same_numbers : (f g : ℕ → ℕ) (step p n : ℕ) → ((m : ℕ) → m < n → f m ≡ g m) → last_number f step p n ≡ last_number g step p n
same_numbers f g step p zero same = refl
same_numbers f g step p (suc n) same =
    let deeper = same_numbers f g step p n (λ m inside. same m (omega arith)) in
    ap (λ q. if nat_eq q p then n * step + 1 else last_number f step p n) (same n (omega arith)) ∙ ap (λ r. if nat_eq (g n) p then n * step + 1 else r) deeper

-- one more value, at its place
pub value_more : {T : Type 0} (elements values room : List T) (fill v : T) (choice : ℕ → ℕ) (step n q : ℕ) → q < length room → q ≡ choice n → v ≡ slice_index_or values (n * step) fill
    → ((p : ℕ) → p < length room → slice_index_or room p fill ≡ value_numbered elements values fill (last_number choice step p n) p)
    → (p : ℕ) → p < length room → slice_index_or (set room q v) p fill ≡ value_numbered elements values fill (last_number choice step p (suc n)) p
value_more elements values room fill v choice step n q within is value before p inside = by_test (nat_eq (choice n) p) refl
  where
    by_test : (b : Bool) → nat_eq (choice n) p ≡ b → slice_index_or (set room q v) p fill ≡ value_numbered elements values fill (if b then n * step + 1 else last_number choice step p n) p
    by_test true same =
        let number : suc (n * step) ≡ n * step + 1 = omega arith in
        get_or-set_at room q p v fill (sym (is ∙ eqb-true (choice n) p same)) within ∙ value ∙ ap (λ m. value_numbered elements values fill m p) number
    by_test false other =
        get_or-set_other room q p v fill (λ same. let test : nat_eq (choice n) p ≡ true = eq-eqb (choice n) p (sym is ∙ sym same) in absurd cc) ∙ before p inside

-- ---- lines of a walk

pub line_reached : (last : Map) (outer : List Map) (line i : ℕ) (base : Option ℕ) → walked outer line ≡ base → i < map_extent last
    → walked (last ∷ outer) (line * map_extent last + i) ≡ and_step (map_step last i) base
line_reached last outer line i base is inside = rw (mod-mul-add line (map_extent last) i inside, div-mul-add line (map_extent last) i inside, is) refl

-- the map of the last axis and the others, as a slice pattern gives them
pub joined_parts : (maps : List Map) (last : Map) → 0 < length maps → last ≡ slice_index_or maps 0 last → last ∷ take (length maps - 1) (drop 1 maps) ≡ maps
joined_parts [] last some is = absurd (omega arith)
joined_parts (m ∷ ms) last some is = ap (λ l. l ∷ take (length (m ∷ ms) - 1) ms) is ∙ ap (λ others. m ∷ others) (take_rest (m ∷ ms) 1)

pub not_reached : (n : ℕ) (step : Option ℕ) → IsReached n (and_step step None) → ⊥
not_reached n (Some m) is = is
not_reached n None is = is

-- ---- lists of values

pub numbered_element : {T : Type 0} (elem_of : T → Elem) (elements first values : List T) (fill : T) (blank : Elem) (number place : ℕ) → elem_of fill ≡ blank
    → slice_index_or first place fill ≡ slice_index_or elements place fill → elem_of (value_numbered first values fill number place) ≡ value_numbered (map elem_of elements) (map elem_of values) blank number place
numbered_element elem_of elements first values fill blank zero place is same = ap elem_of same ∙ sym (get_or-map elem_of elements place fill) ∙ ap (slice_index_or (map elem_of elements) place) is
numbered_element elem_of elements first values fill blank (suc number) place is same = sym (get_or-map elem_of values number fill) ∙ ap (slice_index_or (map elem_of values) number) is

-- ---- values

one_of_two : {X Y : Type 0} (f : X → Elem) (g : Y → Elem) (t : Bool) (x y : X) (u v : Y) → f x ≡ g u → f y ≡ g v → f (if t then x else y) ≡ g (if t then u else v)
one_of_two f g true x y u v here there = here
one_of_two f g false x y u v here there = there

-- the array of a list is the answer that has the same element at each place
pub list_answer : {T : Type 0}
    → ((shape : List ℕ) (outcome : Outcomes) (kind : Kind) (a : ArrayValue) → IsArray a → (answer_of shape outcome kind ≡ Ok a) ↔ IsArrayOf shape outcome kind a)
    → ((shape index : List ℕ) → IsIndexOf shape index → place_of shape index < count_of shape)
    → ((shape index : List ℕ) → IsIndexOf shape index → index_at shape (place_of shape index) ≡ index)
    → (f : T → Elem) (shape : List ℕ) (kind : Kind) (room : List T) (fill : T) (at_place : ℕ → Elem) (a : ArrayValue) → IsArray a → a ≡ array_with f kind shape room
    → ((place : ℕ) → place < count_of shape → f (slice_index_or room place fill) ≡ at_place place) → IsArrayAt shape kind at_place (Ok a)
list_answer answers below inverse f shape kind room fill at_place a array is each element same =
    inl (sym ((answers shape (λ index. Ok (element index)) kind a array).1 (record {
      shape_is = ap (λ v. v.shape) is;
      kind_is = ap (λ v. v.kind) is;
      each = λ index lawful.
          let place = place_of shape index in
          let inside = below shape index lawful in
          let len : length (map f room) ≡ count_of shape = rw is at array.len in
          ap Ok
          (sym (ap element (inverse shape index lawful)) ∙ (sym (same place inside) ∙ (sym (each place inside)
          ∙ (sym (get_or-map f room place fill) ∙ (get_or_default (map f room) place (f fill) (Int (pos 0)) (omega (arith, len, inside)) ∙ ap (λ v. element_at v index) (sym is))))));
    })))

-- the array that no choice changes
pub own_answer : ((shape : List ℕ) (outcome : Outcomes) (kind : Kind) (a : ArrayValue) → IsArray a → (answer_of shape outcome kind ≡ Ok a) ↔ IsArrayOf shape outcome kind a)
    → (a : ArrayValue) → IsArray a → IsAnswerOf (answer_of a.shape (λ index. Ok (element_at a index)) a.kind) (Ok a)
own_answer answers a array =
    inl (sym ((answers a.shape (λ index. Ok (element_at a index)) a.kind a array).1 (record { shape_is = refl; kind_is = refl; each = λ index lawful. refl })))

-- two index lists of a shape are the same where their places are
same_test : ((shape index : List ℕ) → IsIndexOf shape index → index_at shape (place_of shape index) ≡ index)
    → (shape x y : List ℕ) → IsIndexOf shape x → IsIndexOf shape y → is_same_shape x y ≡ nat_eq (place_of shape x) (place_of shape y)
same_test inverse shape x y is and =
    same_from_decides (is_same_shape x y) (nat_eq (place_of shape x) (place_of shape y)) (bytes_eq-Decides x y) (
      λ test. sym (inverse shape x is) ∙ ap (index_at shape) (eqb-true (place_of shape x) (place_of shape y) test) ∙ inverse shape y and,
      λ same. eq-eqb (place_of shape x) (place_of shape y) (ap (place_of shape) same),
    )

-- the value of a choice
value_of_choice : (a b : ArrayValue) (selected : List ℕ) (p m : ℕ) (index : List ℕ) → IsArray b → IsReplacement a b selected → m < count_of selected
    → element_numbered a b (m * value_step b + 1) p ≡ replaced_element a b index (Some m)
value_of_choice a b selected p m index array fits inside = by_test (has_one_element b.shape) refl
  where
    by_test : (one : Bool) → has_one_element b.shape ≡ one → element_numbered a b (m * value_step b + 1) p ≡ replaced_element a b index (Some m)
    by_test true one =
        let len : length b.ravel ≡ 1 = array.len ∙ eqb-true (count_of b.shape) 1 one in
        let first : m * 0 + 1 ≡ 1 = omega arith in
        rw (one, first) (get_or_default b.ravel 0 (fill_of a.kind) (Int (pos 0)) (omega arith))
    by_test false one =
        let same : b.shape ≡ selected = (bytes_eq-Decides b.shape selected).0 (ap (λ t. t || is_same_shape b.shape selected) (sym one) ∙ fits.each) in
        let number : m * 1 + 1 ≡ suc m = omega arith in
        let below : m < length b.ravel = omega (arith, array.len, ap count_of same) in
        rw (one, number) (get_or_default b.ravel m (fill_of a.kind) (Int (pos 0)) below)

module _ (inverse : (shape index : List ℕ) → IsIndexOf shape index → index_at shape (place_of shape index) ≡ index)
    (lawful : (shape : List ℕ) (place : ℕ) → place < count_of shape → IsIndexOf shape (index_at shape place))
    (back : (shape : List ℕ) (place : ℕ) → place < count_of shape → place_of shape (index_at shape place) ≡ place)
    (origin : Origin) (a b : ArrayValue) (slots : Slots) (selected : List ℕ) (chosen : (p : ℕ) → IsIndexOf a.shape (chosen_index origin selected slots p))
    (fits : IsReplacement a b selected) (a_array : IsArray a) (b_array : IsArray b) where
  pub last_chosen : (p n : ℕ) → p < count_of a.shape → n ≤ count_of selected
      → element_numbered a b (last_number (chosen_place origin a.shape selected slots) (value_step b) p n) p
      ≡ replaced_element a b (index_at a.shape p) (last_choice origin slots selected (index_at a.shape p) n)
  last_chosen p zero inside most = own_element back a p a_array inside
  last_chosen p (suc n) inside most =
      let index = index_at a.shape p in
      let place = chosen_place origin a.shape selected slots n in
      let test : is_same_shape (chosen_index origin selected slots n) index ≡ nat_eq place p =
      same_test inverse a.shape (chosen_index origin selected slots n) index (chosen n) (lawful a.shape p inside) ∙ ap (nat_eq place) (back a.shape p inside) in
      rw test (one_of_two (λ number. element_numbered a b number p) (replaced_element a b index) (nat_eq place p)
      (n * value_step b + 1) (last_number (chosen_place origin a.shape selected slots) (value_step b) p n) (Some n) (last_choice origin slots selected index n)
      (value_of_choice a b selected p n index b_array fits (omega arith)) (last_chosen p n inside (omega arith)))

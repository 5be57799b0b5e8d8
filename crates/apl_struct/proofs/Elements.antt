-- The elements of an argument by their places.
use Rattle.std.proofs.Common.{◌≡◌, get_or, pos, ℕ, ℤ, zero, suc, to_z, of_z, w64, ◌*◌, ◌/◌, ◌<◌, ◌≤◌, List, [], ◌∷◌, length, refl, ap, arith, ◌%◌, slice_index, ◌∙◌, true, ◌==◌, map, sym}
use Rattle.std.specs.Prelude.{Some, ◌||◌, slice_index_or, unsigned_abs}
use Rattle.std.proofs.Math.Nat.{mul-div_left, div-one, mod-eq_of_lt, mod-lt}
use Rattle.apl_array.specs.declared.array.Elem.TheVariants.{Int}
use Rattle.apl_array.specs.Array.{ArrayValue, IsArray, element_at, element_in}
use Rattle.apl_array.specs.Shape.{IsIndexOf, count_of, place_of, index_at}
use Rattle.apl_answer.specs.Arguments.{fill_of, has_elements, size_of, number_of, numbers_of, only_element}
use Rattle.apl_walk.specs.Gathered.{filled_at}
use Rattle.std.proofs.lemmas.Bool.Decides.{nat_tests}
use Rattle.std.proofs.Math.ListN.{get_or-map}
use Rattle.std.proofs.lemmas.List.{nil_from_length, get_or_default}
use Rattle.apl_array.specs.declared.array.Elem.{Elem}
use Rattle.apl_array.specs.declared.axis.Origin.{Origin}
use Rattle.apl_array.specs.declared.axis.Origin.TheVariants.{Zero, One}
use Rattle.apl_array.specs.Axes.{origin_number, place_number}
use Rattle.apl_struct.specs.Building.{reshape_source}

-- ---- an axis of a shape that has elements: `outer` blocks of `m` times `inner` places

pub record AxisFacts (outer m inner count : ℕ) : Type 0 where
  pub outer_some : 0 < outer
  pub length_some : 0 < m
  pub inner_some : 0 < inner
  pub count_is : count ≡ outer * (m * inner)
  pub outer_is : count / (m * inner) ≡ outer
  pub line_most : m * inner ≤ count
  pub length_most : m ≤ count
  pub inner_most : inner ≤ count

pub axis_facts : (outer m inner count : ℕ) → count ≡ outer * m * inner → 0 < count → AxisFacts outer m inner count
axis_facts zero m inner count is some = absurd (omega (arith, is, some))
axis_facts (suc outer) zero inner count is some = absurd (omega (arith, is, some))
axis_facts (suc outer) (suc m) zero count is some = absurd (omega (arith, is, some))
axis_facts (suc outer) (suc m) (suc inner) count is some =
    let all : count ≡ suc outer * (suc m * suc inner) = omega (arith, is) in
    record {
      outer_some = omega arith;
      length_some = omega arith;
      inner_some = omega arith;
      count_is = all;
      outer_is = rw all (mul-div_left (suc outer) (omega arith));
      line_most = omega (arith, all);
      length_most = omega (arith, all);
      inner_most = omega (arith, all);
    }

module _ (below : (shape index : List ℕ) → IsIndexOf shape index → place_of shape index < count_of shape) where
  -- the fill is taken nowhere within an argument
  pub filled_within : (b : ArrayValue) (index : List ℕ) → IsArray b → IsIndexOf b.shape index → filled_at b (Some (place_of b.shape index)) ≡ element_at b index
  filled_within b index array is = get_or_default b.ravel (place_of b.shape index) (fill_of b.kind) (Int (pos 0)) (omega (arith, array.len, below b.shape index is))

-- ---- the places of a vector are its indexes

pub vector_index : (shape : List ℕ) (n place : ℕ) → shape ≡ n ∷ [] → place < count_of shape → (place < n) × (slice_index (index_at shape place) 0 ≡ place)
vector_index shape n place is inside =
    let below : place < n = omega (arith, inside, ap count_of is) in
    (below, ap (λ s. slice_index (index_at s place) 0) is ∙ ap (λ p. p % n) (div-one place) ∙ mod-eq_of_lt below)

-- ---- the number of the first index as a count

pub origin_cast : (origin : Origin) (number : ℤ) → number ≡ pos (origin_number origin) → unsigned_abs (to_z w64 (of_z w64 number)) ≡ origin_number origin
origin_cast Zero number is = rw is refl
origin_cast One number is = rw is refl

-- ---- at a place

-- the fill is taken at no place of an argument
pub filled_in : (b : ArrayValue) (place : ℕ) → IsArray b → place < count_of b.shape → filled_at b (Some place) ≡ element_in b place
filled_in b place array inside = get_or_default b.ravel place (fill_of b.kind) (Int (pos 0)) (omega (arith, array.len))

-- and at each place of an argument without elements
pub filled_past : (b : ArrayValue) (place : ℕ) → IsArray b → count_of b.shape ≡ 0 → filled_at b (Some place) ≡ fill_of b.kind
filled_past b place array none = ap (λ xs. get_or xs place (fill_of b.kind)) (nil_from_length b.ravel (array.len ∙ none))

-- the element at a place is that at its index list
pub own_element : ((shape : List ℕ) (place : ℕ) → place < count_of shape → place_of shape (index_at shape place) ≡ place)
    → (a : ArrayValue) (p : ℕ) → IsArray a → p < count_of a.shape → slice_index_or a.ravel p (fill_of a.kind) ≡ element_at a (index_at a.shape p)
own_element back a p array inside =
    get_or_default a.ravel p (fill_of a.kind) (Int (pos 0)) (omega (arith, array.len, inside)) ∙ ap (element_in a) (sym (back a.shape p inside))

-- a scalar's only element is that at whatever index list
pub scalar_element : (b : ArrayValue) (place : ℕ) (index : List ℕ) → length b.shape ≡ 0 → place < count_of b.shape → element_in b place ≡ element_at b index
scalar_element b place index none inside =
    let shape : b.shape ≡ [] = nil_from_length b.shape none in
    let one : count_of b.shape ≡ 1 = ap count_of shape in
    let first : place ≡ 0 = omega (arith, inside, one) in
    rw shape (ap (element_in b) first)

pub one_item : {T : Type 0} (xs : List T) (d : T) → length xs ≡ 1 → xs ≡ get_or xs 0 d ∷ []
one_item [] d one = absurd (omega arith)
one_item (x ∷ xs) d one = ap (λ l. x ∷ l) (nil_from_length xs (omega arith))

-- the only number of an argument that has one element
pub only_number : (b : ArrayValue) → IsArray b → size_of b ≡ 1 → map place_number (numbers_of b) ≡ place_number (number_of (only_element b)) ∷ []
only_number b array one = ap (λ l. map place_number (map number_of l)) (one_item b.ravel (Int (pos 0)) (array.len ∙ one))

some_elements : (b : ArrayValue) (count place : ℕ) → (has_elements b || (count == 0)) ≡ true → place < count → 0 < size_of b
some_elements b count place fits inside = grind (arith, nat_tests)

-- the element of a list at a place, and past its end the fill, as what an argument of these elements has there
pub filled_value : {T : Type 0} (f : T → Elem) (b : ArrayValue) (xs : List T) (fill : T) (place : ℕ) → b.ravel ≡ map f xs → f fill ≡ fill_of b.kind
    → f (slice_index_or xs place fill) ≡ filled_at b (Some place)
filled_value f b xs fill place ravel fill_is =
    sym (get_or-map f xs place fill) ∙ ap (get_or (map f xs) place) fill_is ∙ ap (λ r. get_or r place (fill_of b.kind)) (sym ravel)

-- the elements in row order, again and again
pub element_round : {T : Type 0} (f : T → Elem) (b : ArrayValue) (xs : List T) (past fill : T) (extent place : ℕ) → b.ravel ≡ map f xs → length xs ≡ size_of b
    → f fill ≡ fill_of b.kind → slice_index_or xs (place % extent) past ≡ slice_index_or xs (place % length xs) fill
    → f (slice_index_or xs (place % extent) past) ≡ filled_at b (Some (reshape_source (size_of b) place))
element_round f b xs past fill extent place ravel size fill_is is =
    ap f is ∙ filled_value f b xs fill (place % length xs) ravel fill_is ∙ ap (λ n. filled_at b (Some (place % n))) size

pub element_again : (b : ArrayValue) (count place : ℕ) → IsArray b → (has_elements b || (count == 0)) ≡ true → place < count
    → filled_at b (Some (reshape_source (size_of b) place)) ≡ element_in b (reshape_source (size_of b) place)
element_again b count place array fits inside = filled_in b (place % size_of b) array (mod-lt place (some_elements b count place fits inside))

-- The elements of arguments that serve at a place of the extended shape.
use Rattle.std.proofs.Common.{◌≡◌, ℕ, ◌<◌, ◌==◌, ◌&&◌, Bool, true, false, List, [], ◌∷◌, length, map, replicate, Result, Ok, Err, refl, sym, ap, ◌∙◌, ⊎_elim, arith, if◌then◌else◌, pos}
use Rattle.std.proofs.lemmas.List.{length-map}
use Rattle.std.proofs.lemmas.Slice.Eq.{bytes_eq-Decides}
use Rattle.std.proofs.lemmas.Bool.{cases_Bool, true≢false}
use Rattle.std.specs.Prelude.{nat_lt}
use Rattle.apl_array.specs.declared.array.Elem.{Elem}
use Rattle.apl_array.specs.declared.array.Elem.TheVariants.{Int, Chr}
use Rattle.apl_array.specs.Shape.{count_of, place_of, index_at}
use Rattle.apl_array.specs.Array.{ArrayValue, IsArray, element_in, element_at, kind_of}
use Rattle.apl_answer.specs.declared.fault.OpFault.{OpFault}
use Rattle.apl_answer.specs.declared.fault.OpFault.TheVariants.{Rank, Length}
use Rattle.apl_array.specs.declared.function.ScalarFunction.{ScalarFunction}
use Rattle.apl_answer.specs.Arguments.{is_same_shape, has_one_element}
use Rattle.apl_scalar.specs.Extension.{extended_shape, source_index}
use Rattle.apl_scalar.specs.Scalar.{dyadic_of, compare_elements}
use Rattle.apl_scalar.specs.Dyadic.{dyadic_number}

pub same_from_test : (a b : List ℕ) → is_same_shape a b ≡ true → a ≡ b
same_from_test a b e = (bytes_eq-Decides a b).0 e

same_to_test : (a b : List ℕ) → a ≡ b → is_same_shape a b ≡ true
same_to_test a b e = (bytes_eq-Decides a b).1 e

differ_from_test : (a b : List ℕ) → is_same_shape a b ≡ false → a ≡ b → ⊥
differ_from_test a b other e = true≢false (sym (same_to_test a b e) ∙ other)

-- ---- which argument is extended

-- the extended shape, by its tests
chosen : (same one_left one_right less tie : Bool) → List ℕ → List ℕ → Result (List ℕ) OpFault
chosen same one_left one_right less tie a b =
    if same then Ok a
    else if one_left && one_right then (if less then Ok b else Ok a)
    else if one_left then Ok b
    else if one_right then Ok a
    else if tie then Err Length
    else Err Rank

chosen_right : (same one_left one_right less tie : Bool) (a b shape : List ℕ) → chosen same one_left one_right less tie a b ≡ Ok shape → (a ≡ shape → ⊥)
    → (one_left ≡ true) × (b ≡ shape)
unfolding chosen
chosen_right true one_left one_right less tie a b shape is other = absurd (other cc)
chosen_right false true true true tie a b shape is other = (refl, cc)
chosen_right false true true false tie a b shape is other = absurd (other cc)
chosen_right false true false less tie a b shape is other = (refl, cc)
chosen_right false false true less tie a b shape is other = absurd (other cc)
chosen_right false false false less true a b shape is other = absurd cc
chosen_right false false false less false a b shape is other = absurd cc

chosen_left : (same one_left one_right less tie : Bool) (a b shape : List ℕ) → chosen same one_left one_right less tie a b ≡ Ok shape → (same ≡ true → a ≡ b) → (b ≡ shape → ⊥)
    → one_right ≡ true
unfolding chosen
chosen_left true one_left one_right less tie a b shape is alike other = let e = alike refl in absurd (other cc)
chosen_left false one_left true less tie a b shape is alike other = refl
chosen_left false true false less tie a b shape is alike other = absurd (other cc)
chosen_left false false false less true a b shape is alike other = absurd cc
chosen_left false false false less false a b shape is alike other = absurd cc

one_from_test : (n : ℕ) → (n == 1) ≡ true → n ≡ 1
one_from_test n e = grind arith

-- the left argument is extended only where it has one element, and then the right one is whole
pub left_extended : (a b shape : List ℕ) → extended_shape a b ≡ Ok shape → is_same_shape a shape ≡ false → (count_of a ≡ 1) × (is_same_shape b shape ≡ true)
unfolding chosen
left_extended a b shape is other =
    let found = chosen_right (is_same_shape a b) (has_one_element a) (has_one_element b) (nat_lt (length a) (length b)) (length a == length b) a b shape is (differ_from_test a shape other) in
    (one_from_test (count_of a) found.0, same_to_test b shape found.1)

pub right_extended : (a b shape : List ℕ) → extended_shape a b ≡ Ok shape → is_same_shape b shape ≡ false → count_of b ≡ 1
unfolding chosen
right_extended a b shape is other =
    one_from_test (count_of b)
    (chosen_left (is_same_shape a b) (has_one_element a) (has_one_element b) (nat_lt (length a) (length b)) (length a == length b) a b shape is (same_from_test a b) (differ_from_test b shape other))

-- ---- the elements that serve at a place

-- the first index list has place 0
place_of-zeros : (shape : List ℕ) → place_of shape (replicate (length shape) 0) ≡ 0
place_of-zeros [] = refl
place_of-zeros (n ∷ ns) = omega (arith, place_of-zeros ns)

-- ---- by the law that a place is found again from its index list

module _ (same_place : (shape : List ℕ) (place : ℕ) → place < count_of shape → place_of shape (index_at shape place) ≡ place) where
  -- the element of an argument that serves at a place: its own, or the first one
  pub own_source : (a : ArrayValue) (shape : List ℕ) → is_same_shape a.shape shape ≡ true → (place : ℕ) → place < count_of shape
      → element_in a place ≡ element_at a (source_index a.shape shape (index_at shape place))
  own_source a shape e place inside =
      let same : a.shape ≡ shape = same_from_test a.shape shape e in
      let own : place_of a.shape (index_at shape place) ≡ place =
      ap (λ s. place_of s (index_at shape place)) same ∙ same_place shape place inside in
      rw e (ap (element_in a) (sym own))

  pub first_source : (a : ArrayValue) (shape : List ℕ) → is_same_shape a.shape shape ≡ false → (place : ℕ)
      → element_in a 0 ≡ element_at a (source_index a.shape shape (index_at shape place))
  first_source a shape e place = rw e (ap (element_in a) (sym (place_of-zeros a.shape)))

-- ---- a number and a character

-- an element is of its array's kind
pub own_kind : (a : ArrayValue) → IsArray a → (place : ℕ) → place < count_of a.shape → kind_of (element_in a place) ≡ a.kind
own_kind a lawful place inside = lawful.kinds place (Int (pos 0)) (omega (arith, lawful.len, inside))

pub mixed : (f : ScalarFunction) (x y : Elem) → (kind_of x ≡ kind_of y → ⊥) → compare_elements f false ≡ dyadic_of f x y
mixed f (Int x) (Int y) differ = absurd (differ refl)
mixed f (Int x) (Chr d) differ = refl
mixed f (Chr c) (Int y) differ = refl
mixed f (Chr c) (Chr d) differ = absurd (differ refl)

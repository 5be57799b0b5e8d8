-- Worked examples of the definitions.
use Rattle.std.proofs.Common.{◌≡◌, pos, negsuc, neg_ℤ, true, false, [], ◌∷◌, refl}
use Rattle.apl_array.specs.declared.array.Elem.TheVariants.{Int, Chr}
use Rattle.apl_array.specs.declared.axis.Axis.TheVariants.{First, Last, At}
use Rattle.apl_array.specs.declared.axis.Origin.TheVariants.{Zero, One}
use Rattle.apl_array.specs.declared.function.ScalarFunction.TheVariants.{Minus, Star, Tilde, Less}
use Rattle.apl_array.specs.Shape.{count_of, is_shape, place_of, index_at}
use Rattle.apl_array.specs.Array.{number_array, character_array, element_at}
use Rattle.apl_array.specs.Range.{in_range}
use Rattle.apl_array.specs.Axes.{has_axis, axis_of}
use Rattle.apl_array.specs.Valences.{has_monadic, has_dyadic}
use Rattle.apl_array.specs.Transposition.{strides, inner_product, source_index, items_onto, least, transposed_shape, source_strides}

-- ---- shapes, places and index lists

two_planes_of_three_by_four : count_of (2 ∷ 3 ∷ 4 ∷ []) ≡ 24
two_planes_of_three_by_four = refl

scalar_is_one_element : count_of [] ≡ 1
scalar_is_one_element = refl

empty_axis_leaves_no_element : count_of (2 ∷ 0 ∷ 3 ∷ []) ≡ 0
empty_axis_leaves_no_element = refl

-- the second plane, its second row, the second in it: 1×12 + 1×4 + 1
place_in_three_axes : place_of (2 ∷ 3 ∷ 4 ∷ []) (1 ∷ 1 ∷ 1 ∷ []) ≡ 17
place_in_three_axes = refl

index_list_of_seventeen : index_at (2 ∷ 3 ∷ 4 ∷ []) 17 ≡ 1 ∷ 1 ∷ 1 ∷ []
index_list_of_seventeen = refl

index_list_of_the_last : index_at (2 ∷ 3 ∷ 4 ∷ []) 23 ≡ 1 ∷ 2 ∷ 3 ∷ []
index_list_of_the_last = refl

place_in_a_scalar : place_of [] [] ≡ 0
place_in_a_scalar = refl

-- the last index varies fastest: 2 3⍴1 2 3 4 5 6 has 4 at the beginning of its second row
second_row : element_at (number_array (2 ∷ 3 ∷ []) (pos 1 ∷ pos 2 ∷ pos 3 ∷ pos 4 ∷ pos 5 ∷ pos 6 ∷ [])) (1 ∷ 0 ∷ []) ≡ Int (pos 4)
second_row = refl

third_character : element_at (character_array (3 ∷ []) (65 ∷ 66 ∷ 67 ∷ [])) (2 ∷ []) ≡ Chr 67
third_character = refl

fifteen_axes : is_shape (1 ∷ 1 ∷ 1 ∷ 1 ∷ 1 ∷ 1 ∷ 1 ∷ 1 ∷ 1 ∷ 1 ∷ 1 ∷ 1 ∷ 1 ∷ 1 ∷ 1 ∷ []) ≡ true
fifteen_axes = refl

sixteen_axes : is_shape (1 ∷ 1 ∷ 1 ∷ 1 ∷ 1 ∷ 1 ∷ 1 ∷ 1 ∷ 1 ∷ 1 ∷ 1 ∷ 1 ∷ 1 ∷ 1 ∷ 1 ∷ 1 ∷ []) ≡ false
sixteen_axes = refl

most_elements_along_an_axis : is_shape (1073741824 ∷ []) ≡ true
most_elements_along_an_axis = refl

one_more_beside_an_empty_axis : is_shape (0 ∷ 1073741825 ∷ []) ≡ false
one_more_beside_an_empty_axis = refl

-- 32768 × 32769 is 1073774592
too_many_in_all : is_shape (32768 ∷ 32769 ∷ []) ≡ false
too_many_in_all = refl

-- ---- numbers

greatest_is_in_the_range : in_range (pos 9223372036854775807) ≡ true
greatest_is_in_the_range = refl

one_more_is_not : in_range (pos 9223372036854775808) ≡ false
one_more_is_not = refl

least_is_in_the_range : in_range (neg_ℤ (pos 9223372036854775808)) ≡ true
least_is_in_the_range = refl

one_less_is_not : in_range (neg_ℤ (pos 9223372036854775809)) ≡ false
one_less_is_not = refl

-- ---- axes, and functions of one and two arguments

axis_one_is_the_first : axis_of (At (pos 1) One) 2 ≡ 0
axis_one_is_the_first = refl

axis_one_from_zero_is_the_second : axis_of (At (pos 1) Zero) 2 ≡ 1
axis_one_from_zero_is_the_second = refl

no_third_axis_of_two : has_axis (At (pos 3) One) 2 ≡ false
no_third_axis_of_two = refl

no_axis_before_the_first : has_axis (At (pos 0) One) 2 ≡ false
no_axis_before_the_first = refl

no_negative_axis : has_axis (At (negsuc 0) Zero) 2 ≡ false
no_negative_axis = refl

last_of_three : axis_of Last 3 ≡ 2
last_of_three = refl

scalar_has_its_first : has_axis First 0 ≡ true
scalar_has_its_first = refl

minus_negates : has_monadic Minus ≡ true
minus_negates = refl

power_is_of_two : has_monadic Star ≡ false
power_is_of_two = refl

comparison_is_of_two : has_monadic Less ≡ false
comparison_is_of_two = refl

not_is_of_one : has_dyadic Tilde ≡ false
not_is_of_one = refl

-- ---- strides

strides_of_three_axes : strides (2 ∷ 3 ∷ 4 ∷ []) ≡ 12 ∷ 4 ∷ 1 ∷ []
strides_of_three_axes = refl

strides_of_scalar : strides [] ≡ []
strides_of_scalar = refl

strides_beside_empty_axis : strides (2 ∷ 0 ∷ 3 ∷ []) ≡ 0 ∷ 3 ∷ 1 ∷ []
strides_beside_empty_axis = refl

-- 1×12 + 2×4 + 3×1
last_place : inner_product (1 ∷ 2 ∷ 3 ∷ []) (12 ∷ 4 ∷ 1 ∷ []) ≡ 23
last_place = refl

-- ---- the axes of a table exchanged

exchanged_shape : transposed_shape 2 (1 ∷ 0 ∷ []) (2 ∷ 3 ∷ []) ≡ 3 ∷ 2 ∷ []
exchanged_shape = refl

exchanged_index : source_index (1 ∷ 0 ∷ []) (2 ∷ 1 ∷ []) ≡ 1 ∷ 2 ∷ []
exchanged_index = refl

exchanged_strides : source_strides 2 (1 ∷ 0 ∷ []) (2 ∷ 3 ∷ []) ≡ 1 ∷ 3 ∷ []
exchanged_strides = refl

-- ---- the diagonal of a table: a step takes it a row and a column on

diagonal_shape : transposed_shape 1 (0 ∷ 0 ∷ []) (3 ∷ 4 ∷ []) ≡ 3 ∷ []
diagonal_shape = refl

diagonal_index : source_index (0 ∷ 0 ∷ []) (2 ∷ []) ≡ 2 ∷ 2 ∷ []
diagonal_index = refl

diagonal_strides : source_strides 1 (0 ∷ 0 ∷ []) (3 ∷ 4 ∷ []) ≡ 5 ∷ []
diagonal_strides = refl

-- ---- the first and the last axis of three become the first

lengths_that_become_the_first : items_onto 0 (0 ∷ 1 ∷ 0 ∷ []) (2 ∷ 3 ∷ 2 ∷ []) ≡ 2 ∷ 2 ∷ []
lengths_that_become_the_first = refl

shape_of_three_axes : transposed_shape 2 (0 ∷ 1 ∷ 0 ∷ []) (2 ∷ 3 ∷ 2 ∷ []) ≡ 2 ∷ 3 ∷ []
shape_of_three_axes = refl

source_strides_of_three_axes : source_strides 2 (0 ∷ 1 ∷ 0 ∷ []) (2 ∷ 3 ∷ 2 ∷ []) ≡ 7 ∷ 2 ∷ []
source_strides_of_three_axes = refl

-- ---- no axes, and the least of no numbers

scalar_shape : transposed_shape 0 [] [] ≡ []
scalar_shape = refl

scalar_strides : source_strides 0 [] [] ≡ []
scalar_strides = refl

least_of_none : least [] ≡ 0
least_of_none = refl

least_of_three : least (4 ∷ 2 ∷ 3 ∷ []) ≡ 2
least_of_three = refl

-- Worked examples of A f.g B.
use Rattle.std.proofs.Common.{◌≡◌, pos, negsuc, [], ◌∷◌, Ok, Err, refl}
use Rattle.apl_array.specs.Array.{character_array, number_array}
use Rattle.apl_array.specs.Range.{greatest_number}
use Rattle.apl_array.specs.declared.function.ScalarFunction.TheVariants.{Plus, Minus, Times, Star, Floor, And, Or, Nand, Equal}
use Rattle.apl_answer.specs.declared.fault.OpFault.TheVariants.{Length, Domain, Limit}
use Rattle.apl_answer.specs.Rows.{result_of}
use Rattle.apl_reduce.specs.Products.{inner_row}
use Rattle.apl_reduce.proofs.Examples.{scalar, vector, numbers, zeros, integers, letter, text, two_by_two, two_by_three}

-- 1 2 3+.×4 5 6
sum_of_products : result_of (inner_row Plus Times (vector (1 ∷ 2 ∷ 3 ∷ [])) (vector (4 ∷ 5 ∷ 6 ∷ []))) ≡ Ok (scalar 32)
sum_of_products = refl

-- (2 2⍴⍳4)+.×2 2⍴5 6 7 8
matrices : result_of (inner_row Plus Times two_by_two (numbers (2 ∷ 2 ∷ []) (5 ∷ 6 ∷ 7 ∷ 8 ∷ []))) ≡ Ok (numbers (2 ∷ 2 ∷ []) (19 ∷ 22 ∷ 43 ∷ 50 ∷ []))
matrices = refl

-- (2 3⍴⍳6)+.×1 2 3
matrix_and_vector : result_of (inner_row Plus Times two_by_three (vector (1 ∷ 2 ∷ 3 ∷ []))) ≡ Ok (vector (14 ∷ 32 ∷ []))
matrix_and_vector = refl

-- 1 2+.×2 3⍴⍳6
vector_and_matrix : result_of (inner_row Plus Times (vector (1 ∷ 2 ∷ [])) two_by_three) ≡ Ok (vector (9 ∷ 12 ∷ 15 ∷ []))
vector_and_matrix = refl

-- 1 2 3-.×1 1 1
folded_from_the_right : result_of (inner_row Minus Times (vector (1 ∷ 2 ∷ 3 ∷ [])) (vector (1 ∷ 1 ∷ 1 ∷ []))) ≡ Ok (scalar 2)
folded_from_the_right = refl

-- 10 10+.-1 2
left_less_right : result_of (inner_row Plus Minus (vector (10 ∷ 10 ∷ [])) (vector (1 ∷ 2 ∷ []))) ≡ Ok (scalar 17)
left_less_right = refl

-- ---- single arguments

-- 2+.×1 2 3
scalar_and_vector : result_of (inner_row Plus Times (scalar 2) (vector (1 ∷ 2 ∷ 3 ∷ []))) ≡ Ok (scalar 12)
scalar_and_vector = refl

-- 1 2 3+.×,2
vector_and_vector_of_one : result_of (inner_row Plus Times (vector (1 ∷ 2 ∷ 3 ∷ [])) (vector (2 ∷ []))) ≡ Ok (scalar 12)
vector_and_vector_of_one = refl

-- (,2)+.×,3
vectors_of_one : result_of (inner_row Plus Times (vector (2 ∷ [])) (vector (3 ∷ []))) ≡ Ok (scalar 6)
vectors_of_one = refl

-- 2+.×2 3⍴⍳6
scalar_and_matrix : result_of (inner_row Plus Times (scalar 2) two_by_three) ≡ Ok (vector (10 ∷ 14 ∷ 18 ∷ []))
scalar_and_matrix = refl

-- (2 3⍴⍳6)+.×,2
matrix_and_vector_of_one : result_of (inner_row Plus Times two_by_three (vector (2 ∷ []))) ≡ Ok (vector (12 ∷ 30 ∷ []))
matrix_and_vector_of_one = refl

-- (1 1⍴2)+.×1 1⍴3
matrices_of_one_keep_their_axes : result_of (inner_row Plus Times (numbers (1 ∷ 1 ∷ []) (2 ∷ [])) (numbers (1 ∷ 1 ∷ []) (3 ∷ []))) ≡ Ok (numbers (1 ∷ 1 ∷ []) (6 ∷ []))
matrices_of_one_keep_their_axes = refl

-- (2 2⍴⍳4)+.×1 1⍴5
matrix_of_one_is_not_extended : result_of (inner_row Plus Times two_by_two (numbers (1 ∷ 1 ∷ []) (5 ∷ []))) ≡ Err Length
matrix_of_one_is_not_extended = refl

-- 5∧.+3
only_item_is_not_tested : result_of (inner_row And Plus (scalar 5) (scalar 3)) ≡ Ok (scalar 8)
only_item_is_not_tested = refl

-- ---- characters

-- (2 3⍴'ABCDEF')∧.='DEF'
rows_like_a_word : result_of (inner_row And Equal (character_array (2 ∷ 3 ∷ []) (65 ∷ 66 ∷ 67 ∷ 68 ∷ 69 ∷ 70 ∷ [])) (text (68 ∷ 69 ∷ 70 ∷ []))) ≡ Ok (vector (0 ∷ 1 ∷ []))
rows_like_a_word = refl

-- 'ABC'+.='ABD'
letters_alike : result_of (inner_row Plus Equal (text (65 ∷ 66 ∷ 67 ∷ [])) (text (65 ∷ 66 ∷ 68 ∷ []))) ≡ Ok (scalar 2)
letters_alike = refl

-- 'A'+.=65 66
letter_and_numbers : result_of (inner_row Plus Equal (letter 65) (vector (65 ∷ 66 ∷ []))) ≡ Ok (scalar 0)
letter_and_numbers = refl

-- 'ABC'+.×1 2 3
letters_have_no_product : result_of (inner_row Plus Times (text (65 ∷ 66 ∷ 67 ∷ [])) (vector (1 ∷ 2 ∷ 3 ∷ []))) ≡ Err Domain
letters_have_no_product = refl

-- ---- no items

-- (⍳0)+.×⍳0
no_items : result_of (inner_row Plus Times (vector []) (vector [])) ≡ Ok (scalar 0)
no_items = refl

-- (⍳0)⌊.+⍳0
least_of_no_items : result_of (inner_row Floor Plus (vector []) (vector [])) ≡ Ok (number_array [] (greatest_number ∷ []))
least_of_no_items = refl

-- (⍳0)⍲.×⍳0
no_identity : result_of (inner_row Nand Times (vector []) (vector [])) ≡ Err Domain
no_identity = refl

-- (2 0⍴0)+.×0 3⍴0
sums_of_no_items : result_of (inner_row Plus Times (numbers (2 ∷ 0 ∷ []) []) (numbers (0 ∷ 3 ∷ []) [])) ≡ Ok (zeros (2 ∷ 3 ∷ []))
sums_of_no_items = refl

-- (0 2⍴0)⍲.×2 3⍴⍳6
no_lines : result_of (inner_row Nand Times (numbers (0 ∷ 2 ∷ []) []) two_by_three) ≡ Ok (numbers (0 ∷ 3 ∷ []) [])
no_lines = refl

-- (0 1073741824⍴0)+.×1073741824 0⍴0
long_lines_that_are_not_there : result_of (inner_row Plus Times (numbers (0 ∷ 1073741824 ∷ []) []) (numbers (1073741824 ∷ 0 ∷ []) [])) ≡ Ok (numbers (0 ∷ 0 ∷ []) [])
long_lines_that_are_not_there = refl

-- ---- refusals

-- 1 2 3+.×1 2
lengths_differ : result_of (inner_row Plus Times (vector (1 ∷ 2 ∷ 3 ∷ [])) (vector (1 ∷ 2 ∷ []))) ≡ Err Length
lengths_differ = refl

-- (1 1 1 1 1 1 1 1 2⍴0)+.×1 1 1 1 1 1 1 1 1⍴0
lengths_before_the_shape : result_of (inner_row Plus Times (zeros (1 ∷ 1 ∷ 1 ∷ 1 ∷ 1 ∷ 1 ∷ 1 ∷ 1 ∷ 2 ∷ [])) (zeros (1 ∷ 1 ∷ 1 ∷ 1 ∷ 1 ∷ 1 ∷ 1 ∷ 1 ∷ 1 ∷ []))) ≡ Err Length
lengths_before_the_shape = refl

-- (1 1 1 1 1 1 1 1 1⍴'A')+.×1 1 1 1 1 1 1 1 1⍴0
shape_before_elements : result_of (inner_row Plus Times (character_array (1 ∷ 1 ∷ 1 ∷ 1 ∷ 1 ∷ 1 ∷ 1 ∷ 1 ∷ 1 ∷ []) (65 ∷ [])) (zeros (1 ∷ 1 ∷ 1 ∷ 1 ∷ 1 ∷ 1 ∷ 1 ∷ 1 ∷ 1 ∷ []))) ≡ Err Limit
shape_before_elements = refl

-- 9223372036854775807 1 1∧.×2 2 1
items_before_the_fold : result_of (inner_row And Times (vector (9223372036854775807 ∷ 1 ∷ 1 ∷ [])) (vector (2 ∷ 2 ∷ 1 ∷ []))) ≡ Err Limit
items_before_the_fold = refl

-- 1 1 1∧.×0 2 1
fold_is_refused : result_of (inner_row And Times (vector (1 ∷ 1 ∷ 1 ∷ [])) (vector (0 ∷ 2 ∷ 1 ∷ []))) ≡ Err Domain
fold_is_refused = refl

-- 10 10+.*30 ¯1
limit_at_the_first_item : result_of (inner_row Plus Star (vector (10 ∷ 10 ∷ [])) (integers (pos 30 ∷ negsuc 0 ∷ []))) ≡ Err Limit
limit_at_the_first_item = refl

-- 10 10+.*¯1 30
domain_at_the_first_item : result_of (inner_row Plus Star (vector (10 ∷ 10 ∷ [])) (integers (negsuc 0 ∷ pos 30 ∷ []))) ≡ Err Domain
domain_at_the_first_item = refl

-- 1 0 1∨.∧0 0 1
some_of_both : result_of (inner_row Or And (vector (1 ∷ 0 ∷ 1 ∷ [])) (vector (0 ∷ 0 ∷ 1 ∷ []))) ≡ Ok (scalar 1)
some_of_both = refl

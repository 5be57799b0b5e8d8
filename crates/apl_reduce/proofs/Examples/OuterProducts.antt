-- Worked examples of A∘.fB.
use Rattle.std.proofs.Common.{◌≡◌, pos, negsuc, [], ◌∷◌, Ok, Err, refl}
use Rattle.apl_array.specs.Array.{number_array}
use Rattle.apl_array.specs.declared.function.ScalarFunction.TheVariants.{Plus, Minus, Times, Divide, Star, Less, Equal, NotEqual}
use Rattle.apl_answer.specs.declared.fault.OpFault.TheVariants.{Domain, Limit}
use Rattle.apl_answer.specs.Rows.{result_of}
use Rattle.apl_reduce.specs.Products.{outer_row}
use Rattle.apl_reduce.proofs.Examples.{scalar, vector, numbers, zeros, integers, letter, text, two_by_two}

-- 1 2 3∘.×1 2 3 4
multiplication_table : result_of (outer_row Times (vector (1 ∷ 2 ∷ 3 ∷ [])) (vector (1 ∷ 2 ∷ 3 ∷ 4 ∷ [])))
    ≡ Ok (numbers (3 ∷ 4 ∷ []) (1 ∷ 2 ∷ 3 ∷ 4 ∷ 2 ∷ 4 ∷ 6 ∷ 8 ∷ 3 ∷ 6 ∷ 9 ∷ 12 ∷ []))
multiplication_table = refl

-- 1 2∘.-10 20 30
left_less_right : result_of (outer_row Minus (vector (1 ∷ 2 ∷ [])) (vector (10 ∷ 20 ∷ 30 ∷ [])))
    ≡ Ok (number_array (2 ∷ 3 ∷ []) (negsuc 8 ∷ negsuc 18 ∷ negsuc 28 ∷ negsuc 7 ∷ negsuc 17 ∷ negsuc 27 ∷ []))
left_less_right = refl

-- (2 2⍴⍳4)∘.+10 20
axes_are_joined : result_of (outer_row Plus two_by_two (vector (10 ∷ 20 ∷ [])))
    ≡ Ok (numbers (2 ∷ 2 ∷ 2 ∷ []) (11 ∷ 21 ∷ 12 ∷ 22 ∷ 13 ∷ 23 ∷ 14 ∷ 24 ∷ []))
axes_are_joined = refl

-- 5∘.+1 2
scalar_with_vector : result_of (outer_row Plus (scalar 5) (vector (1 ∷ 2 ∷ []))) ≡ Ok (vector (6 ∷ 7 ∷ []))
scalar_with_vector = refl

-- 2∘.+3
scalars_make_scalar : result_of (outer_row Plus (scalar 2) (scalar 3)) ≡ Ok (scalar 5)
scalars_make_scalar = refl

-- (,2)∘.+3 4
vector_of_one_gives_an_axis : result_of (outer_row Plus (vector (2 ∷ [])) (vector (3 ∷ 4 ∷ []))) ≡ Ok (numbers (1 ∷ 2 ∷ []) (5 ∷ 6 ∷ []))
vector_of_one_gives_an_axis = refl

-- 'AB'∘.='ABA'
letters_compared : result_of (outer_row Equal (text (65 ∷ 66 ∷ [])) (text (65 ∷ 66 ∷ 65 ∷ []))) ≡ Ok (numbers (2 ∷ 3 ∷ []) (1 ∷ 0 ∷ 1 ∷ 0 ∷ 1 ∷ 0 ∷ []))
letters_compared = refl

-- 'AB'∘.≠'B'
letters_that_differ : result_of (outer_row NotEqual (text (65 ∷ 66 ∷ [])) (letter 66)) ≡ Ok (vector (1 ∷ 0 ∷ []))
letters_that_differ = refl

-- 65 66∘.='AB'
numbers_are_no_letters : result_of (outer_row Equal (vector (65 ∷ 66 ∷ [])) (text (65 ∷ 66 ∷ []))) ≡ Ok (zeros (2 ∷ 2 ∷ []))
numbers_are_no_letters = refl

-- 'A'∘.<1
letters_have_no_order : result_of (outer_row Less (letter 65) (scalar 1)) ≡ Err Domain
letters_have_no_order = refl

-- (⍳0)∘.÷0 0
nothing_is_divided : result_of (outer_row Divide (vector []) (vector (0 ∷ 0 ∷ []))) ≡ Ok (numbers (0 ∷ 2 ∷ []) [])
nothing_is_divided = refl

-- 10∘.*30 ¯1
limit_at_the_least_place : result_of (outer_row Star (scalar 10) (integers (pos 30 ∷ negsuc 0 ∷ []))) ≡ Err Limit
limit_at_the_least_place = refl

-- 10∘.*¯1 30
domain_at_the_least_place : result_of (outer_row Star (scalar 10) (integers (negsuc 0 ∷ pos 30 ∷ []))) ≡ Err Domain
domain_at_the_least_place = refl

-- (1 1 1 1 1 1 1 1⍴0)∘.+1 1 1 1 1 1 1 1⍴0
sixteen_axes : result_of (outer_row Plus (zeros (1 ∷ 1 ∷ 1 ∷ 1 ∷ 1 ∷ 1 ∷ 1 ∷ 1 ∷ [])) (zeros (1 ∷ 1 ∷ 1 ∷ 1 ∷ 1 ∷ 1 ∷ 1 ∷ 1 ∷ []))) ≡ Err Limit
sixteen_axes = refl

-- (32768⍴0)∘.÷65536⍴0
shape_before_elements : result_of (outer_row Divide (zeros (32768 ∷ [])) (zeros (65536 ∷ []))) ≡ Err Limit
shape_before_elements = refl

-- (0 1073741824⍴0)∘.+0 0
long_axis_without_elements : result_of (outer_row Plus (numbers (0 ∷ 1073741824 ∷ []) []) (vector (0 ∷ 0 ∷ []))) ≡ Ok (numbers (0 ∷ 1073741824 ∷ 2 ∷ []) [])
long_axis_without_elements = refl

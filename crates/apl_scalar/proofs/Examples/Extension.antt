-- Worked examples of how two arguments are extended to one shape, and of functions of arrays.
use Rattle.std.proofs.Common.{◌≡◌, pos, negsuc, neg_ℤ, [], ◌∷◌, Ok, Err, refl}
use Rattle.apl_answer.specs.declared.fault.OpFault.TheVariants.{Rank, Length, Domain, Limit}
use Rattle.apl_array.specs.declared.function.ScalarFunction.TheVariants.{Plus, Minus, Divide, Equal}
use Rattle.apl_array.specs.Array.{number_array, character_array}
use Rattle.apl_scalar.specs.Extension.{extended_shape, source_index}
use Rattle.apl_scalar.specs.Monadic.{monadic_answer}
use Rattle.apl_scalar.specs.Dyadic.{dyadic_answer}

-- ---- shapes

equal_shapes : extended_shape (2 ∷ 3 ∷ []) (2 ∷ 3 ∷ []) ≡ Ok (2 ∷ 3 ∷ [])
equal_shapes = refl

scalar_on_the_left : extended_shape [] (2 ∷ 3 ∷ []) ≡ Ok (2 ∷ 3 ∷ [])
scalar_on_the_left = refl

one_element_on_the_right : extended_shape (3 ∷ []) (1 ∷ 1 ∷ []) ≡ Ok (3 ∷ [])
one_element_on_the_right = refl

larger_rank_of_two_elements : extended_shape (1 ∷ []) (1 ∷ 1 ∷ []) ≡ Ok (1 ∷ 1 ∷ [])
larger_rank_of_two_elements = refl

one_element_beside_none : extended_shape (1 ∷ []) (0 ∷ []) ≡ Ok (0 ∷ [])
one_element_beside_none = refl

lengths_differ : extended_shape (2 ∷ []) (3 ∷ []) ≡ Err Length
lengths_differ = refl

ranks_differ : extended_shape (2 ∷ []) (2 ∷ 2 ∷ []) ≡ Err Rank
ranks_differ = refl

-- the only index list of an argument that is extended
only_index_list : source_index (1 ∷ 1 ∷ []) (3 ∷ []) (2 ∷ []) ≡ 0 ∷ 0 ∷ []
only_index_list = refl

-- ---- arrays

-- 2+3 4 5
number_and_vector : dyadic_answer Plus (number_array [] (pos 2 ∷ [])) (number_array (3 ∷ []) (pos 3 ∷ pos 4 ∷ pos 5 ∷ []))
    ≡ Ok (number_array (3 ∷ []) (pos 5 ∷ pos 6 ∷ pos 7 ∷ []))
number_and_vector = refl

-- 1 2+1 2 3
vectors_of_other_lengths : dyadic_answer Plus (number_array (2 ∷ []) (pos 1 ∷ pos 2 ∷ [])) (number_array (3 ∷ []) (pos 1 ∷ pos 2 ∷ pos 3 ∷ []))
    ≡ Err Length
vectors_of_other_lengths = refl

-- 1 ¯9223372036854775808÷0 ¯1: the fault of the least place
domain_comes_first : dyadic_answer Divide (number_array (2 ∷ []) (pos 1 ∷ neg_ℤ (pos 9223372036854775808) ∷ [])) (number_array (2 ∷ []) (pos 0 ∷ negsuc 0 ∷ []))
    ≡ Err Domain
domain_comes_first = refl

-- ¯9223372036854775808 1÷¯1 0
limit_comes_first : dyadic_answer Divide (number_array (2 ∷ []) (neg_ℤ (pos 9223372036854775808) ∷ pos 1 ∷ [])) (number_array (2 ∷ []) (negsuc 0 ∷ pos 0 ∷ []))
    ≡ Err Limit
limit_comes_first = refl

-- 'ABA'='A'
characters_are_compared : dyadic_answer Equal (character_array (3 ∷ []) (65 ∷ 66 ∷ 65 ∷ [])) (character_array [] (65 ∷ []))
    ≡ Ok (number_array (3 ∷ []) (pos 1 ∷ pos 0 ∷ pos 1 ∷ []))
characters_are_compared = refl

-- ''+1: of numbers, also where it is empty
empty_text_and_number : dyadic_answer Plus (character_array (0 ∷ []) []) (number_array [] (pos 1 ∷ [])) ≡ Ok (number_array (0 ∷ []) [])
empty_text_and_number = refl

-- -1 ¯2
vector_negated : monadic_answer Minus (number_array (2 ∷ []) (pos 1 ∷ negsuc 1 ∷ [])) ≡ Ok (number_array (2 ∷ []) (negsuc 0 ∷ pos 2 ∷ []))
vector_negated = refl

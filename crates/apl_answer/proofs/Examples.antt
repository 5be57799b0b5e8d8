-- Worked examples of the definitions.
use Rattle.std.proofs.Common.{◌≡◌, ℕ, zero, suc, pos, negsuc, true, false, List, [], ◌∷◌, Result, Ok, Err, inr, refl}
use Rattle.std.specs.Prelude.{slice_index}
use Rattle.apl_array.specs.declared.array.Elem.{Elem}
use Rattle.apl_array.specs.declared.array.Elem.TheVariants.{Int, Chr}
use Rattle.apl_array.specs.declared.array.Kind.TheVariants.{Number, Character}
use Rattle.apl_array.specs.Array.{ArrayValue, number_array, character_array}
use Rattle.apl_pool.specs.declared.kernel.Fault.{Fault}
use Rattle.apl_pool.specs.declared.kernel.Fault.TheVariants.{Domain as DomainFault, Limit as LimitFault}
use Rattle.apl_answer.specs.declared.fault.OpFault.TheVariants.{Rank, Length, Domain, Limit, Memory}
use Rattle.apl_answer.specs.Pointwise.{index_lists, answer_of}
use Rattle.apl_answer.specs.Rows.{array_row, result_of, Answers}
use Rattle.apl_answer.specs.Arguments.{rank_of, size_of, has_elements, is_scalar, is_list, is_numbers, numbers_of, is_natural, is_bit, fill_of, only_element}

table : ArrayValue
table = number_array (2 ∷ 3 ∷ []) (pos 1 ∷ pos 2 ∷ pos 3 ∷ pos 4 ∷ pos 5 ∷ pos 6 ∷ [])

five : ArrayValue
five = number_array [] (pos 5 ∷ [])

no_text : ArrayValue
no_text = character_array (0 ∷ []) []

-- ---- arguments

table_has_two_axes : rank_of table ≡ 2
unfolding table
table_has_two_axes = refl

table_has_six_elements : size_of table ≡ 6
unfolding table
table_has_six_elements = refl

table_is_no_list : is_list table ≡ false
unfolding table
table_is_no_list = refl

table_numbers : numbers_of table ≡ pos 1 ∷ pos 2 ∷ pos 3 ∷ pos 4 ∷ pos 5 ∷ pos 6 ∷ []
unfolding table
table_numbers = refl

five_is_scalar : is_scalar five ≡ true
unfolding five
five_is_scalar = refl

five_is_one_element : only_element five ≡ Int (pos 5)
unfolding five
five_is_one_element = refl

-- an empty text serves where numbers are wanted
empty_text_serves : is_numbers no_text ≡ true
unfolding no_text
empty_text_serves = refl

empty_text_has_none : has_elements no_text ≡ false
unfolding no_text
empty_text_has_none = refl

text_is_no_number : is_numbers (character_array [] (65 ∷ [])) ≡ false
text_is_no_number = refl

two_is_no_bit : is_bit (pos 2) ≡ false
two_is_no_bit = refl

minus_one_is_not_natural : is_natural (negsuc 0) ≡ false
minus_one_is_not_natural = refl

text_is_filled_with_blanks : fill_of Character ≡ Chr 32
text_is_filled_with_blanks = refl

-- ---- rows

-- the index lists of 2 3 in row order
six_index_lists : index_lists (2 ∷ 3 ∷ []) ≡ (0 ∷ 0 ∷ []) ∷ (0 ∷ 1 ∷ []) ∷ (0 ∷ 2 ∷ []) ∷ (1 ∷ 0 ∷ []) ∷ (1 ∷ 1 ∷ []) ∷ (1 ∷ 2 ∷ []) ∷ []
six_index_lists = refl

first_index : List ℕ → Elem
first_index index = Int (pos (slice_index index 0))

no_check_fails : result_of (array_row ((true, Rank) ∷ (true, Length) ∷ []) (2 ∷ 2 ∷ []) Number first_index) ≡ Ok (number_array (2 ∷ 2 ∷ []) (pos 0 ∷ pos 0 ∷ pos 1 ∷ pos 1 ∷ []))
unfolding first_index
no_check_fails = refl

first_check_decides : result_of (array_row ((true, Rank) ∷ (false, Length) ∷ (false, Domain) ∷ []) (2 ∷ []) Number first_index) ≡ Err Length
first_check_decides = refl

memory_in_its_place : Answers (array_row ((false, Rank) ∷ []) (2 ∷ []) Number first_index) (Err Memory)
memory_in_its_place = inr refl

-- the fault of the least place
faulty : List ℕ → Result Elem Fault
faulty (zero ∷ index) = Ok (Int (pos 0))
faulty (suc zero ∷ index) = Err LimitFault
faulty index = Err DomainFault

least_place_decides : answer_of (4 ∷ []) faulty Number ≡ Err Limit
unfolding faulty
least_place_decides = refl

-- Worked examples of A⍳B and A∊B, in origin 1 where nothing else is said.
use Rattle.std.proofs.Common.{◌≡◌, [], ◌∷◌, Ok, Err, refl}
use Rattle.apl_array.specs.declared.axis.Origin.TheVariants.{Zero, One}
use Rattle.apl_answer.specs.declared.fault.OpFault.TheVariants.{Rank}
use Rattle.apl_answer.specs.Rows.{result_of}
use Rattle.apl_search.specs.Searching.{index_of_row, member_row}
use Rattle.apl_search.proofs.Examples.{scalar, vector, numbers, letter, text, two_by_three}

-- ---- index of

-- 3 1 4⍳4 9
first_places : result_of (index_of_row (vector (3 ∷ 1 ∷ 4 ∷ [])) (vector (4 ∷ 9 ∷ [])) One) ≡ Ok (vector (3 ∷ 4 ∷ []))
first_places = refl

-- 'ABC'⍳'CAX', in origin 0
places_from_zero : result_of (index_of_row (text (65 ∷ 66 ∷ 67 ∷ [])) (text (67 ∷ 65 ∷ 88 ∷ [])) Zero) ≡ Ok (vector (2 ∷ 0 ∷ 3 ∷ []))
places_from_zero = refl

-- 5⍳5
scalar_has_no_places : result_of (index_of_row (scalar 5) (scalar 5) One) ≡ Err Rank
scalar_has_no_places = refl

-- ''⍳5
nothing_is_in_empty_text : result_of (index_of_row (text []) (scalar 5) One) ≡ Ok (scalar 1)
nothing_is_in_empty_text = refl

-- 1 2⍳'A'
letter_is_no_number : result_of (index_of_row (vector (1 ∷ 2 ∷ [])) (letter 65) One) ≡ Ok (scalar 3)
letter_is_no_number = refl

-- ---- member

-- 'AB'∊'BC'
letter_is_in_text : result_of (member_row (text (65 ∷ 66 ∷ [])) (text (66 ∷ 67 ∷ []))) ≡ Ok (vector (0 ∷ 1 ∷ []))
letter_is_in_text = refl

-- 'A'∊1 2
letter_is_not_among_numbers : result_of (member_row (letter 65) (vector (1 ∷ 2 ∷ []))) ≡ Ok (scalar 0)
letter_is_not_among_numbers = refl

-- (2 3⍴⍳6)∊2 4 6
members_of_table : result_of (member_row two_by_three (vector (2 ∷ 4 ∷ 6 ∷ []))) ≡ Ok (numbers (2 ∷ 3 ∷ []) (0 ∷ 1 ∷ 0 ∷ 1 ∷ 0 ∷ 1 ∷ []))
members_of_table = refl

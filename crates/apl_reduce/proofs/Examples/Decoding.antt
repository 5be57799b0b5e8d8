-- Worked examples of A⊥B.
use Rattle.std.proofs.Common.{◌≡◌, pos, [], ◌∷◌, Ok, Err, refl}
use Rattle.apl_answer.specs.declared.fault.OpFault.TheVariants.{Rank, Length, Domain, Limit}
use Rattle.apl_answer.specs.Rows.{result_of}
use Rattle.apl_reduce.specs.Decoding.{decode_row}
use Rattle.apl_reduce.proofs.Examples.{vector, scalar, integers, negative, minus, text, letter, two_by_two}

-- 24 60 60⊥1 2 3
hours_minutes_seconds : result_of (decode_row (vector (24 ∷ 60 ∷ 60 ∷ [])) (vector (1 ∷ 2 ∷ 3 ∷ []))) ≡ Ok (scalar 3723)
hours_minutes_seconds = refl

-- 1760 3 12⊥1 2 8
miles_in_inches : result_of (decode_row (vector (1760 ∷ 3 ∷ 12 ∷ [])) (vector (1 ∷ 2 ∷ 8 ∷ []))) ≡ Ok (scalar 68)
miles_in_inches = refl

-- 10⊥1 7 7 6
decimal : result_of (decode_row (scalar 10) (vector (1 ∷ 7 ∷ 7 ∷ 6 ∷ []))) ≡ Ok (scalar 1776)
decimal = refl

-- 2⊥1 0 1 1
binary : result_of (decode_row (scalar 2) (vector (1 ∷ 0 ∷ 1 ∷ 1 ∷ []))) ≡ Ok (scalar 11)
binary = refl

-- (,10)⊥1 2 3
vector_of_one_radix : result_of (decode_row (vector (10 ∷ [])) (vector (1 ∷ 2 ∷ 3 ∷ []))) ≡ Ok (scalar 123)
vector_of_one_radix = refl

-- 1 2 3⊥4
one_digit_for_all_radices : result_of (decode_row (vector (1 ∷ 2 ∷ 3 ∷ [])) (scalar 4)) ≡ Ok (scalar 40)
one_digit_for_all_radices = refl

-- 1 2 3⊥,4
vector_of_one_digit : result_of (decode_row (vector (1 ∷ 2 ∷ 3 ∷ [])) (vector (4 ∷ []))) ≡ Ok (scalar 40)
vector_of_one_digit = refl

-- 5⊥7
two_scalars : result_of (decode_row (scalar 5) (scalar 7)) ≡ Ok (scalar 7)
two_scalars = refl

-- 0 60⊥2 3
first_radix_does_not_count : result_of (decode_row (vector (0 ∷ 60 ∷ [])) (vector (2 ∷ 3 ∷ []))) ≡ Ok (scalar 123)
first_radix_does_not_count = refl

-- ¯10⊥1 2
negative_radix : result_of (decode_row (minus 10) (vector (1 ∷ 2 ∷ []))) ≡ Ok (minus 8)
negative_radix = refl

-- 10⊥3 ¯4
negative_digit : result_of (decode_row (scalar 10) (integers (pos 3 ∷ negative 4 ∷ []))) ≡ Ok (scalar 26)
negative_digit = refl

-- 10⊥⍳0
no_digit : result_of (decode_row (scalar 10) (vector [])) ≡ Ok (scalar 0)
no_digit = refl

-- (⍳0)⊥7
no_radix : result_of (decode_row (vector []) (scalar 7)) ≡ Ok (scalar 0)
no_radix = refl

-- (⍳0)⊥⍳0
neither : result_of (decode_row (vector []) (vector [])) ≡ Ok (scalar 0)
neither = refl

-- 10⊥''
no_character_is_decoded : result_of (decode_row (scalar 10) (text [])) ≡ Ok (scalar 0)
no_character_is_decoded = refl

-- 'A'⊥⍳0
letter_radix_without_digits : result_of (decode_row (letter 65) (vector [])) ≡ Ok (scalar 0)
letter_radix_without_digits = refl

-- 10⊥'A'
letter_digit : result_of (decode_row (scalar 10) (letter 65)) ≡ Err Domain
letter_digit = refl

-- 'A'⊥1 2
letter_radix : result_of (decode_row (letter 65) (vector (1 ∷ 2 ∷ []))) ≡ Err Domain
letter_radix = refl

-- 2 2⊥1 2 3
lengths_differ : result_of (decode_row (vector (2 ∷ 2 ∷ [])) (vector (1 ∷ 2 ∷ 3 ∷ []))) ≡ Err Length
lengths_differ = refl

-- 2 2⊥'ABC'
lengths_before_kinds : result_of (decode_row (vector (2 ∷ 2 ∷ [])) (text (65 ∷ 66 ∷ 67 ∷ []))) ≡ Err Length
lengths_before_kinds = refl

-- (2 2⍴⍳4)⊥1 2 3
table_of_radices : result_of (decode_row two_by_two (vector (1 ∷ 2 ∷ 3 ∷ []))) ≡ Err Rank
table_of_radices = refl

-- 10⊥2 2⍴⍳4
table_of_digits : result_of (decode_row (scalar 10) two_by_two) ≡ Err Rank
table_of_digits = refl

-- 4611686018427387904 2⊥4611686018427387903 1
greatest_number : result_of (decode_row (vector (4611686018427387904 ∷ 2 ∷ [])) (vector (4611686018427387903 ∷ 1 ∷ []))) ≡ Ok (scalar 9223372036854775807)
greatest_number = refl

-- 2⊥¯4611686018427387904 0
least_number : result_of (decode_row (scalar 2) (integers (negative 4611686018427387904 ∷ pos 0 ∷ []))) ≡ Ok (minus 9223372036854775808)
least_number = refl

-- 2⊥4611686018427387904 0
past_the_greatest : result_of (decode_row (scalar 2) (vector (4611686018427387904 ∷ 0 ∷ []))) ≡ Err Limit
past_the_greatest = refl

-- 0 2 0⊥4611686018427387904 0 5
past_the_range_on_the_way : result_of (decode_row (vector (0 ∷ 2 ∷ 0 ∷ [])) (vector (4611686018427387904 ∷ 0 ∷ 5 ∷ []))) ≡ Err Limit
past_the_range_on_the_way = refl

-- 2⊥4611686018427387904 ¯1
digits_back_in_the_range : result_of (decode_row (scalar 2) (integers (pos 4611686018427387904 ∷ negative 1 ∷ []))) ≡ Ok (scalar 9223372036854775807)
digits_back_in_the_range = refl

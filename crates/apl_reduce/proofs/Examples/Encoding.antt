-- Worked examples of A⊤B.
use Rattle.std.proofs.Common.{◌≡◌, pos, [], ◌∷◌, Ok, Err, refl}
use Rattle.apl_answer.specs.declared.fault.OpFault.TheVariants.{Rank, Domain, Limit}
use Rattle.apl_answer.specs.Rows.{result_of}
use Rattle.apl_reduce.specs.Encoding.{encode_row}
use Rattle.apl_reduce.proofs.Examples.{numbers, vector, scalar, integers, negative, minus, text, letter, two_by_two}

-- 24 60 60⊤3723
hours_minutes_seconds : result_of (encode_row (vector (24 ∷ 60 ∷ 60 ∷ [])) (scalar 3723)) ≡ Ok (vector (1 ∷ 2 ∷ 3 ∷ []))
hours_minutes_seconds = refl

-- 60 60⊤3723
hours_are_left_away : result_of (encode_row (vector (60 ∷ 60 ∷ [])) (scalar 3723)) ≡ Ok (vector (2 ∷ 3 ∷ []))
hours_are_left_away = refl

-- 0 60⊤3723
radix_0_takes_the_rest : result_of (encode_row (vector (0 ∷ 60 ∷ [])) (scalar 3723)) ≡ Ok (vector (62 ∷ 3 ∷ []))
radix_0_takes_the_rest = refl

-- 10 10 10 10⊤1776
decimal : result_of (encode_row (vector (10 ∷ 10 ∷ 10 ∷ 10 ∷ [])) (scalar 1776)) ≡ Ok (vector (1 ∷ 7 ∷ 7 ∷ 6 ∷ []))
decimal = refl

-- 10⊤1776
scalar_radix : result_of (encode_row (scalar 10) (scalar 1776)) ≡ Ok (scalar 6)
scalar_radix = refl

-- (,10)⊤1776
vector_of_one_radix : result_of (encode_row (vector (10 ∷ [])) (scalar 1776)) ≡ Ok (vector (6 ∷ []))
vector_of_one_radix = refl

-- 10⊤15 26
scalar_radix_of_a_vector : result_of (encode_row (scalar 10) (vector (15 ∷ 26 ∷ []))) ≡ Ok (vector (5 ∷ 6 ∷ []))
scalar_radix_of_a_vector = refl

-- 2 2 2⊤3 5
axis_of_radices_first : result_of (encode_row (vector (2 ∷ 2 ∷ 2 ∷ [])) (vector (3 ∷ 5 ∷ []))) ≡ Ok (numbers (3 ∷ 2 ∷ []) (0 ∷ 1 ∷ 1 ∷ 0 ∷ 1 ∷ 1 ∷ []))
axis_of_radices_first = refl

-- 10 10⊤¯7
negative_number : result_of (encode_row (vector (10 ∷ 10 ∷ [])) (minus 7)) ≡ Ok (vector (9 ∷ 3 ∷ []))
negative_number = refl

-- 0 10⊤¯7
negative_rest : result_of (encode_row (vector (0 ∷ 10 ∷ [])) (minus 7)) ≡ Ok (integers (negative 1 ∷ pos 3 ∷ []))
negative_rest = refl

-- ¯10 ¯10⊤7
negative_radix : result_of (encode_row (integers (negative 10 ∷ negative 10 ∷ [])) (scalar 7)) ≡ Ok (integers (negative 1 ∷ negative 3 ∷ []))
negative_radix = refl

-- 0 0⊤5
two_radices_0 : result_of (encode_row (vector (0 ∷ 0 ∷ [])) (scalar 5)) ≡ Ok (vector (0 ∷ 5 ∷ []))
two_radices_0 = refl

-- 5 0⊤7
nothing_past_radix_0 : result_of (encode_row (vector (5 ∷ 0 ∷ [])) (scalar 7)) ≡ Ok (vector (0 ∷ 7 ∷ []))
nothing_past_radix_0 = refl

-- 9223372036854775807 9223372036854775807 2⊤¯1
products_past_the_range : result_of (encode_row (vector (9223372036854775807 ∷ 9223372036854775807 ∷ 2 ∷ [])) (minus 1)) ≡ Ok (vector (9223372036854775806 ∷ 9223372036854775806 ∷ 1 ∷ []))
products_past_the_range = refl

-- 10 ¯1⊤¯9223372036854775808
carry_past_the_range : result_of (encode_row (integers (pos 10 ∷ negative 1 ∷ [])) (minus 9223372036854775808)) ≡ Ok (vector (8 ∷ 0 ∷ []))
carry_past_the_range = refl

-- 0 ¯1⊤¯9223372036854775808
digit_past_the_range : result_of (encode_row (integers (pos 0 ∷ negative 1 ∷ [])) (minus 9223372036854775808)) ≡ Err Limit
digit_past_the_range = refl

-- 'A'⊤5
letter_radix : result_of (encode_row (letter 65) (scalar 5)) ≡ Err Domain
letter_radix = refl

-- 2 2⊤'A'
letter_encoded : result_of (encode_row (vector (2 ∷ 2 ∷ [])) (letter 65)) ≡ Err Domain
letter_encoded = refl

-- 'AB'⊤⍳0
letters_of_nothing : result_of (encode_row (text (65 ∷ 66 ∷ [])) (vector [])) ≡ Ok (numbers (2 ∷ 0 ∷ []) [])
letters_of_nothing = refl

-- (⍳0)⊤'ABC'
letters_in_no_radix : result_of (encode_row (vector []) (text (65 ∷ 66 ∷ 67 ∷ []))) ≡ Ok (numbers (0 ∷ 3 ∷ []) [])
letters_in_no_radix = refl

-- (2 2⍴⍳4)⊤5
table_of_radices : result_of (encode_row two_by_two (scalar 5)) ≡ Err Rank
table_of_radices = refl

-- 1 2⊤1 1 1 1 1 1 1 1 1 1 1 1 1 1 1⍴5
sixteen_axes : result_of (encode_row (vector (1 ∷ 2 ∷ [])) (numbers (1 ∷ 1 ∷ 1 ∷ 1 ∷ 1 ∷ 1 ∷ 1 ∷ 1 ∷ 1 ∷ 1 ∷ 1 ∷ 1 ∷ 1 ∷ 1 ∷ 1 ∷ []) (5 ∷ []))) ≡ Err Limit
sixteen_axes = refl

-- 'AB'⊤1 1 1 1 1 1 1 1 1 1 1 1 1 1 1⍴5
shape_before_kinds : result_of (encode_row (text (65 ∷ 66 ∷ [])) (numbers (1 ∷ 1 ∷ 1 ∷ 1 ∷ 1 ∷ 1 ∷ 1 ∷ 1 ∷ 1 ∷ 1 ∷ 1 ∷ 1 ∷ 1 ∷ 1 ∷ 1 ∷ []) (5 ∷ []))) ≡ Err Limit
shape_before_kinds = refl

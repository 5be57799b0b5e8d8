-- Worked examples of exact folds and of the values of digits.
use Rattle.std.proofs.Common.{◌≡◌, ℤ, pos, ◌+ℤ◌, ◌-ℤ◌, ◌*ℤ◌, [], ◌∷◌, map, refl}
use Rattle.std.specs.List.{range_with_len}
use Rattle.apl_reduce.specs.ExactFolds.{exact_fold_of, HasEndOutside, line_at, exact_reduction, exact_items, exact_inner_product}
use Rattle.apl_reduce.specs.Digits.{exact_digit, exact_carry, place_values}
use Rattle.apl_reduce.proofs.Examples.{scalar, vector, negative, two_by_two, two_by_three}

abbrev plus : ℤ → ℤ → ℤ
plus = λ x y. x +ℤ y

abbrev minus : ℤ → ℤ → ℤ
minus = λ x y. x -ℤ y

abbrev times : ℤ → ℤ → ℤ
times = λ x y. x *ℤ y

-- -/10 4 3, and ×/ of no number
differences : exact_fold_of minus (pos 0) (pos 10 ∷ pos 4 ∷ pos 3 ∷ []) ≡ pos 9
differences = refl

product_of_none : exact_fold_of times (pos 1) [] ≡ pos 1
product_of_none = refl

-- +/¯1 1 9223372036854775807 is refused for the sum of its last two numbers
sum_of_the_last_two : HasEndOutside plus (pos 0) (negative 1 ∷ pos 1 ∷ pos 9223372036854775807 ∷ [])
sum_of_the_last_two = (1, refl)

-- 2 3⍴⍳6: its second row and its third column, and the sums of its columns
second_row : line_at two_by_three 1 (1 ∷ []) ≡ (pos 4 ∷ pos 5 ∷ pos 6 ∷ [])
second_row = refl

third_column : line_at two_by_three 0 (2 ∷ []) ≡ (pos 3 ∷ pos 6 ∷ [])
third_column = refl

sums_of_columns : exact_reduction plus (pos 0) two_by_three 0 ≡ vector (5 ∷ 7 ∷ 9 ∷ [])
sums_of_columns = refl

-- 1 2+.×3 4: the items 3 and 8, and their sum
items_of_a_product : exact_items times (vector (1 ∷ 2 ∷ [])) (vector (3 ∷ 4 ∷ [])) [] ≡ (pos 3 ∷ pos 8 ∷ [])
items_of_a_product = refl

sum_of_products : exact_inner_product plus (pos 0) times (vector (1 ∷ 2 ∷ [])) (vector (3 ∷ 4 ∷ [])) ≡ scalar 11
sum_of_products = refl

-- 2+.×2 2⍴⍳4
number_with_columns : exact_inner_product plus (pos 0) times (scalar 2) two_by_two ≡ vector (8 ∷ 12 ∷ [])
number_with_columns = refl

-- 24 60 60⊤3723: the digits, and what is carried before each radix and before the end
digits_of_seconds : map (exact_digit (pos 24 ∷ pos 60 ∷ pos 60 ∷ []) (pos 3723)) (range_with_len 0 3) ≡ (pos 1 ∷ pos 2 ∷ pos 3 ∷ [])
digits_of_seconds = refl

carries_of_seconds : map (exact_carry (pos 24 ∷ pos 60 ∷ pos 60 ∷ []) (pos 3723)) (range_with_len 0 4) ≡ (pos 0 ∷ pos 1 ∷ pos 62 ∷ pos 3723 ∷ [])
carries_of_seconds = refl

-- 24 60 60⊥1 2 3
seconds_of_digits : place_values (pos 24 ∷ pos 60 ∷ pos 60 ∷ []) (pos 1 ∷ pos 2 ∷ pos 3 ∷ []) ≡ (pos 3600 ∷ pos 120 ∷ pos 3 ∷ [])
seconds_of_digits = refl

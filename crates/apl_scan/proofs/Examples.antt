-- Worked examples of f\B, in origin 1.
use Rattle.std.proofs.Common.{◌≡◌, ℕ, ℤ, pos, neg_ℤ, List, [], ◌∷◌, map, length, Ok, Err, refl}
use Rattle.apl_array.specs.declared.axis.Axis.TheVariants.{First, Last, At}
use Rattle.apl_array.specs.declared.axis.Origin.TheVariants.{One}
use Rattle.apl_array.specs.declared.function.ScalarFunction.TheVariants.{Plus, Minus, Times, Divide, Bang, Ceiling, And, Nand, Less, Equal}
use Rattle.apl_array.specs.Array.{ArrayValue, number_array, character_array}
use Rattle.apl_answer.specs.declared.fault.OpFault.TheVariants.{Index, Domain, Limit}
use Rattle.apl_answer.specs.Rows.{result_of}
use Rattle.apl_summary.specs.ConsecutiveSums.{total}
use Rattle.apl_scan.specs.Scanning.{scan_row}
use Rattle.apl_scan.specs.RunningSums.{line_through, running_sums as exact_sums}

abbrev numbers : List ℕ → List ℕ → ArrayValue
numbers shape ns = number_array shape (map pos ns)

abbrev vector : List ℕ → ArrayValue
vector ns = numbers (length ns ∷ []) ns

abbrev integers : List ℤ → ArrayValue
integers ns = number_array (length ns ∷ []) ns

abbrev negative : ℕ → ℤ
negative n = neg_ℤ (pos n)

abbrev text : List ℕ → ArrayValue
text cs = character_array (length cs ∷ []) cs

abbrev two_by_three : ArrayValue
two_by_three = numbers (2 ∷ 3 ∷ []) (1 ∷ 2 ∷ 3 ∷ 4 ∷ 5 ∷ 6 ∷ [])

-- +\1 2 3, +\2 3⍴⍳6, +⍀2 3⍴⍳6 and +\[1]2 3⍴⍳6
running_sums : result_of (scan_row Plus (vector (1 ∷ 2 ∷ 3 ∷ [])) Last) ≡ Ok (vector (1 ∷ 3 ∷ 6 ∷ []))
running_sums = refl

sums_along_rows : result_of (scan_row Plus two_by_three Last) ≡ Ok (numbers (2 ∷ 3 ∷ []) (1 ∷ 3 ∷ 6 ∷ 4 ∷ 9 ∷ 15 ∷ []))
sums_along_rows = refl

sums_along_columns : result_of (scan_row Plus two_by_three First) ≡ Ok (numbers (2 ∷ 3 ∷ []) (1 ∷ 2 ∷ 3 ∷ 5 ∷ 7 ∷ 9 ∷ []))
sums_along_columns = refl

sums_along_axis_one : result_of (scan_row Plus two_by_three (At (pos 1) One)) ≡ Ok (numbers (2 ∷ 3 ∷ []) (1 ∷ 2 ∷ 3 ∷ 5 ∷ 7 ∷ 9 ∷ []))
sums_along_axis_one = refl

-- +\5 ¯9223372036854775808 ¯1, whose results are all in the range
sum_of_an_end_past_the_range : result_of (scan_row Plus (integers (pos 5 ∷ negative 9223372036854775808 ∷ negative 1 ∷ [])) Last) ≡ Err Limit
sum_of_an_end_past_the_range = refl

-- -\1 2 3, ×\1 2 3 4, ⌈\3 1 4 1 5, !\5 3 2 and <\0 0 1 1
alternating_sums : result_of (scan_row Minus (vector (1 ∷ 2 ∷ 3 ∷ [])) Last) ≡ Ok (integers (pos 1 ∷ negative 1 ∷ pos 2 ∷ []))
alternating_sums = refl

products : result_of (scan_row Times (vector (1 ∷ 2 ∷ 3 ∷ 4 ∷ [])) Last) ≡ Ok (vector (1 ∷ 2 ∷ 6 ∷ 24 ∷ []))
products = refl

greatest_so_far : result_of (scan_row Ceiling (vector (3 ∷ 1 ∷ 4 ∷ 1 ∷ 5 ∷ [])) Last) ≡ Ok (vector (3 ∷ 3 ∷ 4 ∷ 4 ∷ 5 ∷ []))
greatest_so_far = refl

combinations_from_the_right : result_of (scan_row Bang (vector (5 ∷ 3 ∷ 2 ∷ [])) Last) ≡ Ok (vector (5 ∷ 0 ∷ 0 ∷ []))
combinations_from_the_right = refl

first_one : result_of (scan_row Less (vector (0 ∷ 0 ∷ 1 ∷ 1 ∷ [])) Last) ≡ Ok (vector (0 ∷ 0 ∷ 1 ∷ 0 ∷ []))
first_one = refl

-- ∧\1 1 0 1, ∧\2 and ∧\1 2 0
all_so_far : result_of (scan_row And (vector (1 ∷ 1 ∷ 0 ∷ 1 ∷ [])) Last) ≡ Ok (vector (1 ∷ 1 ∷ 0 ∷ 0 ∷ []))
all_so_far = refl

single_item_untested : result_of (scan_row And (numbers [] (2 ∷ [])) Last) ≡ Ok (numbers [] (2 ∷ []))
single_item_untested = refl

no_truth_value : result_of (scan_row And (vector (1 ∷ 2 ∷ 0 ∷ [])) Last) ≡ Err Domain
no_truth_value = refl

-- =\'AB', ⌈\,'A', ⍲\⍳0 and 3↑,=\0 2⍴'A' before the take
characters_refused : result_of (scan_row Equal (text (65 ∷ 66 ∷ [])) Last) ≡ Err Domain
characters_refused = refl

single_character_untested : result_of (scan_row Ceiling (text (65 ∷ [])) Last) ≡ Ok (text (65 ∷ []))
single_character_untested = refl

no_items : result_of (scan_row Nand (vector []) Last) ≡ Ok (vector [])
no_items = refl

no_rows_of_characters : result_of (scan_row Equal (character_array (0 ∷ 2 ∷ []) []) Last) ≡ Ok (number_array (0 ∷ 2 ∷ []) [])
no_rows_of_characters = refl

-- +\[1]5
scalar_has_no_axis : result_of (scan_row Plus (numbers [] (5 ∷ [])) (At (pos 1) One)) ≡ Err Index
scalar_has_no_axis = refl

-- ÷\2 2⍴6 4 ¯9223372036854775808 ¯1 and ÷\2 2⍴¯9223372036854775808 ¯1 6 4: the fault of the least place
domain_first : result_of (scan_row Divide (number_array (2 ∷ 2 ∷ []) (pos 6 ∷ pos 4 ∷ negative 9223372036854775808 ∷ negative 1 ∷ [])) Last) ≡ Err Domain
domain_first = refl

limit_first : result_of (scan_row Divide (number_array (2 ∷ 2 ∷ []) (negative 9223372036854775808 ∷ negative 1 ∷ pos 6 ∷ pos 4 ∷ [])) Last) ≡ Err Limit
limit_first = refl

-- the same sums in exact numbers
exact_sums_along_rows : exact_sums two_by_three 1 ≡ numbers (2 ∷ 3 ∷ []) (1 ∷ 3 ∷ 6 ∷ 4 ∷ 9 ∷ 15 ∷ [])
exact_sums_along_rows = refl

exact_sums_along_columns : exact_sums two_by_three 0 ≡ numbers (2 ∷ 3 ∷ []) (1 ∷ 2 ∷ 3 ∷ 5 ∷ 7 ∷ 9 ∷ [])
exact_sums_along_columns = refl

-- the third column of 2 3⍴⍳6, and the sum of its items
third_column : line_through two_by_three 0 (1 ∷ 2 ∷ []) ≡ (pos 3 ∷ pos 6 ∷ [])
third_column = refl

sum_of_third_column : total (line_through two_by_three 0 (1 ∷ 2 ∷ [])) ≡ pos 9
sum_of_third_column = refl

-- Worked examples of f/B, in origin 1.
use Rattle.std.proofs.Common.{◌≡◌, pos, [], ◌∷◌, Ok, Err, refl}
use Rattle.apl_array.specs.declared.axis.Axis.TheVariants.{First, Last, At}
use Rattle.apl_array.specs.declared.axis.Origin.TheVariants.{One}
use Rattle.apl_array.specs.declared.function.ScalarFunction.TheVariants.{Plus, Minus, Times, Less, Equal, Nand, Floor}
use Rattle.apl_answer.specs.declared.fault.OpFault.TheVariants.{Index, Domain, Limit}
use Rattle.apl_answer.specs.Rows.{result_of}
use Rattle.apl_reduce.specs.Reducing.{reduce_row}
use Rattle.apl_reduce.proofs.Examples.{scalar, vector, numbers, integers, zeros, text, letter, negative, two_by_three}

-- +/9223372036854775807 1 ¯1
sum_within_the_range : result_of (reduce_row Plus (integers (pos 9223372036854775807 ∷ pos 1 ∷ negative 1 ∷ [])) Last) ≡ Ok (scalar 9223372036854775807)
sum_within_the_range = refl

-- +/¯1 1 9223372036854775807
partial_sum_past_the_range : result_of (reduce_row Plus (integers (negative 1 ∷ pos 1 ∷ pos 9223372036854775807 ∷ [])) Last) ≡ Err Limit
partial_sum_past_the_range = refl

-- ×/0 4611686018427387904 2
product_past_the_range_before_zero : result_of (reduce_row Times (vector (0 ∷ 4611686018427387904 ∷ 2 ∷ [])) Last) ≡ Err Limit
product_past_the_range_before_zero = refl

-- -/10 4 3
differences_from_the_right : result_of (reduce_row Minus (vector (10 ∷ 4 ∷ 3 ∷ [])) Last) ≡ Ok (scalar 9)
differences_from_the_right = refl

-- </1 5 3
comparisons_from_the_right : result_of (reduce_row Less (vector (1 ∷ 5 ∷ 3 ∷ [])) Last) ≡ Ok (scalar 0)
comparisons_from_the_right = refl

-- +/2 3⍴⍳6, +⌿2 3⍴⍳6 and +/[1]2 3⍴⍳6
sums_of_rows : result_of (reduce_row Plus two_by_three Last) ≡ Ok (vector (6 ∷ 15 ∷ []))
sums_of_rows = refl

sums_of_columns : result_of (reduce_row Plus two_by_three First) ≡ Ok (vector (5 ∷ 7 ∷ 9 ∷ []))
sums_of_columns = refl

sums_along_axis_one : result_of (reduce_row Plus two_by_three (At (pos 1) One)) ≡ Ok (vector (5 ∷ 7 ∷ 9 ∷ []))
sums_along_axis_one = refl

-- +/,'A', =/'ABC' and +/'AB'
single_character_untested : result_of (reduce_row Plus (text (65 ∷ [])) Last) ≡ Ok (letter 65)
single_character_untested = refl

characters_compared : result_of (reduce_row Equal (text (65 ∷ 66 ∷ 67 ∷ [])) Last) ≡ Ok (scalar 0)
characters_compared = refl

characters_not_added : result_of (reduce_row Plus (text (65 ∷ 66 ∷ [])) Last) ≡ Err Domain
characters_not_added = refl

-- ⌊/⍳0, ⍲/⍳0, +⌿0 3⍴0 and +/0 3⍴0
least_of_none : result_of (reduce_row Floor (vector []) Last) ≡ Ok (scalar 9223372036854775807)
least_of_none = refl

no_identity : result_of (reduce_row Nand (vector []) Last) ≡ Err Domain
no_identity = refl

identities_of_empty_columns : result_of (reduce_row Plus (zeros (0 ∷ 3 ∷ [])) First) ≡ Ok (vector (0 ∷ 0 ∷ 0 ∷ []))
identities_of_empty_columns = refl

no_sums : result_of (reduce_row Plus (zeros (0 ∷ 3 ∷ [])) Last) ≡ Ok (vector [])
no_sums = refl

-- +/[1]5, and +⌿0 1073741824 1073741824⍴0
scalar_has_no_axis : result_of (reduce_row Plus (scalar 5) (At (pos 1) One)) ≡ Err Index
scalar_has_no_axis = refl

columns_past_a_limit : result_of (reduce_row Plus (numbers (0 ∷ 1073741824 ∷ 1073741824 ∷ []) []) First) ≡ Err Limit
columns_past_a_limit = refl

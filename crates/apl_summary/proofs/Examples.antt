-- Worked examples of folds and of summaries, with values from arithmetic by hand.
use Rattle.std.proofs.Common.{◌≡◌, ℤ, pos, negsuc, neg_ℤ, [], ◌∷◌, true, false, Ok, Err, refl}
use Rattle.apl_array.specs.declared.function.ScalarFunction.TheVariants.{Plus, Minus, Times, Ceiling, And, Less}
use Rattle.apl_pool.specs.declared.kernel.Fault.TheVariants.{Domain, Limit}
use Rattle.apl_pool.specs.Summaries.{fold_onto}
use Rattle.apl_scalar.specs.Scalar.{dyadic_numbers}
use Rattle.apl_summary.specs.Constants.{bounds, constants, constants_of_one, constants_of_both, signed_outcome}
use Rattle.apl_summary.specs.Coefficients.{coefficients, coefficients_of_one, coefficients_of_both, scaled_outcome}
use Rattle.apl_summary.specs.Extremes.{extremum_of_one, extremum_of_both, extreme_outcome}
use Rattle.apl_summary.specs.Answers.{answers_of_one, answers_of_both, two_valued_outcome}

-- 2 ^ 63 - 1, - 2 ^ 63, and 2 ^ 62
abbrev greatest : ℤ
greatest = pos 9223372036854775807

abbrev least : ℤ
least = neg_ℤ (pos 9223372036854775808)

abbrev half : ℤ
half = pos 4611686018427387904

-- ---- folds of lists

-- the partial result 1 + greatest leaves the range, though the whole sum is in it
ends_of_sums_decide : fold_onto (dyadic_numbers Plus) (negsuc 0 ∷ pos 1 ∷ []) greatest ≡ Err Limit
ends_of_sums_decide = refl

sum_up_to_the_greatest : fold_onto (dyadic_numbers Plus) (negsuc 0 ∷ pos 1 ∷ []) (pos 9223372036854775806) ≡ Ok (pos 9223372036854775806)
sum_up_to_the_greatest = refl

-- 10 - (4 - (3 - 2))
differences_alternate : fold_onto (dyadic_numbers Minus) (pos 10 ∷ pos 4 ∷ pos 3 ∷ []) (pos 2) ≡ Ok (pos 7)
differences_alternate = refl

least_from_zero : fold_onto (dyadic_numbers Minus) (pos 0 ∷ []) least ≡ Err Limit
least_from_zero = refl

least_from_less_than_zero : fold_onto (dyadic_numbers Minus) (negsuc 0 ∷ []) least ≡ Ok greatest
least_from_less_than_zero = refl

ends_of_products_decide : fold_onto (dyadic_numbers Times) (negsuc 0 ∷ half ∷ []) (pos 2) ≡ Err Limit
ends_of_products_decide = refl

product_down_to_the_least : fold_onto (dyadic_numbers Times) (half ∷ []) (negsuc 1) ≡ Ok least
product_down_to_the_least = refl

zero_does_not_hide_a_product : fold_onto (dyadic_numbers Times) (pos 0 ∷ half ∷ []) (pos 2) ≡ Err Limit
zero_does_not_hide_a_product = refl

zero_comes_in : fold_onto (dyadic_numbers Times) (pos 0 ∷ half ∷ []) (pos 0) ≡ Ok (pos 0)
zero_comes_in = refl

greatest_of_three : fold_onto (dyadic_numbers Ceiling) (pos 3 ∷ pos 9 ∷ []) (pos 5) ≡ Ok (pos 9)
greatest_of_three = refl

-- 1 < (5 < 3)
comparisons_from_the_right : fold_onto (dyadic_numbers Less) (pos 1 ∷ pos 5 ∷ []) (pos 3) ≡ Ok (pos 0)
comparisons_from_the_right = refl

two_is_no_truth_value : fold_onto (dyadic_numbers And) (pos 0 ∷ pos 2 ∷ []) (pos 1) ≡ Err Domain
two_is_no_truth_value = refl

-- ---- the same by summaries

sums : signed_outcome (constants_of_both true (constants_of_one true (negsuc 0)) (constants_of_one true (pos 1))) greatest ≡ Err Limit
sums = refl

sums_up_to_the_greatest : signed_outcome (constants_of_both true (constants_of_one true (negsuc 0)) (constants_of_one true (pos 1))) (pos 9223372036854775806) ≡ Ok (pos 9223372036854775806)
sums_up_to_the_greatest = refl

-- 3 less it, 4 - 3 and it, and 10 - 4 + 3 less it
differences : constants_of_both false (constants_of_one false (pos 10)) (constants_of_both false (constants_of_one false (pos 4)) (constants_of_one false (pos 3)))
    ≡ constants 3 true (pos 9) (bounds (pos 0) (pos 1)) (bounds (pos 3) (pos 9))
differences = refl

differences_nested_to_the_left : constants_of_both false (constants_of_both false (constants_of_one false (pos 10)) (constants_of_one false (pos 4))) (constants_of_one false (pos 3))
    ≡ constants 3 true (pos 9) (bounds (pos 0) (pos 1)) (bounds (pos 3) (pos 9))
differences_nested_to_the_left = refl

products : scaled_outcome (coefficients_of_both (coefficients_of_one (negsuc 0)) (coefficients_of_one half)) (pos 2) ≡ Err Limit
products = refl

products_with_zero : scaled_outcome (coefficients_of_both (coefficients_of_one (pos 0)) (coefficients_of_one half)) (pos 1) ≡ Ok (pos 0)
products_with_zero = refl

-- 2 ^ 63 times ¯1 is the least number
most_coefficient : scaled_outcome (coefficients_of_both (coefficients_of_one (pos 2)) (coefficients_of_one half)) (negsuc 0) ≡ Ok least
most_coefficient = refl

coefficients_are_held : coefficients_of_both (coefficients_of_one least) (coefficients_of_one least) ≡ coefficients 2 (pos 9223372036854775809) least (pos 9223372036854775809)
coefficients_are_held = refl

extremes : extreme_outcome false (extremum_of_both false (extremum_of_one (pos 3)) (extremum_of_one (pos 9))) (pos 5) ≡ Ok (pos 9)
extremes = refl

least_of_three : extreme_outcome true (extremum_of_both true (extremum_of_one (pos 3)) (extremum_of_one (pos 9))) (pos 5) ≡ Ok (pos 3)
least_of_three = refl

comparisons : two_valued_outcome Less (answers_of_both Less (answers_of_one (pos 1)) (answers_of_one (pos 5))) (pos 3) ≡ Ok (pos 0)
comparisons = refl

truth_values : two_valued_outcome And (answers_of_both And (answers_of_one (pos 0)) (answers_of_one (pos 2))) (pos 1) ≡ Err Domain
truth_values = refl
